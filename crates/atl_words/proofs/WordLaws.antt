-- Laws of the words of a line, by its first byte, and of the index of a word in the text. b is the first byte of a line
-- and bs are those after it. `bytes` are those of a word, `to_end` is how many bytes the line has from the word's first
-- byte on, and `end` is the index of the text at which the line ends. i is an index of a line, n a number of its bytes,
-- and `mid` and `rest` are what a line ends with. `position_or_len p xs` is the index of the first element of the list
-- xs that passes the test p, or else the length of xs.
use Rattle.std.proofs.Common.{◌≡◌, ℕ, zero, suc, ◌+◌, ◌*◌, ◌-◌, ◌<◌, ◌≤◌, Bool, ◌||◌, not, true, false, cond, eqb, List, [], ◌∷◌, ◌++◌, length, get_or, take, drop, min, Some, None, nat_lt, refl, sym, ap, ◌∙◌, arith}
use Rattle.std.specs.List.{slice_range, position, position_or_len, before_first}
use Rattle.std.specs.Option.{unwrap_or}
use Rattle.std.proofs.lemmas.List.Sums.{prefix_len-le-length}
use Rattle.std.specs.Char.{is_ascii_digit, digit_value}
use Rattle.std.specs.Str.Parse.{digits_value}
use Rattle.std.proofs.lemmas.Int.Digits.{digits_value_more}
use Rattle.std.proofs.lemmas.Bool.Decides.{nat_tests}
use Rattle.std.proofs.lemmas.Bool.{cond-true, cond-false, or_parts, true≢false}
use Rattle.std.proofs.lemmas.List.{length-append, drop_at, take_at, drop-drop, take-append-drop, append_assoc, drop_min, take_rest, at_drop_more, at_drop_all}
use Rattle.std.proofs.Math.Nat.{min_comm}
use Rattle.atl_world.specs.Letters.{quote}
use Rattle.atl_words.specs.Letters.{semicolon}
use Rattle.atl_words.specs.Words.{is_blank, is_quote, ends_word, words_after, words}
use Rattle.atl_words.specs.Positions.{IsPartOf, EndsWith, EndsAt}

-- ---- the index of the first element that passes a test, or the length

index_or_length : (t : Bool) (n m : ℕ) → nat_lt n m ≡ t → n ≤ m → unwrap_or (cond t (Some n) None) m ≡ n
index_or_length true n m h l = refl
index_or_length false n m h l = grind (arith, nat_tests)

pub found_within : {X : Type 0} (p : X → Bool) (xs : List X) → position_or_len p xs ≤ length xs
found_within p xs = prefix_len-le-length (λ x. not (p x)) xs

pub found_or_len : {X : Type 0} (p : X → Bool) (xs : List X)
    → unwrap_or (position p xs) (length xs) ≡ position_or_len p xs
found_or_len p xs =
    index_or_length (nat_lt (position_or_len p xs) (length xs)) (position_or_len p xs) (length xs) refl
    (found_within p xs)

-- ---- words

pub words_after-drop : (skip : ℕ) (line : List ℕ) → words_after skip line ≡ words (drop skip line)
unfolding words_after
words_after-drop zero line = refl
words_after-drop (suc skip) [] = refl
words_after-drop (suc skip) (b ∷ bs) = words_after-drop skip bs

pub words-nil : words [] ≡ []
unfolding words_after
words-nil = refl

pub words-blank : (b : ℕ) (bs : List ℕ) → is_blank b ≡ true → words (b ∷ bs) ≡ words bs
unfolding words_after
words-blank b bs h = cond-true (is_blank b) _ _ h

pub words-comment : (bs : List ℕ) → words (semicolon ∷ bs) ≡ []
unfolding words_after
words-comment bs = refl

-- the first word of a line that begins with a quote ends at the next quote or the line's end; the others come after it
pub words-quoted : (bs : List ℕ)
    → words (quote ∷ bs)
    ≡ record { bytes = before_first is_quote bs; quoted = true } ∷ words (drop 1 (drop (position_or_len is_quote bs) bs))
unfolding words_after
words-quoted bs =
    ap (λ ws. record { bytes = before_first is_quote bs; quoted = true } ∷ ws)
    (words_after-drop (position_or_len is_quote bs + 1) bs ∙ ap words (sym (drop-drop 1 (position_or_len is_quote bs) bs)))

-- in a line b ∷ bs, what follows a word of 1 + n bytes whose first byte b doesn't end words is bs without n bytes
drop-bare : (t : Bool) (n b : ℕ) (bs : List ℕ) → t ≡ false
    → drop (cond (not t) (1 + n) 0 - 1) bs ≡ drop (cond (not t) (1 + n) 0) (b ∷ bs)
drop-bare true n b bs h = absurd (true≢false h)
drop-bare false n b bs h =
    let less : 1 + n - 1 ≡ n = omega arith in
    let more : 1 + n ≡ suc n = omega arith in
    rw (less, more) refl

-- A line that begins with a byte b that doesn't end words has a first word without quotes, and then the words of the
-- rest. This word has the bytes up to the first that ends words, or to the line's end.
pub words-bare : (b : ℕ) (bs : List ℕ) → ends_word b ≡ false
    → words (b ∷ bs)
    ≡ record { bytes = before_first ends_word (b ∷ bs); quoted = false } ∷ words (drop (position_or_len ends_word (b ∷ bs)) (b ∷ bs))
unfolding words_after
words-bare b bs h =
    let one = or_parts (is_blank b || is_quote b) (eqb b semicolon) h in
    let two = or_parts (is_blank b) (is_quote b) one.0 in
    cond-false (is_blank b) _ _ two.0 ∙ cond-false (eqb b semicolon) _ _ one.1 ∙ cond-false (is_quote b) _ _ two.1
    ∙ ap (λ ws. record { bytes = before_first ends_word (b ∷ bs); quoted = false } ∷ ws) (words_after-drop (position_or_len ends_word (b ∷ bs) - 1) bs ∙ ap words (drop-bare (ends_word b) _ b bs h))

-- A line that isn't empty, and whose first byte doesn't end words, has a first word without quotes, and then the words
-- of the rest. This word has the bytes up to the first that ends words, or to the line's end.
pub words-bare_line : (line : List ℕ) → 0 < length line → ends_word (get_or line 0 0) ≡ false
    → words line
    ≡ record { bytes = before_first ends_word line; quoted = false } ∷ words (drop (position_or_len ends_word line) line)
words-bare_line [] p h = absurd (omega arith)
words-bare_line (b ∷ bs) p h = words-bare b bs h

-- what is left of bs after `closing` bytes is bs without its first byte, if `closing` is 1, or 0 where bs are empty
pub after_closing : (bs : List ℕ) (closing : ℕ) → closing ≡ min (length bs) 1
    → take (length bs - closing) (drop closing bs) ≡ drop 1 bs
after_closing bs closing e = take_rest bs closing ∙ ap (λ n. drop n bs) (e ∙ min_comm (length bs) 1) ∙ drop_min 1 bs

digit_value_of : (b : ℕ) → is_ascii_digit b ≡ true → digit_value b ≡ b - 48
digit_value_of b h = grind (arith, nat_tests)

-- if the byte at i is a digit, the number up to it is ten times that of the bytes before i, plus this byte less 48
pub one_digit_more : (bytes : List ℕ) (i : ℕ) → i < length bytes → is_ascii_digit (get_or bytes i 0) ≡ true
    → digits_value 10 (take (i + 1) bytes) ≡ digits_value 10 (take i bytes) * 10 + (get_or bytes i 0 - 48)
one_digit_more bytes i h digit =
    digits_value_more 10 bytes i h
    ∙ ap (λ n. digits_value 10 (take i bytes) * 10 + n) (digit_value_of (get_or bytes i 0) digit)

pub comment_at : (line : List ℕ) (i : ℕ) → i < length line → get_or line i 0 ≡ semicolon → words (drop i line) ≡ []
comment_at line i h e =
    at_drop_more words line i 0 h ∙ ap (λ b. words (b ∷ drop (i + 1) line)) e ∙ words-comment (drop (i + 1) line)

pub blank_at : (line : List ℕ) (i : ℕ) → i < length line → is_blank (get_or line i 0) ≡ true
    → words (drop (i + 1) line) ≡ words (drop i line)
blank_at line i h e = sym (at_drop_more words line i 0 h ∙ words-blank (get_or line i 0) (drop (i + 1) line) e)

pub end_of_words : (line : List ℕ) (i : ℕ) → length line ≤ i → words (drop i line) ≡ []
end_of_words line i h = at_drop_all words line i h ∙ words-nil

-- ---- where words are in a line and a text

pub ends_after : (line : List ℕ) (n : ℕ) → EndsWith line (drop n line)
ends_after line n = record { front = take n line; whole = sym (take-append-drop n line) }

pub ends_further : (line mid rest : List ℕ) → EndsWith line mid → EndsWith mid rest → EndsWith line rest
ends_further line mid rest a b =
    record { front = a.front ++ b.front; whole = a.whole ∙ ap (λ l. a.front ++ l) b.whole ∙ sym (append_assoc a.front b.front rest) }

-- where a line ends with `mid`, a part of `mid` is a part of the line, with as many bytes to the end
pub part_further : (line mid bytes : List ℕ) (to_end : ℕ) → EndsWith line mid → IsPartOf mid bytes to_end
    → IsPartOf line bytes to_end
part_further line mid bytes to_end a b =
    record { front = a.front ++ b.front; back = b.back; whole = a.whole ∙ ap (λ l. a.front ++ l) b.whole ∙ sym (append_assoc a.front b.front (bytes ++ b.back)); to_end_is = b.to_end_is }

-- a line ends with the bytes after its first n, which are as many as its length less n
pub ends_at : (line : List ℕ) (n : ℕ) → EndsWith line (take (length line - n) (drop n line))
ends_at line n = rw (take_rest line n) (ends_after line n)

pub ends_shorter : (line rest : List ℕ) → EndsWith line rest → length rest ≤ length line
ends_shorter line rest e = omega (arith, ap length e.whole, length-append e.front rest)

pub part_shorter : (line bytes : List ℕ) (to_end : ℕ) → IsPartOf line bytes to_end
    → (length bytes ≤ to_end) × (to_end ≤ length line)
part_shorter line bytes to_end s =
    let a : length line ≡ length s.front + length (bytes ++ s.back) = ap length s.whole ∙ length-append s.front (bytes ++ s.back) in
    let b : length (bytes ++ s.back) ≡ length bytes + length s.back = length-append bytes s.back in
    (omega (arith, s.to_end_is), omega (arith, s.to_end_is))

pub ends_at_further : (text : List ℕ) (end : ℕ) (line rest : List ℕ) → EndsAt text end line → EndsWith line rest
    → EndsAt text end rest
ends_at_further text end line rest a e = record {
  front = a.front ++ e.front;
  back = a.back;
  whole = a.whole ∙ ap (λ l. a.front ++ (l ++ a.back)) e.whole ∙ ap (λ l. a.front ++ l) (append_assoc e.front rest a.back) ∙ sym (append_assoc a.front e.front (rest ++ a.back));
  end_is = ap length (append_assoc a.front e.front rest ∙ ap (λ l. a.front ++ l) (sym e.whole)) ∙ a.end_is;
}

-- the bytes of a word are those of the text from index `end` - `to_end` on, as many as the word has
pub bytes_in_span : (text : List ℕ) (end : ℕ) (line bytes : List ℕ) (to_end : ℕ) → EndsAt text end line
    → IsPartOf line bytes to_end → slice_range text (end - to_end) (end - to_end + length bytes) ≡ bytes
bytes_in_span text end line bytes to_end a s =
    let whole : text ≡ (a.front ++ s.front) ++ (bytes ++ (s.back ++ a.back)) =
    a.whole ∙ ap (λ l. a.front ++ (l ++ a.back)) s.whole
    ∙ ap (λ l. a.front ++ l) (append_assoc s.front (bytes ++ s.back) a.back)
    ∙ sym (append_assoc a.front s.front ((bytes ++ s.back) ++ a.back))
    ∙ ap (λ l. (a.front ++ s.front) ++ l) (append_assoc bytes s.back a.back) in
    let ends : length (a.front ++ line) ≡ length a.front + length line = length-append a.front line in
    let parts : length line ≡ length s.front + length (bytes ++ s.back) = ap length s.whole ∙ length-append s.front (bytes ++ s.back) in
    let fronts : length (a.front ++ s.front) ≡ length a.front + length s.front = length-append a.front s.front in
    let start : length (a.front ++ s.front) ≡ end - to_end = omega (arith, a.end_is, s.to_end_is) in
    let count : end - to_end + length bytes - (end - to_end) ≡ length bytes = omega arith in
    let here : drop (end - to_end) text ≡ bytes ++ (s.back ++ a.back) = ap (drop (end - to_end)) whole ∙ drop_at (a.front ++ s.front) (bytes ++ (s.back ++ a.back)) (end - to_end) start in
    ap (λ n. take n (drop (end - to_end) text)) count ∙ ap (take (length bytes)) here
    ∙ take_at bytes (s.back ++ a.back) (length bytes) refl

pub ends_with_all : (text : List ℕ) → EndsWith text text
ends_with_all text = record { front = []; whole = refl }

pub ends_at_fits : (text : List ℕ) (end : ℕ) (line : List ℕ) → EndsAt text end line → length line ≤ end
ends_at_fits text end line e = omega (arith, e.end_is, length-append e.front line)
