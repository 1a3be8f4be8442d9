-- How the first line of a text is split off, and at which index of the text it ends. Lines are the pieces between line
-- feeds, each without a carriage return at its end. `left` is what is left of the text, and `rest` what follows a line
-- feed, if there is one. `front` and `mid` are what a text begins with, n is a number of bytes, and `end` the index of
-- the first line feed.
use Rattle.atl_words.proofs.WordLaws.{ends_further}
use Rattle.std.proofs.Common.{Option, Some, None, IfSome, ◌≡◌, ◌≢◌, ℕ, zero, suc, ◌+◌, ◌-◌, ◌<◌, ◌≤◌, Bool, true, false, not, cond, List, [], ◌∷◌, ◌++◌, length, get_or, take, drop, map, refl, sym, ap, ◌∙◌, arith}
use Rattle.std.specs.List.{position, position_or_len}
use Rattle.std.proofs.lemmas.List.{append-nil, take-append-drop, append_assoc, length-append}
use Rattle.atl_words.specs.Positions.{EndsWith, EndsAt, StartsWith}
use Rattle.std.proofs.lemmas.Bool.{eq-eqb, ne_eqb}
use Rattle.std.proofs.lemmas.Bool.Decides.{nat_tests}
use Rattle.atl_words.specs.Letters.{carriage_return}
use Rattle.atl_words.specs.TextLines.{is_feed, with_front, pieces, without_return, lines}

-- for `pieces-feed`: t says whether b is a line feed, and m is the index of the first one in bs, or their length
feed_step : (t : Bool) (b : ℕ) (bs : List ℕ) (m : ℕ) → cond (not t) (1 + m) 0 < suc (length bs)
    → (m < length bs → pieces bs ≡ take m bs ∷ pieces (drop (m + 1) bs))
    → cond t ([] ∷ pieces bs) (with_front b (pieces bs))
    ≡ take (cond (not t) (1 + m) 0) (b ∷ bs) ∷ pieces (drop (cond (not t) (1 + m) 0 + 1) (b ∷ bs))
feed_step true b bs m h rest = refl
feed_step false b bs m h rest =
    let one : 1 + m ≡ suc m = omega arith in
    let two : 1 + m + 1 ≡ suc (m + 1) = omega arith in
    ap (with_front b) (rest (omega arith)) ∙ sym (rw (two, one) refl)

-- the pieces of a text with a line feed are the bytes before the first one, and then the pieces of the text after it
pub pieces-feed : (text : List ℕ) → position_or_len is_feed text < length text
    → pieces text ≡ take (position_or_len is_feed text) text ∷ pieces (drop (position_or_len is_feed text + 1) text)
unfolding pieces
pieces-feed [] h = absurd (omega arith)
pieces-feed (b ∷ bs) h = feed_step (is_feed b) b bs (position_or_len is_feed bs) h (pieces-feed bs)

last_step : (t : Bool) (b : ℕ) (bs : List ℕ) (m : ℕ) → suc (length bs) ≤ cond (not t) (1 + m) 0
    → (length bs ≤ m → pieces bs ≡ bs ∷ []) → cond t ([] ∷ pieces bs) (with_front b (pieces bs)) ≡ (b ∷ bs) ∷ []
last_step true b bs m h rest = absurd (omega arith)
last_step false b bs m h rest = ap (with_front b) (rest (omega arith))

-- a text without a line feed is one piece
pub pieces-last : (text : List ℕ) → length text ≤ position_or_len is_feed text → pieces text ≡ text ∷ []
unfolding pieces
pieces-last [] h = refl
pieces-last (b ∷ bs) h = last_step (is_feed b) b bs (position_or_len is_feed bs) h (pieces-last bs)

-- the lines of a text with a line feed: what is before the first one (`without_return`), then those of what follows it
pub lines_feed : (text : List ℕ) (end : ℕ) → position is_feed text ≡ Some end
    → lines text ≡ without_return (take end text) ∷ lines (drop (end + 1) text)
lines_feed text end h =
    let found : position_or_len is_feed text ≡ end = grind (arith, nat_tests) in
    rw (← found) (ap (map without_return) (pieces-feed text (grind (arith, nat_tests))))

-- a text without a line feed is one line, without the carriage return at its end, if it has one
pub lines_last : (text : List ℕ) → position is_feed text ≡ None → lines text ≡ without_return text ∷ []
lines_last text h = ap (map without_return) (pieces-last text (grind (arith, nat_tests)))

-- a line of n + 1 bytes, the last of them a carriage return, is without it the line's first n bytes
pub return_cut : (line : List ℕ) (n : ℕ) → length line ≡ n + 1 → get_or line n 0 ≡ carriage_return
    → without_return line ≡ take n line
return_cut [] n e h = absurd (omega arith)
return_cut (b ∷ []) zero e h = ap (λ t. cond t [] (b ∷ [])) (eq-eqb b carriage_return h)
return_cut (b ∷ []) (suc n) e h = absurd (omega arith)
return_cut (b ∷ c ∷ bs) zero e h = absurd (omega arith)
return_cut (b ∷ c ∷ bs) (suc n) e h = ap (λ l. b ∷ l) (return_cut (c ∷ bs) n (omega arith) h)

line_kept_by_length : (line : List ℕ) → ((n : ℕ) → length line ≡ n + 1 → get_or line n 0 ≢ carriage_return)
    → without_return line ≡ line
line_kept_by_length [] h = refl
line_kept_by_length (b ∷ []) h = ap (λ t. cond t [] (b ∷ [])) (ne_eqb b carriage_return (h 0 (omega arith)))
line_kept_by_length (b ∷ c ∷ bs) h = ap (λ l. b ∷ l) (line_kept_by_length (c ∷ bs) (λ n e. h (suc n) (omega arith)))

-- a line that is empty, or doesn't end with a carriage return, stays as it is (`without_return`)
pub line_without_return_kept : (line : List ℕ) → (0 < length line → get_or line (length line - 1) 0 ≢ carriage_return)
    → without_return line ≡ line
line_without_return_kept line h =
    line_kept_by_length line (λ n e g. h (omega arith) (ap (λ k. get_or line k 0) (omega arith) ∙ g))

pub all_front : (text : List ℕ) → StartsWith text text
all_front text = record { back = []; whole = sym (append-nil text) }

pub take_front : (text : List ℕ) (n : ℕ) → StartsWith text (take n text)
take_front text n = record { back = drop n text; whole = sym (take-append-drop n text) }

pub front_further : (text mid front : List ℕ) → StartsWith text mid → StartsWith mid front → StartsWith text front
front_further text mid front a b =
    record { back = b.back ++ a.back; whole = a.whole ∙ ap (λ l. l ++ a.back) b.whole ∙ append_assoc front b.back a.back }

-- a line at the start of `left`, the rest of a text, ends at this index of the text: the text's length, less that of
-- `left`, plus the line's own
pub line_ends_at : (text left line : List ℕ) → EndsWith text left → StartsWith left line
    → EndsAt text (length text - length left + length line) line
line_ends_at text left line e s =
    let a : length text ≡ length e.front + length left = ap length e.whole ∙ length-append e.front left in
    let b : length (e.front ++ line) ≡ length e.front + length line = length-append e.front line in
    record { front = e.front; back = s.back; whole = e.whole ∙ ap (λ l. e.front ++ l) s.whole; end_is = omega arith }

pub starts_shorter : (text front : List ℕ) → StartsWith text front → length front ≤ length text
starts_shorter text front s = omega (arith, ap length s.whole, length-append front s.back)

-- if a text ends with `left`, and `left` with what follows a line feed, where there is one, so does the text
pub rest_further : (text left : List ℕ) (rest : Option (List ℕ)) → EndsWith text left → IfSome rest (EndsWith left)
    → IfSome rest (EndsWith text)
rest_further text left None e r = tt
rest_further text left (Some rest) e r = ends_further text left rest e r
