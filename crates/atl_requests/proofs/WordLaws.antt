-- Laws on the words of the dice: the first words of a generator, one by one. `g` is a generator, `w` its next word, and
-- `next` the generator after this word.
use Rattle.std.proofs.Common.{◌≡◌, ℕ, suc, ◌-◌, ◌+◌, ◌<◌, List, [], ◌∷◌, ◌++◌, sym, ap, ◌∙◌, arith}
use Rattle.std.proofs.lemmas.List.{append_assoc}
use Rattle.rand_pcg.specs.Lcg.{Lcg}
use Rattle.rand_pcg.specs.Pcg.{pcg32}
use Rattle.atl_requests.specs.Dice.{word_of, next_generator, first_words}

-- the first `n + 1` words of a generator are its next word `w` and the first `n` of the generator `next` after it
words_step : (n : ℕ) (g : Lcg) (w : ℕ) (next : Lcg) → (w, next) ≡ pcg32 g
    → first_words (suc n) g ≡ w ∷ first_words n next
unfolding first_words word_of next_generator
words_step n g w next e = ap (λ (q : ℕ × Lcg). q.0 ∷ first_words n q.1) (sym e)

-- For the loop of `month_words`, which has found `counter` words, fewer than `count`: the next word `w` of the
-- generator moves from the words still to come to the end of those found. The list of both stays the same.
pub word_more : (found : List ℕ) (count counter : ℕ) (g : Lcg) (w : ℕ) (next : Lcg) → (w, next) ≡ pcg32 g
    → counter < count
    → (found ++ w ∷ []) ++ first_words (count - (counter + 1)) next ≡ found ++ first_words (count - counter) g
word_more found count counter g w next e h =
    append_assoc found (w ∷ []) (first_words (count - (counter + 1)) next)
    ∙ ap (λ l. found ++ l) (sym (words_step (count - (counter + 1)) g w next e))
    ∙ ap (λ n. found ++ first_words n g) (omega arith)
