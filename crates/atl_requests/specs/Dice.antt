-- The words of the dice: how a seed gives the words of joins and of months. See docs/FORMATS.md, "Dice".
use Rattle.std.specs.Prelude.{ℕ, zero, suc, List, [], ◌∷◌}
use Rattle.rand_pcg.specs.Lcg.{Lcg, started, increment_of}
use Rattle.rand_pcg.specs.Pcg.{multiplier_64, pcg32}

-- what is added to a faction's number for the random stream of its joining: 10,000; a month has the stream of its own
-- number, which is lower
unfoldable pub joining_streams : ℕ
joining_streams = 10000

-- the generator (PCG32) of a seed and a stream
unfoldable pub generator : (seed stream : ℕ) → Lcg
generator seed stream = started 64 multiplier_64 seed (increment_of 64 stream)

-- the next word of a generator, from 0 to 4,294,967,295
unfoldable pub word_of : Lcg → ℕ
word_of g = (pcg32 g).0

-- the generator after it has given its next word
unfoldable pub next_generator : Lcg → Lcg
next_generator g = (pcg32 g).1

-- the first `count` words of a generator
unfoldable pub first_words : (count : ℕ) → Lcg → List ℕ
first_words zero g = []
first_words (suc count) g = word_of g ∷ first_words count (next_generator g)
