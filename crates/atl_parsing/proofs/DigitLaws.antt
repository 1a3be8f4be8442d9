-- Law on the value of decimal digits, which is below a power of 10.
use Rattle.std.proofs.Common.{◌≡◌, ℕ, ◌+◌, ◌*◌, ◌^◌, ◌<◌, ap, ◌∙◌, add-one, arith}
use Rattle.std.proofs.Math.Nat.{pow-succ'}

-- a number of at most `i` digits with one digit more at its end has at most `i + 1` digits
pub digit_more : (value digit i : ℕ) → value < 10 ^ i → digit < 10 → 10 * value + digit < 10 ^ (i + 1)
digit_more value digit i h small = let next : 10 ^ (i + 1) ≡ 10 * 10 ^ i = ap (λ n. 10 ^ n) (add-one i) ∙ pow-succ' 10 i in omega arith
