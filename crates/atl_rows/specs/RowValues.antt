-- How a single value is written in a row, read from one, and judged.
use Rattle.std.specs.Prelude.{ℕ, ℤ, pos, negsuc, Bool, false, not, ◌&&◌, nat_le, min, if◌then◌else◌}
use Rattle.atl_records.specs.Books.{is_zero}
use Rattle.atl_records.specs.Limits.{most_u16, most_u32}

-- a flag as the number of a row: 1 where it is set, else 0
abbrev pub flag : Bool → ℤ
flag set = if set then pos 1 else pos 0

-- a number from 0 to `most` as it is, and `most` for any other
abbrev pub clamp : ℕ → ℤ → ℕ
clamp most (pos n) = min n most
clamp most (negsuc n) = most

-- a number of a row as one of 32 bits; a negative or larger one is read as the largest, which is above all limits
abbrev pub as_u32 : ℤ → ℕ
as_u32 z = clamp most_u32 z

-- a number of a row as one of 16 bits; a negative or larger one is read as the largest
abbrev pub as_u16 : ℤ → ℕ
as_u16 z = clamp most_u16 z

-- whether a flag of a row is set: any number but 0
abbrev pub is_set : ℤ → Bool
is_set z = not (is_zero z)

-- whether a number is from `low` to `high`
abbrev pub is_from : ℕ → ℕ → ℤ → Bool
is_from low high (pos n) = nat_le low n && nat_le n high
is_from low high (negsuc n) = false
