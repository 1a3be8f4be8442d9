-- For proofs alone: an index, which leads from numbers to slots of an arena. An entry of it is a number with its slot.
use Rattle.std.specs.Prelude.{ℕ, List, map}
use Rattle.atl_containers.specs.declared.index.IndexEntry.{IndexEntry}

-- the number of each entry of an index, in the order of the entries
abbrev pub index_numbers : List IndexEntry → List ℕ
index_numbers = map (λ p. p.number)

-- the entries of an index as pairs of number and slot, in their order
abbrev pub slots_of : List IndexEntry → List (ℕ × ℕ)
slots_of = map (λ p. (p.number, p.slot))
