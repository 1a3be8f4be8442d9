-- Laws of rows that are described column by column: values that fit are written and read back, and so are fields.
-- cs are the columns, v values, r fields. `are_small cs` says that the limit of each number is at most most_u32.
-- `so_far` is what `still_in_range` was given.
use Rattle.std.proofs.Common.{◌≡◌, ℕ, zero, suc, ◌≤◌, ◌<◌, ◌&&◌, List, [], ◌∷◌, Bool, true, false, nat_le, refl, sym, ap, ◌∙◌, arith}
use Rattle.std.specs.Prelude.{ℤ, pos, negsuc, ⊤, min}
use Rattle.std.proofs.lemmas.Bool.{and_parts, false≢true}
use Rattle.std.proofs.lemmas.Bool.Decides.{nat_tests}
use Rattle.atl_records.specs.Limits.{most_u32}
use Rattle.atl_rows.specs.RowValues.{flag, as_u32, is_set, is_from}
use Rattle.atl_rows.specs.RowColumns.{Content, Whole, Reference, Flag, Text, Values, Fields, written_row, read_row, still_in_range, row_in_range}
use Rattle.atl_campaign.proofs.AssemblyLaws.{min_small, from_range}

-- whether the limit of each number fits 32 bits
abbrev pub are_small : List Content → Bool
are_small [] = true
are_small (Whole low high ∷ cs) = nat_le high most_u32 && are_small cs
are_small (Reference ∷ cs) = are_small cs
are_small (Flag ∷ cs) = are_small cs
are_small (Text ∷ cs) = are_small cs

-- each number that has a range is in it
abbrev pub AreFrom : (cs : List Content) → Values cs → Type 0
AreFrom [] v = ⊤
AreFrom (Whole low high ∷ cs) v = (low ≤ v.0) × (v.0 ≤ high) × AreFrom cs v.1
AreFrom (Reference ∷ cs) v = AreFrom cs v.1
AreFrom (Flag ∷ cs) v = AreFrom cs v.1
AreFrom (Text ∷ cs) v = AreFrom cs v.1

-- each reference is below most_u32
abbrev pub Refer : (cs : List Content) → Values cs → Type 0
Refer [] v = ⊤
Refer (Whole low high ∷ cs) v = Refer cs v.1
Refer (Reference ∷ cs) v = (v.0 < most_u32) × Refer cs v.1
Refer (Flag ∷ cs) v = Refer cs v.1
Refer (Text ∷ cs) v = Refer cs v.1

-- ---- single fields

min_less : (n m : ℕ) → min n m < m → min n m ≡ n
min_less n m h = grind arith

-- if reading a row's number gives less than most_u32, it is read as it is
pub whole_below : (z : ℤ) → as_u32 z < most_u32 → z ≡ pos (as_u32 z)
whole_below (pos n) h = ap pos (sym (min_less n most_u32 h))
whole_below (negsuc n) h = absurd (omega arith)

pub flag_back : (set : Bool) → is_set (flag set) ≡ set
flag_back true = refl
flag_back false = refl

le_of : (m n : ℕ) → nat_le m n ≡ true → m ≤ n
le_of m n h = grind (arith, nat_tests)

-- a flag that is in range, 0 or 1, is written as it was read
pub flag_whole : (z : ℤ) → is_from 0 1 z ≡ true → flag (is_set z) ≡ z
flag_whole (pos zero) h = refl
flag_whole (pos (suc zero)) h = refl
flag_whole (pos (suc (suc n))) h = let most = le_of (suc (suc n)) 1 (and_parts (nat_le 0 (suc (suc n))) (nat_le (suc (suc n)) 1) h).1 in absurd (omega arith)
flag_whole (negsuc n) h = absurd (false≢true h)

pub flag_in_range : (set : Bool) → is_from 0 1 (flag set) ≡ true
flag_in_range true = refl
flag_in_range false = refl

-- a number from low to high, written into a row, passes the test of this range
pub from_true : (low high n : ℕ) → low ≤ n → n ≤ high → is_from low high (pos n) ≡ true
from_true low high n l h = let least : nat_le low n ≡ true = grind (arith, nat_tests) in let most : nat_le n high ≡ true = grind (arith, nat_tests) in ap (λ b. b && nat_le n high) least ∙ most

-- ---- rows

-- what was so far in range, if the whole is
so_far_true : (cs : List Content) (so_far : Bool) (r : Fields cs) → still_in_range cs so_far r ≡ true → so_far ≡ true
so_far_true [] so_far r h = h
so_far_true (Whole low high ∷ cs) so_far r h = (and_parts so_far (is_from low high r.0) (so_far_true cs _ r.1 h)).0
so_far_true (Reference ∷ cs) so_far r h = so_far_true cs so_far r.1 h
so_far_true (Flag ∷ cs) so_far r h = (and_parts so_far (is_from 0 1 r.0) (so_far_true cs _ r.1 h)).0
so_far_true (Text ∷ cs) so_far r h = so_far_true cs so_far r.1 h

-- values whose numbers are in their ranges, and whose references are below most_u32, are read back from their row
pub values_back : (cs : List Content) → are_small cs ≡ true → (v : Values cs) → AreFrom cs v → Refer cs v
    → read_row cs (written_row cs v) ≡ v
values_back [] small v from refers = refl
values_back (Whole low high ∷ cs) small v from refers =
    let limits = and_parts (nat_le high most_u32) (are_small cs) small in
    let limit = le_of high most_u32 limits.0 in
    let most = from.1 in
    let one = min_small v.0 most_u32 (omega arith) in
    let others = values_back cs limits.1 v.1 from.2 refers in
    λ i. (one i, others i)
values_back (Reference ∷ cs) small v from refers =
    let few = refers.0 in
    let one = min_small v.0 most_u32 (omega arith) in
    let others = values_back cs small v.1 from refers.1 in
    λ i. (one i, others i)
values_back (Flag ∷ cs) small v from refers =
    let one = flag_back v.0 in
    let others = values_back cs small v.1 from refers in
    λ i. (one i, others i)
values_back (Text ∷ cs) small v from refers = let others = values_back cs small v.1 from refers in λ i. (v.0, others i)

-- fields that are in range, and whose references are read as numbers below most_u32, are written as they were read
pub fields_back : (cs : List Content) → are_small cs ≡ true → (so_far : Bool) (r : Fields cs)
    → still_in_range cs so_far r ≡ true → Refer cs (read_row cs r) → written_row cs (read_row cs r) ≡ r
fields_back [] small so_far r h refers = refl
fields_back (Whole low high ∷ cs) small so_far r h refers =
    let limits = and_parts (nat_le high most_u32) (are_small cs) small in
    let here = (and_parts so_far (is_from low high r.0) (so_far_true cs _ r.1 h)).1 in
    let one = sym (from_range low high r.0 (le_of high most_u32 limits.0) here).0 in
    let others = fields_back cs limits.1 _ r.1 h refers in
    λ i. (one i, others i)
fields_back (Reference ∷ cs) small so_far r h refers =
    let one = sym (whole_below r.0 refers.0) in
    let others = fields_back cs small _ r.1 h refers.1 in
    λ i. (one i, others i)
fields_back (Flag ∷ cs) small so_far r h refers =
    let one = flag_whole r.0 (and_parts so_far (is_from 0 1 r.0) (so_far_true cs _ r.1 h)).1 in
    let others = fields_back cs small _ r.1 h refers in
    λ i. (one i, others i)
fields_back (Text ∷ cs) small so_far r h refers =
    let others = fields_back cs small _ r.1 h refers in λ i. (r.0, others i)

-- numbers that are read from fields in range are in range
pub read_from : (cs : List Content) → are_small cs ≡ true → (so_far : Bool) (r : Fields cs)
    → still_in_range cs so_far r ≡ true → AreFrom cs (read_row cs r)
read_from [] small so_far r h = tt
read_from (Whole low high ∷ cs) small so_far r h =
    let limits = and_parts (nat_le high most_u32) (are_small cs) small in
    let here = (and_parts so_far (is_from low high r.0) (so_far_true cs _ r.1 h)).1 in
    let range = from_range low high r.0 (le_of high most_u32 limits.0) here in
    (range.1, range.2, read_from cs limits.1 _ r.1 h)
read_from (Reference ∷ cs) small so_far r h = read_from cs small _ r.1 h
read_from (Flag ∷ cs) small so_far r h = read_from cs small _ r.1 h
read_from (Text ∷ cs) small so_far r h = read_from cs small _ r.1 h

still_true : (cs : List Content) (so_far : Bool) → so_far ≡ true → (v : Values cs) → AreFrom cs v
    → still_in_range cs so_far (written_row cs v) ≡ true
still_true [] so_far so v from = so
still_true (Whole low high ∷ cs) so_far so v from =
    still_true cs _ (ap (λ b. b && is_from low high (pos v.0)) so ∙ from_true low high v.0 from.0 from.1) v.1 from.2
still_true (Reference ∷ cs) so_far so v from = still_true cs _ so v.1 from
still_true (Flag ∷ cs) so_far so v from =
    still_true cs _ (ap (λ b. b && is_from 0 1 (flag v.0)) so ∙ flag_in_range v.0) v.1 from
still_true (Text ∷ cs) so_far so v from = still_true cs _ so v.1 from

-- values whose numbers are in their ranges are written as a row in range
pub written_in_range : (cs : List Content) (v : Values cs) → AreFrom cs v → row_in_range cs (written_row cs v) ≡ true
written_in_range cs v from = still_true cs true refl v from
