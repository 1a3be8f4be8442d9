-- Laws on finding region numbers that occur twice: a loop puts each number that it sees into a map, and looks there.
-- `ds` and `all` are the tables of regions in the order of the file, and d is the one at index i.
use Rattle.std.proofs.Common.{◌≡◌, ℕ, ◌+◌, ◌<◌, ◌==◌, ◌||◌, Bool, true, false, cond, List, take, length, get_or, codes, Option, Some, None, refl, sym, ap, ◌∙◌}
use Rattle.std.specs.Cmp.{nat_cmp_total, unsigned_tied}
use Rattle.std.specs.FinMap.{FinMap, get, insert, get-insert}
use Rattle.std.specs.Option.{is_some}
use Rattle.std.specs.Ordering.{nat_cmp, eq_by_cmp}
use Rattle.std.proofs.lemmas.List.Folds.{list_any_more}
use Rattle.atl_tables.specs.declared.region_table.RegionDraft.{RegionDraft}
use Rattle.atl_tables.specs.declared.fault.WorldFault.TheVariants.{TwoNames}
use Rattle.atl_tables.specs.Faults.{first_fault}
use Rattle.atl_tables.specs.Keys.{path, element_path}
use Rattle.atl_tables.specs.Regions.{some_region_has_number, duplicate_number_at}

-- for `seen_more`, where o is what a map has under a number, and b says whether v is put in there
is_some-put : {V : Type 0} (v : V) (b : Bool) (o : Option V) → is_some (cond b (Some v) o) ≡ (is_some o || b)
is_some-put v true None = refl
is_some-put v true (Some w) = refl
is_some-put v false None = refl
is_some-put v false (Some w) = refl

-- a map with exactly the numbers of the first i regions has exactly those of the first i + 1, after the number of the
-- i-th one, counted from 0, is put in with a value v
pub seen_more : {V : Type 0} (m : FinMap nat_cmp V) (v : V) (ds : List RegionDraft) (i : ℕ) (d : RegionDraft)
    → i < length ds → d ≡ get_or ds i d → ((n : ℕ) → is_some (get m n) ≡ some_region_has_number n (take i ds))
    → (n : ℕ) → is_some (get (insert m d.basics.number v) n) ≡ some_region_has_number n (take (i + 1) ds)
seen_more m v ds i d below here seen n =
    ap is_some (get-insert nat_cmp_total m d.basics.number v n)
    ∙ is_some-put v (eq_by_cmp nat_cmp n d.basics.number) (get m n)
    ∙ ap (λ b. b || eq_by_cmp nat_cmp n d.basics.number) (seen n)
    ∙ ap (λ b. some_region_has_number n (take i ds) || b) (unsigned_tied n d.basics.number ∙ ap (λ (e : RegionDraft). n == e.basics.number) here)
    ∙ sym (list_any_more (λ e. n == e.basics.number) ds i d below)

-- the fault of a region's number: TwoNames if a region before it has the number, as b says, else none
pub duplicate_number_fault : (all : List RegionDraft) (i : ℕ) (d : RegionDraft) (b : Bool)
    → some_region_has_number d.basics.number (take i all) ≡ b
    → first_fault (duplicate_number_at all i d)
    ≡ cond b (Some (TwoNames (path (element_path (codes "region") i) (codes "number")))) None
unfolding duplicate_number_at
duplicate_number_fault all i d true h = rw h
duplicate_number_fault all i d false h = rw h
