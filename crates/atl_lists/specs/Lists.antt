-- For proofs alone: the lists of units by region, faction and structure. A unit's keys are the numbers of its faction,
-- region and structure. Putting a number in keeps a sorted list sorted. What is taken out for n is the first number
-- that isn't below n, if any: n itself in a sorted list that has n.
use Rattle.std.specs.Prelude.{◌≡◌, ◌==◌, ℕ, List, [], unwrap_or, Some, None, if◌then◌else◌}
use Rattle.std.specs.Ordering.{nat_cmp}
use Rattle.std.specs.FinMap.{FinMap, get, insert, remove}
use Rattle.atl_world.specs.Sums.{numbers_where}
use Rattle.atl_records.specs.declared.records.Unit.{Unit}
use Rattle.atl_containers.specs.Ordered.{put_number, take_number}
use Rattle.atl_lists.specs.declared.lists.ListKeys.{ListKeys}
use Rattle.atl_lists.specs.declared.lists.UnitLists.{UnitLists}

-- the list of numbers that `lists` has under key k; the empty list where it has none
abbrev pub list_of : FinMap nat_cmp (List ℕ) → ℕ → List ℕ
list_of lists k = unwrap_or (get lists k) []

-- `lists` has under each key the numbers of the units with this key (`belongs_to` gives a unit's), in rising order
abbrev pub AreLists : (Unit → ℕ) → FinMap nat_cmp Unit → FinMap nat_cmp (List ℕ) → Type 0
AreLists belongs_to units lists = (k : ℕ) → list_of lists k ≡ numbers_where (λ u. belongs_to u == k) units

-- both maps have the same list under each key, where a key without a list counts as one with the empty list
abbrev pub SameLists : FinMap nat_cmp (List ℕ) → FinMap nat_cmp (List ℕ) → Type 0
SameLists new old = (k : ℕ) → list_of new k ≡ list_of old k

-- the lists with n put into the list of `key`, unless `key` is `other`: the key in whose list n is already, or 0, which
-- has no list
abbrev pub listed_unless : FinMap nat_cmp (List ℕ) → ℕ → ℕ → ℕ → FinMap nat_cmp (List ℕ)
listed_unless lists n key other = if key == other then lists else insert lists key (put_number n (list_of lists key))

-- the lists with n taken out of the list of `key`, unless `key` is `other`: the key in whose list n is to stay, or 0,
-- which has no list
abbrev pub unlisted_unless : FinMap nat_cmp (List ℕ) → ℕ → ℕ → ℕ → FinMap nat_cmp (List ℕ)
unlisted_unless lists n key other = if key == other then lists else insert lists key (take_number n (list_of lists key))

-- under each structure are the numbers of the units inside it, in rising order, and under 0 none
abbrev pub AreInsideLists : FinMap nat_cmp Unit → FinMap nat_cmp (List ℕ) → Type 0
AreInsideLists units lists =
    (s : ℕ) → list_of lists s ≡ (if s == 0 then [] else numbers_where (λ u. u.structure == s) units)

-- the lists with n moved from the list of structure `from` to that of `to`, and unchanged if both are one; structure 0
-- has no list
abbrev pub relisted_inside : FinMap nat_cmp (List ℕ) → ℕ → ℕ → ℕ → FinMap nat_cmp (List ℕ)
relisted_inside lists n from to = if from == to then lists else unlisted_unless (listed_unless lists n to 0) n from 0

-- each unit is in the list of its region, its faction, and its structure unless that is 0, and in no other; lists rise
pub record AreUnitLists (units : FinMap nat_cmp Unit) (lists : UnitLists) : Type 0 where
  pub regions : AreLists (λ u. u.region) units lists.by_region
  pub factions : AreLists (λ u. u.faction) units lists.by_faction
  pub structures : AreInsideLists units lists.by_structure

-- the keys of the lists that a unit is in: its faction, region and structure
abbrev pub list_keys_of : Unit → ListKeys
list_keys_of u = record { faction = u.faction; region = u.region; structure = u.structure }

-- `new` lists one unit more than `old`: if `old` has the lists of units without a unit n, `new` has those of the same
-- units with a unit n, whose keys are l
abbrev pub ListsUnit : ℕ → ListKeys → UnitLists → UnitLists → Type 0
ListsUnit n l old new =
    (units : FinMap nat_cmp Unit) (u : Unit) → list_keys_of u ≡ l → get units n ≡ None
    → AreUnitLists units old → AreUnitLists (insert units n u) new

-- `new` lists the same units as `old`, where none has the number n: if `old` has the lists of units without a unit n,
-- so has `new`. This is what holds when adding unit n runs out of memory.
abbrev pub KeepsLists : ℕ → UnitLists → UnitLists → Type 0
KeepsLists n old new = (units : FinMap nat_cmp Unit) → get units n ≡ None → AreUnitLists units old → AreUnitLists units new

-- `new` lists one unit less than `old`: if `old` has the lists of units with a unit n, whose keys are l, `new` has
-- those of the same units without n
abbrev pub UnlistsUnit : ℕ → ListKeys → UnitLists → UnitLists → Type 0
UnlistsUnit n l old new =
    (units : FinMap nat_cmp Unit) (u : Unit) → list_keys_of u ≡ l → get units n ≡ Some u
    → AreUnitLists units old → AreUnitLists (remove units n) new

-- `new` lists the same units as `old`: if `old` has the lists of some units, so has `new`. This is what holds when
-- moving a unit runs out of memory.
abbrev pub KeepsAll : UnitLists → UnitLists → Type 0
KeepsAll old new = (units : FinMap nat_cmp Unit) → AreUnitLists units old → AreUnitLists units new

-- `new` lists unit n under the keys `to`, and `old` under `from`. If `old` has the lists of units in which n has the
-- keys `from`, `new` has those of the same units with any unit with the keys `to` in n's place.
abbrev pub RelistsUnit : ℕ → ListKeys → ListKeys → UnitLists → UnitLists → Type 0
RelistsUnit n from to old new =
    (units : FinMap nat_cmp Unit) (u v : Unit) → list_keys_of u ≡ from → list_keys_of v ≡ to → get units n ≡ Some u
    → AreUnitLists units old → AreUnitLists (insert units n v) new
