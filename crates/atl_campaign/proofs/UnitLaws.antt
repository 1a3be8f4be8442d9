-- Laws of AreUnits, the units' invariant: there is room for all marks, and a unit of which anything is marked is in
-- `marks`. Of these units, `rows` has those whose rows are marked, `goods` those all of whose items and days are, and
-- `items` and `skills` the single ones. Unit n is u before a change, and w after it.
use Rattle.std.proofs.Common.{◌≡◌, ℕ, ◌+◌, ◌≤◌, Bool, true, false, ◌||◌, cond, Option, Some, None, refl, sym, ap, ◌∙◌, arith}
use Rattle.std.specs.Prelude.{is_some, if◌then◌else◌}
use Rattle.std.specs.Ordering.{nat_cmp, eq_by_cmp}
use Rattle.std.specs.Cmp.{nat_cmp_total}
use Rattle.std.specs.FinMap.{FinMap, get, get-empty, get-insert, insert, remove, len, empty}
use Rattle.std.specs.FinSet as set
use Rattle.std.proofs.lemmas.Bool.{false≢true, or_right}
use Rattle.atl_world.specs.RoomySets.{RoomySet, HasRoomForMarks}
use Rattle.atl_world.specs.Sums.{with_changed_option}
use Rattle.atl_world.specs.Tracking.{marked_with}
use Rattle.atl_world.proofs.GeneralLaws.{insert_adds_at_most_one}
use Rattle.atl_world.proofs.SumLaws.{put_same}
use Rattle.atl_world.proofs.TrackLaws.{Room-empty, Room-of, Room-unmarked, Room-lent, Room-over, Room-inserted, Room-without, fits-inserted}
use Rattle.atl_records.specs.declared.records.Unit.{Unit}
use Rattle.atl_records.specs.Holdings.{has_amount, with_amount_of}
use Rattle.atl_records.proofs.HoldingLaws.{set_again}
use Rattle.atl_campaign.specs.Marks.{MarkedThings, AreUnitPartsWithin, thing_marked}
use Rattle.atl_campaign.specs.UnitRoom.{AreUnits}
use Rattle.atl_campaign.specs.Roster.{Roster, unit_if_other_amount, with_item_at}

-- ---- what is marked

or_keeps_implication : (b c d : Bool) → (c ≡ true → d ≡ true) → (b || c) ≡ true → (b || d) ≡ true
or_keeps_implication true c d h e = refl
or_keeps_implication false c d h e = h e

either_there : {V : Type 0} (b : Bool) (v : V) (o : Option V) (d : Bool) → (is_some o ≡ true → d ≡ true)
    → is_some (cond b (Some v) o) ≡ true → (b || d) ≡ true
either_there true v o d h e = refl
either_there false v o d h e = h e

-- if all numbers in the dirty set g are in r too, this is so after n is put into both
pub within_both : (g r : set.FinSet nat_cmp) (n : ℕ) → ((q : ℕ) → set.contains g q ≡ true → set.contains r q ≡ true)
    → (q : ℕ) → set.contains (set.insert g n) q ≡ true → set.contains (set.insert r n) q ≡ true
within_both g r n h q e =
    set.contains-insert nat_cmp_total r n q
    ∙ or_keeps_implication (eq_by_cmp nat_cmp q n) (set.contains g q) (set.contains r q) (h q) (sym (set.contains-insert nat_cmp_total g n q) ∙ e)

-- if all numbers that pass the test `marked` are in the dirty set r, they still are once n is put into it
pub within_more : (marked : ℕ → Bool) (r : set.FinSet nat_cmp) (n : ℕ)
    → ((q : ℕ) → marked q ≡ true → set.contains r q ≡ true) → (q : ℕ) → marked q ≡ true
    → set.contains (set.insert r n) q ≡ true
within_more marked r n h q e =
    set.contains-insert nat_cmp_total r n q ∙ or_right (eq_by_cmp nat_cmp q n) (set.contains r q) (h q e)

-- if all numbers under which g has something are in the dirty set r, this is so after n comes to both
pub within_things : {V : Type 0} (g : FinMap nat_cmp V) (r : set.FinSet nat_cmp) (n : ℕ) (v : V)
    → ((q : ℕ) → is_some (get g q) ≡ true → set.contains r q ≡ true) → (q : ℕ) → is_some (get (insert g n v) q) ≡ true
    → set.contains (set.insert r n) q ≡ true
within_things g r n v h q e =
    set.contains-insert nat_cmp_total r n q
    ∙ either_there (eq_by_cmp nat_cmp q n) v (get g q) (set.contains r q) (h q) (sym (ap is_some (get-insert nat_cmp_total g n v q)) ∙ e)

within-none : AreUnitPartsWithin set.empty set.empty set.empty empty empty
within-none =
    record { rows_within = λ q e. e; goods_within = λ q e. e; items_within = nothing; skills_within = nothing }
  where
    nothing : (q : ℕ) → is_some (get {X = FinMap nat_cmp (Prim.Unit {0})} {R = nat_cmp} empty q) ≡ true
        → set.contains {R = nat_cmp} set.empty q ≡ true
    nothing q e = absurd (false≢true (sym (ap is_some (get-empty nat_cmp q)) ∙ e))

module _ (marks rows goods : set.FinSet nat_cmp) (items skills : MarkedThings) (n : ℕ) (h : AreUnitPartsWithin marks rows goods items skills) where
  within-whole : AreUnitPartsWithin (set.insert marks n) (set.insert rows n) (set.insert goods n) items skills
  within-whole = record {
    rows_within = within_both rows marks n h.rows_within;
    goods_within = within_both goods marks n h.goods_within;
    items_within = within_more _ marks n h.items_within;
    skills_within = within_more _ marks n h.skills_within;
  }

  within-row : AreUnitPartsWithin (set.insert marks n) (set.insert rows n) goods items skills
  within-row = record {
    rows_within = within_both rows marks n h.rows_within;
    goods_within = within_more _ marks n h.goods_within;
    items_within = within_more _ marks n h.items_within;
    skills_within = within_more _ marks n h.skills_within;
  }

  within-item : (group : FinMap nat_cmp (Prim.Unit {0}))
      → AreUnitPartsWithin (set.insert marks n) rows goods (insert items n group) skills
  within-item group = record {
    rows_within = within_more _ marks n h.rows_within;
    goods_within = within_more _ marks n h.goods_within;
    items_within = within_things items marks n group h.items_within;
    skills_within = within_more _ marks n h.skills_within;
  }

  within-skill : (group : FinMap nat_cmp (Prim.Unit {0}))
      → AreUnitPartsWithin (set.insert marks n) rows goods items (insert skills n group)
  within-skill group = record {
    rows_within = within_more _ marks n h.rows_within;
    goods_within = within_more _ marks n h.goods_within;
    items_within = within_more _ marks n h.items_within;
    skills_within = within_things skills marks n group h.skills_within;
  }

-- ---- units

abbrev with_number_marked : RoomySet → ℕ → RoomySet
with_number_marked marks n = record marks { numbers = set.insert marks.numbers n }

abbrev cleared : RoomySet → RoomySet
cleared marks = record marks { numbers = set.empty }

-- an empty dirty set with room for this many marks
abbrev nothing_marked : ℕ → RoomySet
nothing_marked room = record { numbers = set.empty; room = room }

-- the invariant holds of no units, with nothing marked and no room for marks
pub AreUnits-none : AreUnits empty (nothing_marked 0) (nothing_marked 0) (nothing_marked 0) empty empty
AreUnits-none =
    record { within = within-none; marks_fit = Room-empty Unit; rows_fit = Room-empty Unit; goods_fit = Room-empty Unit }

-- the invariant holds of any units with nothing marked, and room to mark each of them
pub AreUnits-of : (units : FinMap nat_cmp Unit)
    → AreUnits units (nothing_marked (len units)) (nothing_marked (len units)) (nothing_marked (len units)) empty empty
AreUnits-of units =
    record { within = within-none; marks_fit = Room-of units; rows_fit = Room-of units; goods_fit = Room-of units }

module _ (units : FinMap nat_cmp Unit) (marks rows goods : RoomySet) (items skills : MarkedThings) where
  -- before a change, there is room for all marks, and each unit of which anything is marked is in `marks` (AreUnits)
  abbrev Before : Type 0
  Before = AreUnits units marks rows goods items skills

  -- the invariant still holds once all marks are cleared
  pub AreUnits-without_marks : Before → AreUnits units (cleared marks) (cleared rows) (cleared goods) empty empty
  AreUnits-without_marks h = record {
    within = within-none;
    marks_fit = Room-unmarked units marks.numbers marks.room h.marks_fit;
    rows_fit = Room-unmarked units rows.numbers rows.room h.rows_fit;
    goods_fit = Room-unmarked units goods.numbers goods.room h.goods_fit;
  }

  -- the invariant still holds once a unit is replaced, as through `get_mut`, and it, its row and all goods are marked
  pub AreUnits-lent : (n : ℕ) (u w : Unit) → get units n ≡ Some u → Before
      → AreUnits (insert units n w) (with_number_marked marks n) (with_number_marked rows n) (with_number_marked goods n) items skills
  AreUnits-lent n u w is h = record {
    within = within-whole marks.numbers rows.numbers goods.numbers items skills n h.within;
    marks_fit = Room-lent units marks.numbers marks.room n (Some u) w is refl h.marks_fit;
    rows_fit = Room-lent units rows.numbers rows.room n (Some u) w is refl h.rows_fit;
    goods_fit = Room-lent units goods.numbers goods.room n (Some u) w is refl h.goods_fit;
  }

  -- the invariant still holds once a unit is replaced, and it and its row are marked
  pub AreUnits-row : (n : ℕ) (u w : Unit) → get units n ≡ Some u → Before
      → AreUnits (insert units n w) (with_number_marked marks n) (with_number_marked rows n) goods items skills
  AreUnits-row n u w is h = record {
    within = within-row marks.numbers rows.numbers goods.numbers items skills n h.within;
    marks_fit = Room-lent units marks.numbers marks.room n (Some u) w is refl h.marks_fit;
    rows_fit = Room-lent units rows.numbers rows.room n (Some u) w is refl h.rows_fit;
    goods_fit = Room-over units goods.numbers goods.room n w (ap is_some is) h.goods_fit;
  }

  -- the invariant still holds once unit n is replaced and marked, and its items with single marks are those in `group`
  pub AreUnits-item : (n : ℕ) (u w : Unit) (group : FinMap nat_cmp (Prim.Unit {0})) → get units n ≡ Some u → Before
      → AreUnits (insert units n w) (with_number_marked marks n) rows goods (insert items n group) skills
  AreUnits-item n u w group is h = record {
    within = within-item marks.numbers rows.numbers goods.numbers items skills n h.within group;
    marks_fit = Room-lent units marks.numbers marks.room n (Some u) w is refl h.marks_fit;
    rows_fit = Room-over units rows.numbers rows.room n w (ap is_some is) h.rows_fit;
    goods_fit = Room-over units goods.numbers goods.room n w (ap is_some is) h.goods_fit;
  }

  -- the invariant still holds once unit n is replaced and marked, and its skills with single marks are those in `group`
  pub AreUnits-skill : (n : ℕ) (u w : Unit) (group : FinMap nat_cmp (Prim.Unit {0})) → get units n ≡ Some u → Before
      → AreUnits (insert units n w) (with_number_marked marks n) rows goods items (insert skills n group)
  AreUnits-skill n u w group is h = record {
    within = within-skill marks.numbers rows.numbers goods.numbers items skills n h.within group;
    marks_fit = Room-lent units marks.numbers marks.room n (Some u) w is refl h.marks_fit;
    rows_fit = Room-over units rows.numbers rows.room n w (ap is_some is) h.rows_fit;
    goods_fit = Room-over units goods.numbers goods.room n w (ap is_some is) h.goods_fit;
  }

  gone_at : (n : ℕ) (o : Option Unit) → get units n ≡ o → is_some o ≡ true → Before
      → AreUnits (remove units n) (with_number_marked marks n) (with_number_marked rows n) (with_number_marked goods n) items skills
  gone_at n None is there h = absurd (false≢true there)
  gone_at n (Some u) is there h = record {
    within = within-whole marks.numbers rows.numbers goods.numbers items skills n h.within;
    marks_fit = Room-without units marks.numbers marks.room n (Some u) is h.marks_fit;
    rows_fit = Room-without units rows.numbers rows.room n (Some u) is h.rows_fit;
    goods_fit = Room-without units goods.numbers goods.room n (Some u) is h.goods_fit;
  }

  -- the invariant still holds once a unit that is there is removed, and it, its row and all its goods are marked
  pub AreUnits-gone : (n : ℕ) → is_some (get units n) ≡ true → Before
      → AreUnits (remove units n) (with_number_marked marks n) (with_number_marked rows n) (with_number_marked goods n) items skills
  AreUnits-gone n there h = gone_at n (get units n) refl there h

-- ---- a unit that is new

-- the dirty set `more` has the same numbers as `marks`, and room for these and, besides, for each unit and for one more
pub record IsWider (units : FinMap nat_cmp Unit) (marks more : RoomySet) : Type 0 where
  pub same : more.numbers ≡ marks.numbers
  pub room : set.len marks.numbers + (len units + 1) ≤ more.room

room_inserted : (units : FinMap nat_cmp Unit) (marks more : RoomySet) (n : ℕ) (w : Unit) → IsWider units marks more
    → set.len more.numbers + len (insert units n w) ≤ more.room
room_inserted units marks more n w h = let l = insert_adds_at_most_one units n w in let as_many = ap set.len h.same in omega (arith, h.room, l, as_many)

-- a dirty set `more` that has the numbers of `marks`, and room for these, for each unit and for one more (IsWider), has
-- room to mark any unit n, new or not
pub fits-new : (units : FinMap nat_cmp Unit) (marks more : RoomySet) (n : ℕ) (w : Unit) → IsWider units marks more
    → set.len (set.insert more.numbers n) ≤ more.room
fits-new units marks more n w h = fits-inserted units more.numbers more.room n w (room_inserted units marks more n w h)

HasRoom-added : (units : FinMap nat_cmp Unit) (marks more : RoomySet) (n : ℕ) (w : Unit) → IsWider units marks more
    → HasRoomForMarks (insert units n w) (with_number_marked more n)
HasRoom-added units marks more n w h =
    Room-inserted units more.numbers more.room n w (room_inserted units marks more n w h)

-- The units' invariant (AreUnits) still holds once unit w is put under n, new or not, and n, its row and all its goods
-- are marked. marks2, rows2 and goods2 are the same dirty sets, with room for their marks, each unit and one more.
pub AreUnits-added : (units : FinMap nat_cmp Unit) (marks rows goods marks2 rows2 goods2 : RoomySet) (items skills : MarkedThings) (n : ℕ) (w : Unit)
    → IsWider units marks marks2 → IsWider units rows rows2 → IsWider units goods goods2
    → AreUnits units marks rows goods items skills
    → AreUnits (insert units n w) (with_number_marked marks2 n) (with_number_marked rows2 n) (with_number_marked goods2 n) items skills
AreUnits-added units marks rows goods marks2 rows2 goods2 items skills n w wider wider2 wider3 h = record {
  within = rw (wider.same, wider2.same, wider3.same) (within-whole marks.numbers rows.numbers goods.numbers items skills n h.within);
  marks_fit = HasRoom-added units marks marks2 n w wider;
  rows_fit = HasRoom-added units rows rows2 n w wider2;
  goods_fit = HasRoom-added units goods goods2 n w wider3;
}

pub same_values : (r : Roster) (values : FinMap nat_cmp Unit) → values ≡ r.values → record r { values = values } ≡ r
same_values r values e = ap (λ (v : FinMap nat_cmp Unit). record r { values = v }) e

-- r has the units with their marks; unit n's amount of `item` is set to `amount` (`with_other`)
module _ (r : Roster) (n item amount : ℕ) where
  abbrev with_other : Unit → Unit
  with_other u = record u { holding = record u.holding { items = with_amount_of u.holding.items item amount } }

  abbrev after : FinMap nat_cmp Unit → Option Unit → Roster
  after units o = record r { values = units; marks = marked_with r.marks n o; items = thing_marked r.items n item o }

  -- setting an item to the amount that the unit has already changes nothing and marks nothing
  pub with_item_again : (u : Unit) → get r.values n ≡ Some u → has_amount u.holding.items item amount ≡ true
      → with_item_at with_other r n item amount ≡ r
  with_item_again u is has =
      let same : with_other u ≡ u = ap (λ items. record u { holding = record u.holding { items = items } }) (set_again u.holding.items item amount has) in
      ap (λ o. after (with_changed_option with_other r.values n o) (unit_if_other_amount item amount o)) is
      ∙ ap (λ b. after (insert r.values n (with_other u)) (if b then None else Some u)) has
      ∙ same_values r (insert r.values n (with_other u)) (put_same r.values n u (with_other u) is same)
