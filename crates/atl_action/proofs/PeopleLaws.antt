-- Laws of units that change only region, structure and guard flag: their number, their factions and what they hold
-- together stay the same. The units are then called the same people. A unit goes elsewhere if it is put into region
-- `to` and structure `structure`, and its guard flag is cleared.
use Rattle.std.proofs.Common.{◌≡◌, ◌==◌, ℕ, ◌+◌, Bool, true, false, Option, Some, None, refl, sym, ap, ◌∙◌, arith}
use Rattle.std.specs.Prelude.{if◌then◌else◌}
use Rattle.std.specs.Ordering.{nat_cmp}
use Rattle.std.specs.FinMap.{FinMap, get, insert, len}
use Rattle.atl_world.specs.Sums.{with_changed_value, with_changed_option, sum_over}
use Rattle.atl_world.proofs.SumLaws.{numbers_where-insert_known, sum_over-insert_known}
use Rattle.atl_records.specs.declared.books.Thing.{Thing}
use Rattle.atl_records.specs.declared.books.Thing.TheVariants.{Item, Money, People}
use Rattle.atl_records.specs.declared.records.Region.{Region}
use Rattle.atl_records.specs.declared.records.Unit.{Unit}
use Rattle.atl_campaign.specs.Good.{guards}
use Rattle.atl_records.specs.Holdings.{amount_of}
use Rattle.atl_campaign.specs.Campaign.{CampaignValue, numbers_inside, numbers_of_faction, with_guard}
use Rattle.atl_campaign.specs.Owners.{with_position}
use Rattle.atl_records.specs.Amounts.{region_amount, unit_amount}
use Rattle.atl_campaign.specs.Totals.{total}
use Rattle.atl_campaign.proofs.InsideLaws.{inside_as_before}
use Rattle.atl_campaign.proofs.RegionLaws.{same_len}
use Rattle.atl_phase.proofs.OutcomeLaws.{false_true}
use Rattle.atl_phase.proofs.ChangeLaws.{changed_twice}
use Rattle.atl_action.proofs.TravelLaws.{IsSameUnit}

-- The units before and after a change are the same people. They are as many, each faction has the same unit numbers,
-- and all together hold as much of each thing.
pub record AreSamePeople (before after : FinMap nat_cmp Unit) : Type 0 where
  pub count : len after ≡ len before
  pub of_factions : (m : ℕ) → numbers_of_faction m after ≡ numbers_of_faction m before
  pub hold : (t : Thing)
      → sum_over (λ (x : Unit). unit_amount t x.holding) after ≡ sum_over (λ (x : Unit). unit_amount t x.holding) before

pub people_same : (m : FinMap nat_cmp Unit) → AreSamePeople m m
people_same m = record { count = refl; of_factions = λ k. refl; hold = λ t. refl }

-- the units are the same people after two changes in turn, if they are so after each
pub people_twice : (a b c : FinMap nat_cmp Unit) → AreSamePeople a b → AreSamePeople b c → AreSamePeople a c
people_twice a b c one two =
    record { count = two.count ∙ one.count; of_factions = λ k. two.of_factions k ∙ one.of_factions k; hold = λ t. two.hold t ∙ one.hold t }

held_same : (u v : Unit) → IsSameUnit u v → (t : Thing) → unit_amount t v.holding ≡ unit_amount t u.holding
held_same u v same Money = same.money
held_same u v same People = same.men
held_same u v same (Item i) = ap (λ items. amount_of items i) same.items

equal_addends_cancel : (a b p q : ℕ) → a + p ≡ b + q → q ≡ p → a ≡ b
equal_addends_cancel a b p q e f = omega arith

-- `f` changes at most region, structure and guard flag of a unit. `m` has the units by their numbers, and `k` is the
-- number of the unit that `f` changes, if it is there.
module _ (f : Unit → Unit) (same : (u : Unit) → IsSameUnit u (f u)) (m : FinMap nat_cmp Unit) (k : ℕ) where
  changed_by : (o : Option Unit) → get m k ≡ o → AreSamePeople m (with_changed_option f m k o)
  changed_by None is = people_same m
  changed_by (Some u) is = record {
    count = same_len m k u (f u) is;
    of_factions = λ j. numbers_where-insert_known (λ x. x.faction == j) m k u (f u) is (ap (λ i. i == j) (sym (same u).faction));
    hold = λ t.
        let stock = λ (x : Unit). unit_amount t x.holding in
        equal_addends_cancel (sum_over stock (insert m k (f u))) (sum_over stock m) (stock u) (stock (f u)) (sum_over-insert_known stock m k u (f u) is) (held_same u (f u) (same u) t);
  }

  -- the units are the same people once `f` has changed unit `k`
  pub people_changed : AreSamePeople m (with_changed_value f m k)
  people_changed = changed_by (get m k) refl

-- ---- units that are put elsewhere, with their flags cleared

-- the numbers of the structure (0 for none) and of the region that units are put into
module _ (structure to : ℕ) where
  -- a unit put into region `to` and structure `structure`, with its guard flag cleared
  abbrev pub put_elsewhere : Unit → Unit
  put_elsewhere x = record x { region = to; structure = structure; holding = record x.holding { guard = false } }

  -- a unit put elsewhere if `b` is true, and otherwise as it was
  abbrev pub put_elsewhere_if : Bool → Unit → Unit
  put_elsewhere_if b x = if b then put_elsewhere x else x

  -- the units, of which unit n, if it is there, is in region `to`, inside structure `structure`, its guard flag cleared
  abbrev pub elsewhere : FinMap nat_cmp Unit → ℕ → FinMap nat_cmp Unit
  elsewhere m n = with_changed_value put_elsewhere m n

  -- putting unit n, if it is there, into region `to` and `structure`, and then clearing its flag, changes the units as
  -- `elsewhere` says, and nothing else of the campaign
  pub elsewhere_is : (c : CampaignValue) (n : ℕ)
      → with_guard (with_position c n to structure) n false ≡ record c { units = elsewhere c.units n }
  elsewhere_is c n =
      changed_twice (λ x. record x { region = to; structure = structure })
      (λ x. record x { holding = record x.holding { guard = false } }) c n

  -- a unit keeps all but region, structure and guard flag (`IsSameUnit`), whether it is put elsewhere or left as it was
  pub put_elsewhere_same : (b : Bool) (x : Unit) → IsSameUnit x (put_elsewhere_if b x)
  put_elsewhere_same true x = record { faction = refl; name = refl; men = refl; money = refl; items = refl; days = refl }
  put_elsewhere_same false x = record { faction = refl; name = refl; men = refl; money = refl; items = refl; days = refl }

  -- if a unit still guards, it didn't go elsewhere, and is as it was
  pub guards_stay : (b : Bool) (x : Unit) → guards (put_elsewhere_if b x) ≡ true → put_elsewhere_if b x ≡ x
  guards_stay true x g = false_true g
  guards_stay false x g = refl

  -- the units are the same people once unit n is put elsewhere
  pub elsewhere_people : (m : FinMap nat_cmp Unit) (n : ℕ) → AreSamePeople m (elsewhere m n)
  elsewhere_people m n = people_changed put_elsewhere (put_elsewhere_same true) m n

  -- if unit n (`v`) is put elsewhere, but into the structure that it is inside, the same units are inside each
  -- structure (`q`) as before
  pub elsewhere_inside : (m : FinMap nat_cmp Unit) (n q : ℕ) (v : Unit) → get m n ≡ Some v → v.structure ≡ structure
      → numbers_inside q (elsewhere m n) ≡ numbers_inside q m
  elsewhere_inside m n q v is here =
      ap (λ o. numbers_inside q (with_changed_option put_elsewhere m n o)) is
      ∙ inside_as_before q m (insert m n (put_elsewhere v)) (numbers_where-insert_known (λ (x : Unit). x.structure == q) m n v (put_elsewhere v) is (ap (λ s. s == q) here))

-- where the units are the same people and the regions are as they were, the total of each thing is the same
pub total_people : (c d : CampaignValue) → AreSamePeople c.units d.units → d.regions ≡ c.regions → (t : Thing)
    → total d t ≡ total c t
unfolding total
total_people c d people regions t =
    let keep = λ (r : Region). region_amount t r in
    ap (λ m. sum_over (λ (x : Unit). unit_amount t x.holding) d.units + sum_over keep m) regions
    ∙ ap (λ n. n + sum_over keep c.regions) (people.hold t)
