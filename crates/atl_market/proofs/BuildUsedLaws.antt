-- Laws of BUILD: using material that a unit holds keeps what BUILD needs, within its bound on the books
-- (`build_remaining`). `n` is the number of unit `u`, `item` that of the material, and `amount` how much of it the unit
-- uses. `h` is what a unit holds. `e` and `t` are the entry and the thing of an amount of the books.
use Rattle.std.proofs.Common.{◌≡◌, ◌≢◌, ◌==◌, ℕ, ◌+◌, ◌-◌, ◌*◌, ◌≤◌, ◌<◌, Bool, true, false, cond, length, Some, refl, sym, ap, subst, ◌∙◌, arith}
use Rattle.std.specs.Prelude.{pos, neg_ℤ, if◌then◌else◌}
use Rattle.std.proofs.lemmas.Bool.Decides.{nat_tests}
use Rattle.std.specs.Ordering.{nat_cmp, eq_by_cmp}
use Rattle.std.specs.Cmp.{unsigned_ties}
use Rattle.std.specs.FinMap.{get, remove}
use Rattle.atl_world.specs.Worlds.{WorldValue}
use Rattle.atl_world.specs.Sums.{sum_over}
use Rattle.atl_world.proofs.SumLaws.{sum_over-insert_known}
use Rattle.atl_records.specs.declared.books.BooksEntry.{BooksEntry}
use Rattle.atl_records.specs.declared.books.BooksEntry.TheVariants.{Used}
use Rattle.atl_records.specs.declared.books.Thing.{Thing}
use Rattle.atl_records.specs.declared.books.Thing.TheVariants.{Item, Money, People}
use Rattle.atl_records.specs.declared.records.Unit.{Unit}
use Rattle.atl_records.specs.Books.{amount_in, entry_index, thing_index, amount_number}
use Rattle.atl_campaign.specs.Good.{IsSteady}
use Rattle.atl_records.specs.Holdings.{HoldingValue, amount_of, with_amount_of}
use Rattle.atl_records.specs.Limits.{entry_count}
use Rattle.atl_campaign.specs.Campaign.{CampaignValue, with_booking}
use Rattle.atl_records.proofs.EveryEntryLaws.{entry_small}
use Rattle.atl_world.proofs.EveryLaws.{get-insert_other}
use Rattle.atl_campaign.proofs.RegionLaws.{get-insert_same}
use Rattle.atl_records.proofs.RemovedLaws.{sum_over-remove}
use Rattle.atl_phase.specs.Meaning.{LeavesWell, moves_only}
use Rattle.atl_phase.specs.Bounds.{HasRoom, HaveRoom, StepsWell, UsesBound}
use Rattle.atl_records.proofs.HoldingLaws.{compared_equal_is_equal, amount_after_setting}
use Rattle.atl_phase.proofs.MeaningLaws.{amount_room_for_less, near_more}
use Rattle.atl_phase.proofs.OrderEffectLaws.{bound_used_near}
use Rattle.atl_market.specs.Bounds.{CanBuild, build_remaining, still_bookable}
use Rattle.atl_market.specs.Goods.{with_used}
use Rattle.atl_market.proofs.ItemUseLaws.{item_held, used_is, used_up_to}
use Rattle.atl_market.proofs.ThereLaws.{by_unit}

-- ---- what a unit holds less

abbrev with_material_used : HoldingValue → (item amount : ℕ) → HoldingValue
with_material_used h item amount = record h { items = with_amount_of h.items item (amount_of h.items item - amount) }

item_less : (h : HoldingValue) (item amount j : ℕ) → amount ≤ amount_of h.items item
    → amount_of h.items j
    ≡ amount_of (with_material_used h item amount).items j + cond (eq_by_cmp nat_cmp j item) amount 0
item_less h item amount j enough =
    by_test (eq_by_cmp nat_cmp j item) refl
    ∙ ap (λ x. x + cond (eq_by_cmp nat_cmp j item) amount 0) (sym (amount_after_setting h.items item (amount_of h.items item - amount) j))
  where
    here : (x a n : ℕ) → n ≤ a → x ≡ a → x ≡ (a - n) + n
    here x a n l e = omega (arith, l, e)

    by_test : (q : Bool) → eq_by_cmp nat_cmp j item ≡ q
        → amount_of h.items j ≡ cond q (amount_of h.items item - amount) (amount_of h.items j) + cond q amount 0
    by_test true is =
        here (amount_of h.items j) (amount_of h.items item) amount enough
        (ap (amount_of h.items) (compared_equal_is_equal item j is))
    by_test false is = omega arith

-- by how much using `amount` of an item moves an amount of the books: by `amount` under Used of this item, by 0
-- elsewhere
abbrev use_bound : (item amount : ℕ) → BooksEntry → Thing → ℕ
use_bound item amount e (Item j) =
    if entry_index e == entry_index Used then cond (eq_by_cmp nat_cmp j item) amount 0 else 0
use_bound item amount e t = 0

-- using `amount` of an item lowers what BUILD may still book for the holding (`still_bookable`): under Used of the item
-- by `amount`, else not at all
usable_less : (h : HoldingValue) (item amount : ℕ) → amount ≤ amount_of h.items item → (e : BooksEntry) (t : Thing)
    → still_bookable e t h ≡ still_bookable e t (with_material_used h item amount) + use_bound item amount e t
usable_less h item amount enough e Money = refl
usable_less h item amount enough e People = refl
usable_less h item amount enough e (Item j) = by_entry (entry_index e == entry_index Used)
  where
    by_entry : (b : Bool)
        → (if b then amount_of h.items j else 0)
        ≡ (if b then amount_of (with_material_used h item amount).items j else 0) + (if b then cond (eq_by_cmp nat_cmp j item) amount 0 else 0)
    by_entry true = item_less h item amount j enough
    by_entry false = refl

only_used : (item amount : ℕ) (e : BooksEntry) (t : Thing)
    → moves_only amount Used (Item item) e t ≤ use_bound item amount e t
only_used item amount e t = by_number (amount_number e t == amount_number Used (Item item)) refl
  where
    at : (b d : Bool) → b ≡ true → d ≡ true → amount ≤ (if b then cond d amount 0 else 0)
    at true true f g = omega arith
    at true false f g = cc
    at false d f g = cc

    -- for `only_used`: two amounts of the books with the same number are of the same thing and under the same entry
    numbers : (i j p q : ℕ) → entry_count * i + p ≡ entry_count * j + q → p < entry_count → q < entry_count
        → (i ≡ j) × (p ≡ q)
    numbers i j p q e l m = (omega (arith, e, l, m), omega (arith, e, l, m))

    by_thing : (s : Thing)
        → entry_count * thing_index s + entry_index e ≡ entry_count * thing_index (Item item) + entry_index Used
        → amount ≤ use_bound item amount e s
    by_thing Money same = let p = numbers 0 (2 + item) (entry_index e) (entry_index Used) same (entry_small e) (entry_small Used) in absurd (omega (arith, p.0))
    by_thing People same = let p = numbers 1 (2 + item) (entry_index e) (entry_index Used) same (entry_small e) (entry_small Used) in absurd (omega (arith, p.0))
    by_thing (Item j) same =
        let p = numbers (2 + j) (2 + item) (entry_index e) (entry_index Used) same (entry_small e) (entry_small Used) in
        let number : j ≡ item = omega (arith, p.0) in
        let entry : entry_index e ≡ entry_index Used = p.1 in
        at (entry_index e == entry_index Used) (eq_by_cmp nat_cmp j item) (let f : (entry_index e == entry_index Used) ≡ true = grind (arith, nat_tests) in f)
        (sym (unsigned_ties j item) ∙ (let g : (j == item) ≡ true = grind (arith, nat_tests) in g))

    by_number : (b : Bool) → (amount_number e t == amount_number Used (Item item)) ≡ b
        → (if b then amount else 0) ≤ use_bound item amount e t
    by_number true is =
        by_thing t
        (let same : entry_count * thing_index t + entry_index e ≡ entry_count * thing_index (Item item) + entry_index Used = grind (arith, nat_tests) in same)
    by_number false is = omega arith

-- ---- the campaign

sum_falls_with_term : (s t f g x : ℕ) → s + f ≡ t + g → f ≡ g + x → s + x ≡ t
sum_falls_with_term s t f g x e h = omega (arith, e, h)

-- unit `n`, which is `u`, uses `amount` of an item, by the number `item`; `k` is the number of another unit
module _ (w : WorldValue) (c : CampaignValue) (n item amount : ℕ) (u : Unit) (is : get c.units n ≡ Some u) where
  -- the unit after it used `amount` of the item
  abbrev pub user : Unit
  user = record u { holding = with_material_used u.holding item amount }

  -- the campaign after the unit used `amount` of the item, which is booked
  abbrev pub used : CampaignValue
  used =
      with_booking (item_held c n u item (amount_of u.holding.items item - amount)) Used (Item item)
      (neg_ℤ (pos amount))

  pub user_there : get used.units n ≡ Some user
  user_there = get-insert_same c.units n user

  pub others_stay : (k : ℕ) → k ≢ n → get used.units k ≡ get c.units k
  others_stay k apart = get-insert_other c.units n k user apart

  -- the unit holds at least the amount (`enough`), and the world has the item (`known`)
  module _ (enough : amount ≤ amount_of u.holding.items item) (known : item < length w.items) (can : CanBuild w c) where
    well : LeavesWell IsSteady (moves_only amount Used (Item item)) w c used
    well =
        subst (LeavesWell IsSteady (moves_only amount Used (Item item)) w c) (used_is w c n item amount u is)
        (used_up_to w c n item amount amount (omega arith) u is known enough can.steady)

    uses_bound : (e : BooksEntry) (t : Thing)
        → UsesBound (build_remaining c e t) (build_remaining used e t) (amount_in c.books e t) (amount_in used.books e t)
    uses_bound e t =
        let f = λ (x : Unit). still_bookable e t x.holding in
        bound_used_near (use_bound item amount e t) (build_remaining c e t) (build_remaining used e t) (amount_in c.books e t) (amount_in used.books e t)
        (sum_falls_with_term (build_remaining used e t) (build_remaining c e t) (f u) (f user) (use_bound item amount e t) (sum_over-insert_known f c.units n u user is) (usable_less u.holding item amount enough e t))
        (near_more (moves_only amount Used (Item item) e t) (use_bound item amount e t) (amount_in c.books e t) (amount_in used.books e t) (only_used item amount e t) (well.near e t))

    -- using the item keeps what BUILD needs (`CanBuild`), the month and the balance of the books; no amount moves
    -- further than `build_remaining` falls (`StepsWell`)
    pub used_for_well : StepsWell CanBuild build_remaining w c used
    used_for_well = record {
      holds_still = record { steady = well.leaves_it; kinds = can.kinds };
      same_month = well.same_month;
      balances = well.balances;
      uses_bound = uses_bound;
    }

pub same_structures : (c : CampaignValue) (n item amount : ℕ) → (with_used c n item amount).structures ≡ c.structures
same_structures c n item amount = by_unit c n (λ (d : CampaignValue). d.structures ≡ c.structures) _ refl (λ u is. refl)

pub same_next : (c : CampaignValue) (n item amount : ℕ) → (with_used c n item amount).next_structure ≡ c.next_structure
same_next c n item amount =
    by_unit c n (λ (d : CampaignValue). d.next_structure ≡ c.next_structure) _ refl (λ u is. refl)

-- ---- there is room for what a unit may use

-- the books have room for a use of what a unit holds, if they have it for what all units hold (`build_remaining`)
pub used_room : (c : CampaignValue) (n item amount : ℕ) (u : Unit) → get c.units n ≡ Some u
    → amount ≤ amount_of u.holding.items item → HaveRoom (build_remaining c) c
    → HasRoom amount (amount_in c.books Used (Item item))
used_room c n item amount u is enough room =
    let f = λ (x : Unit). still_bookable Used (Item item) x.holding in
    amount_room_for_less amount (build_remaining c Used (Item item)) (amount_in c.books Used (Item item))
    (within amount (amount_of u.holding.items item) (sum_over f (remove c.units n)) (build_remaining c Used (Item item)) enough (sum_over-remove c.units n f u is)) (room Used (Item item))
  where
    within : (a b s r : ℕ) → a ≤ b → s + b ≡ r → a ≤ r
    within a b s r l e = omega (arith, l, e)
