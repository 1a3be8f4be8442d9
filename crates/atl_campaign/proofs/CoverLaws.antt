-- Laws of change marks: each change of a campaign marks all that it changes, and so do several changes in turn.
-- `MarksChanges c d` says that from the marked campaign c to d no mark is lost, and all that changed is marked. No mark
-- is needed for how many things the books have, and whether a 0 is listed as a stock or in the books. In a law of one
-- change, c is the campaign before it, the record that after it, and n the number of what changes. Where c has no
-- faction or region n, nothing changes and nothing is marked. Marks cover a change if all that is not marked stays the
-- same (`Covers`). In laws of several changes, a, b and c are the campaign, or its marks, at moments in turn. Goods are
-- a unit's items and days of study. A thing of a unit or region is an item, a skill, or an item in stock, by its
-- number. A part is here no table, but what has marks of its own (MarkedPart), as the rows of units.
use Rattle.std.proofs.Common.{◌≡◌, ◌≢◌, ◌==◌, ◌||◌, ℕ, Bool, true, false, if◌then◌else◌, Option, Some, None, refl, sym, ap, ◌∙◌, subst, inl, inr, arith, true≢false}
use Rattle.std.specs.Prelude.{ℤ, List, cond, is_some, option_map, unwrap_or}
use Rattle.std.proofs.lemmas.Bool.Decides.{nat_tests}
use Rattle.std.proofs.lemmas.Bool.{or_parts}
use Rattle.std.specs.Cmp.{nat_cmp_total, unsigned_ties}
use Rattle.std.specs.Ordering.{nat_cmp, eq_by_cmp}
use Rattle.std.specs.FinMap.{FinMap, get, get-insert}
use Rattle.std.specs.FinMap as map
use Rattle.std.specs.FinSet.{FinSet, contains, insert, contains-insert}
use Rattle.std.specs.Option.{option_map_or}
use Rattle.atl_world.specs.Groups.{group_of}
use Rattle.atl_world.specs.Sums.{with_changed_value, with_changed_option}
use Rattle.atl_world.specs.Tracking.{marked_with}
use Rattle.atl_world.proofs.GeneralLaws.{same_key, is_equal}
use Rattle.atl_records.specs.declared.books.BooksEntry.{BooksEntry}
use Rattle.atl_records.specs.declared.books.Thing.{Thing}
use Rattle.atl_records.specs.declared.records.Faction.{Faction}
use Rattle.atl_records.specs.declared.records.Region.{Region}
use Rattle.atl_records.specs.declared.records.Structure.{Structure}
use Rattle.atl_records.specs.declared.records.Unit.{Unit}
use Rattle.atl_records.specs.Books.{amount_in, amount_number}
use Rattle.atl_records.specs.Holdings.{amount_of, with_amount_of}
use Rattle.atl_campaign.specs.Covers.{Covers, ThingsStayMarked, StaysMarked, StayMarked, MarksChanges, without_goods, days_under, items_under, said_by_campaign_row, unstocked}
use Rattle.atl_campaign.specs.Marking.{MarksStock, mark_amount, mark_faction, mark_peasants, mark_region, mark_region_money, mark_unit_added}
use Rattle.atl_campaign.specs.Marks.{Marks, MarkedThings, is_thing_marked, thing_marked, with_thing}
use Rattle.atl_campaign.specs.Stocks.{stock_of}
use Rattle.atl_campaign.specs.Campaign.{CampaignValue, MarkedCampaign, faction_changed, region_changed, with_booking, with_peasants, with_region_money, with_stock}
use Rattle.atl_world.proofs.EveryLaws.{get-insert_other}
use Rattle.atl_records.proofs.HoldingLaws.{amount_after_setting, set_other}
use Rattle.atl_campaign.proofs.RegionLaws.{booking-other_amount}

contrapositive : (a b : Bool) → (a ≡ true → b ≡ true) → b ≡ false → a ≡ false
contrapositive true b stays free = absurd (true≢false (sym (stays refl) ∙ free))
contrapositive false b stays free = refl

-- what isn't marked after some changes wasn't marked before them, if no mark is lost
pub was_unmarked : (before after : FinSet nat_cmp) → StaysMarked before after → (n : ℕ) → contains after n ≡ false
    → contains before n ≡ false
was_unmarked before after stays n free = contrapositive (contains before n) (contains after n) (stays n) free

pub stay-trans : {a b c : Marks} → StayMarked a b → StayMarked b c → StayMarked a c
stay-trans one two = record {
  factions = λ n h. two.factions n (one.factions n h);
  regions = λ n h. two.regions n (one.regions n h);
  markets = λ n h. two.markets n (one.markets n h);
  stocks = λ n t h. two.stocks n t (one.stocks n t h);
  structures = λ n h. two.structures n (one.structures n h);
  mail = λ n h. two.mail n (one.mail n h);
  reports = λ n h. two.reports n (one.reports n h);
  units = λ n h. two.units n (one.units n h);
  rows = λ n h. two.rows n (one.rows n h);
  goods = λ n h. two.goods n (one.goods n h);
  items = λ n t h. two.items n t (one.items n t h);
  skills = λ n t h. two.skills n t (one.skills n t h);
  books = λ n h. two.books n (one.books n h);
  row = λ h. two.row (one.row h);
}

-- the marks n cover two changes together, from a to b and from b to c, if they cover the second and keep all of the
-- marks m, which cover the first
pub covers-trans : {m n : Marks} (a b c : CampaignValue) → StayMarked m n → Covers m a b → Covers n b c → Covers n a c
covers-trans {m} {n} a b c stay one two = record {
  factions = λ k free. two.factions k free ∙ one.factions k (was_unmarked m.factions n.factions stay.factions k free);
  regions = λ k free. two.regions k free ∙ one.regions k (was_unmarked m.regions n.regions stay.regions k free);
  stocks = λ k t free. two.stocks k t free ∙ one.stocks k t (contrapositive (is_thing_marked m.stocks m.stock_items k t) (is_thing_marked n.stocks n.stock_items k t) (stay.stocks k t) free);
  structures = λ k free. two.structures k free ∙ one.structures k (was_unmarked m.structures n.structures stay.structures k free);
  mail = λ k free. two.mail k free ∙ one.mail k (was_unmarked m.mail n.mail stay.mail k free);
  reports = λ k free. two.reports k free ∙ one.reports k (was_unmarked m.reports n.reports stay.reports k free);
  units = λ k free. two.units k free ∙ one.units k (was_unmarked m.rows n.rows stay.rows k free);
  items = λ k t free. two.items k t free ∙ one.items k t (contrapositive (is_thing_marked m.goods m.items k t) (is_thing_marked n.goods n.items k t) (stay.items k t) free);
  days = λ k t free. two.days k t free ∙ one.days k t (contrapositive (is_thing_marked m.goods m.skills k t) (is_thing_marked n.goods n.skills k t) (stay.skills k t) free);
  books = λ e t free. two.books e t free ∙ one.books e t (was_unmarked m.books n.books stay.books (amount_number e t) free);
  row = λ free. two.row free ∙ one.row (contrapositive m.row n.row stay.row free);
}

-- two changes in turn, each of which marks all that it changes, are together such a change
pub marks-trans : (a b c : MarkedCampaign) → MarksChanges a b → MarksChanges b c → MarksChanges a c
marks-trans a b c one two =
    record { stay = stay-trans one.stay two.stay; covers = covers-trans a.value b.value c.value two.stay one.covers two.covers }

-- ---- one change at a time

or-true : (b : Bool) → (b || true) ≡ true
or-true true = refl
or-true false = refl

-- marking one number more loses no mark
pub put_stays : (marks : FinSet nat_cmp) (n : ℕ) → StaysMarked marks (insert marks n)
put_stays marks n k h =
    contains-insert nat_cmp_total marks n k ∙ ap (λ b. eq_by_cmp nat_cmp k n || b) h ∙ or-true (eq_by_cmp nat_cmp k n)

equal_numbers_compare_equal : (k n : ℕ) → k ≡ n → eq_by_cmp nat_cmp k n ≡ true
equal_numbers_compare_equal k n e = sym (unsigned_ties k n) ∙ (let t : (k == n) ≡ true = grind (arith, nat_tests) in t)

put_there : (marks : FinSet nat_cmp) (n k : ℕ) → k ≡ n → contains (insert marks n) k ≡ true
put_there marks n k e =
    contains-insert nat_cmp_total marks n k ∙ ap (λ b. b || contains marks k) (equal_numbers_compare_equal k n e)

-- a number that isn't marked once n is marked is another than n
pub unmarked_differs_from_put : (marks : FinSet nat_cmp) (n k : ℕ) → contains (insert marks n) k ≡ false → k ≢ n
unmarked_differs_from_put marks n k free same = absurd (true≢false (sym (put_there marks n k same) ∙ free))

-- ---- things of units and regions: `goods` has those all of whose things are marked, `things` has the single marks

both_stay : (a b c d : Bool) → (a ≡ true → b ≡ true) → (c ≡ true → d ≡ true) → (a || c) ≡ true → (b || d) ≡ true
both_stay true b c d one two h = ap (λ x. x || d) (one refl)
both_stay false b c d one two h = ap (λ x. b || x) (two h) ∙ or-true b

-- marking all things (items, skills or stocks) of unit or region n loses no mark of a thing
pub whole_stays : (goods : FinSet nat_cmp) (things : MarkedThings) (n : ℕ)
    → ThingsStayMarked goods things (insert goods n) things
whole_stays goods things n k t =
    both_stay (contains goods k) (contains (insert goods n) k) (is_some (get (group_of things k) t))
    (is_some (get (group_of things k) t)) (put_stays goods n k) (λ h. h)

-- if a thing of k isn't marked once all things of n are, k is another than n
pub apart_by_whole : (goods : FinSet nat_cmp) (things : MarkedThings) (n k t : ℕ)
    → is_thing_marked (insert goods n) things k t ≡ false → k ≢ n
apart_by_whole goods things n k t free =
    unmarked_differs_from_put goods n k
    (or_parts (contains (insert goods n) k) (is_some (get (group_of things k) t)) free).0

module _ (goods : FinSet nat_cmp) (things : MarkedThings) (n thing : ℕ) where
  -- once `thing` of unit or region n is marked, thing t of unit or region k has a mark of its own exactly if it is that
  -- thing or had such a mark before
  put_in : (k t : ℕ)
      → is_some (get (group_of (with_thing things n thing) k) t)
      ≡ cond (eq_by_cmp nat_cmp k n) (eq_by_cmp nat_cmp t thing || is_some (get (group_of things n) t)) (is_some (get (group_of things k) t))
  put_in k t =
      ap (λ (o : Option (FinMap nat_cmp (Prim.Unit {0}))). is_some (get (unwrap_or o map.empty) t)) (get-insert nat_cmp_total things n (map.insert (group_of things n) thing tt) k)
      ∙ by_unit (eq_by_cmp nat_cmp k n)
    where
      by_thing : (b : Bool) (o : Option (Prim.Unit {0})) → is_some (cond b (Some tt) o) ≡ (b || is_some o)
      by_thing true o = refl
      by_thing false o = refl

      by_unit : (b : Bool)
          → is_some (get (unwrap_or (cond b (Some (map.insert (group_of things n) thing tt)) (get things k)) map.empty) t)
          ≡ cond b (eq_by_cmp nat_cmp t thing || is_some (get (group_of things n) t)) (is_some (get (group_of things k) t))
      by_unit true =
          ap is_some (get-insert nat_cmp_total (group_of things n) thing tt t)
          ∙ by_thing (eq_by_cmp nat_cmp t thing) (get (group_of things n) t)
      by_unit false = refl

  -- marking one thing (an item, a skill or a stock) of unit or region n loses no mark of a thing
  pub thing_stays : ThingsStayMarked goods things goods (with_thing things n thing)
  thing_stays k t =
      both_stay (contains goods k) (contains goods k) (is_some (get (group_of things k) t))
      (is_some (get (group_of (with_thing things n thing) k) t)) (λ h. h)
      (λ h. put_in k t ∙ by_unit h (eq_by_cmp nat_cmp k n) refl)
    where
      by_unit : is_some (get (group_of things k) t) ≡ true → (b : Bool) → eq_by_cmp nat_cmp k n ≡ b
          → cond b (eq_by_cmp nat_cmp t thing || is_some (get (group_of things n) t)) (is_some (get (group_of things k) t))
          ≡ true
      by_unit h true e =
          ap (λ q. eq_by_cmp nat_cmp t thing || is_some (get (group_of things q) t)) (sym (same_key k n e))
          ∙ ap (λ b. eq_by_cmp nat_cmp t thing || b) h ∙ or-true (eq_by_cmp nat_cmp t thing)
      by_unit h false e = h

  -- a thing t of n that isn't marked once `thing` of n is marked is another than `thing`
  pub apart_by_thing : (k t : ℕ) → is_thing_marked goods (with_thing things n thing) k t ≡ false → k ≡ n → t ≢ thing
  apart_by_thing k t free same_unit same =
      let there = put_in k t ∙ ap (λ b. cond b (eq_by_cmp nat_cmp t thing || is_some (get (group_of things n) t)) (is_some (get (group_of things k) t))) (equal_numbers_compare_equal k n same_unit)
      ∙ ap (λ b. b || is_some (get (group_of things n) t)) (equal_numbers_compare_equal t thing same) in
      absurd (true≢false (sym there ∙ (or_parts (contains goods k) (is_some (get (group_of (with_thing things n thing) k) t)) free).1))

-- ---- the parts of a campaign, which are marked each for itself

-- what of a campaign has marks of its own, called a part here; laws of marks are proved part by part
pub data MarkedPart : Type 0 where
  Factions : MarkedPart
  -- the rows of regions, without their stocks, marked by the regions' numbers
  Regions : MarkedPart
  -- the regions of which a stock is marked; the stocks themselves are the part Stocks
  Markets : MarkedPart
  Stocks : MarkedPart
  Structures : MarkedPart
  Mail : MarkedPart
  Reports : MarkedPart
  -- the units of which something is marked; the parts Rows, Goods, Items and Skills say what
  Units : MarkedPart
  -- the rows of units, without their goods, marked by the units' numbers
  Rows : MarkedPart
  -- the units all of whose items and days are marked at once; single items and days are the parts Items and Skills
  Goods : MarkedPart
  Items : MarkedPart
  Skills : MarkedPart
  -- the amounts of the books, marked by the amounts' numbers (amount_number)
  Books : MarkedPart
  -- the campaign row
  Row : MarkedPart

-- what names one mark of a part: region and item for Stocks, unit and thing for Items and Skills, nothing for Row,
-- and one number for each other part
abbrev pub MarkKey : MarkedPart → Type 0
MarkKey Stocks = ℕ × ℕ
MarkKey Items = ℕ × ℕ
MarkKey Skills = ℕ × ℕ
MarkKey Row = Prim.Unit {0}
MarkKey _ = ℕ

-- whether the mark k of a part is set; a stock, an item or a skill is also marked with all of its region or unit
abbrev pub is_marked : (p : MarkedPart) → Marks → MarkKey p → Bool
is_marked Factions m k = contains m.factions k
is_marked Regions m k = contains m.regions k
is_marked Markets m k = contains m.markets k
is_marked Stocks m k = is_thing_marked m.stocks m.stock_items k.0 k.1
is_marked Structures m k = contains m.structures k
is_marked Mail m k = contains m.mail k
is_marked Reports m k = contains m.reports k
is_marked Units m k = contains m.units k
is_marked Rows m k = contains m.rows k
is_marked Goods m k = contains m.goods k
is_marked Items m k = is_thing_marked m.goods m.items k.0 k.1
is_marked Skills m k = is_thing_marked m.goods m.skills k.0 k.1
is_marked Books m k = contains m.books k
is_marked Row m k = m.row

-- what a value of a part is looked up by. It is region and item for Stocks, unit and thing for Items and Skills, entry
-- and thing for Books, nothing for Row, and one number for each other part.
abbrev pub LookupKey : MarkedPart → Type 0
LookupKey Stocks = ℕ × ℕ
LookupKey Items = ℕ × ℕ
LookupKey Skills = ℕ × ℕ
LookupKey Books = BooksEntry × Thing
LookupKey Row = Prim.Unit {0}
LookupKey _ = ℕ

-- the mark that covers the value of a part under a key: the key itself, but for Books the number of the amount
abbrev pub mark_at : (p : MarkedPart) → LookupKey p → MarkKey p
mark_at Books k = amount_number k.0 k.1
mark_at _ k = k

-- the type of a part's values that its marks cover; nothing for Units, Goods and Markets, which other parts cover
abbrev pub CoveredValue : MarkedPart → Type 0
CoveredValue Factions = Option Faction
CoveredValue Regions = Option Region
CoveredValue Markets = Prim.Unit {0}
CoveredValue Stocks = ℕ
CoveredValue Structures = Option Structure
CoveredValue Mail = Option (List ℕ)
CoveredValue Reports = Option (List ℕ)
CoveredValue Units = Prim.Unit {0}
CoveredValue Rows = Option Unit
CoveredValue Goods = Prim.Unit {0}
CoveredValue Items = Option ℕ
CoveredValue Skills = Option ℕ
CoveredValue Books = ℤ
CoveredValue Row = ℕ × (List ℕ × (ℕ × (ℕ × ℕ)))

-- What the marks of a part cover under a key; nothing for Units, Goods and Markets, which other parts cover. Of a
-- region it is all but its stocks (Regions), and of a unit all but its goods (Rows).
abbrev pub covered_value : (p : MarkedPart) → CampaignValue → LookupKey p → CoveredValue p
covered_value Factions c k = get c.factions k
covered_value Regions c k = option_map unstocked (get c.regions k)
covered_value Markets c k = tt
covered_value Stocks c k = stock_of c k.0 k.1
covered_value Structures c k = get c.structures k
covered_value Mail c k = get c.mail k
covered_value Reports c k = get c.reports k
covered_value Units c k = tt
covered_value Rows c k = option_map without_goods (get c.units k)
covered_value Goods c k = tt
covered_value Items c k = get (items_under (get c.units k.0)) k.1
covered_value Skills c k = get (days_under (get c.units k.0)) k.1
covered_value Books c k = amount_in c.books k.0 k.1
covered_value Row c k = said_by_campaign_row c

-- each mark of part p that is set in the marks m is set in the marks n too
abbrev pub PartStaysMarked : Marks → Marks → MarkedPart → Type 0
PartStaysMarked m n p = (k : MarkKey p) → is_marked p m k ≡ true → is_marked p n k ≡ true

-- each value of part p that is not marked in the marks m is the same in the campaigns `before` and `after`
abbrev pub KeepsUnmarked : Marks → CampaignValue → CampaignValue → MarkedPart → Type 0
KeepsUnmarked m before after p =
    (k : LookupKey p) → is_marked p m (mark_at p k) ≡ false → covered_value p after k ≡ covered_value p before k

-- MarksChanges holds if for each part no mark is lost, and all values that are not marked are unchanged
pub part_by_part : (a b : MarkedCampaign) → ((p : MarkedPart) → PartStaysMarked a.marks b.marks p)
    → ((p : MarkedPart) → KeepsUnmarked b.marks a.value b.value p) → MarksChanges a b
part_by_part a b stays says = record {
  stay = record {
    factions = stays Factions;
    regions = stays Regions;
    markets = stays Markets;
    stocks = λ n t. stays Stocks (n, t);
    structures = stays Structures;
    mail = stays Mail;
    reports = stays Reports;
    units = stays Units;
    rows = stays Rows;
    goods = stays Goods;
    items = λ n t. stays Items (n, t);
    skills = λ n t. stays Skills (n, t);
    books = stays Books;
    row = stays Row tt;
  };
  covers = record {
    factions = says Factions;
    regions = says Regions;
    stocks = λ n item. says Stocks (n, item);
    structures = says Structures;
    mail = says Mail;
    reports = says Reports;
    units = says Rows;
    items = λ n t. says Items (n, t);
    days = λ n t. says Skills (n, t);
    books = λ e t. says Books (e, t);
    row = says Row tt;
  };
}

-- a campaign that stays as it is has all changes marked
pub marks-refl : (a : MarkedCampaign) → MarksChanges a a
marks-refl a = part_by_part a a (λ p k h. h) (λ p k free. refl)

-- P holds of the map after f changed the value under n, if any, and of that value before. This supposes that P holds of
-- the map as it is and None, and of the map with `f v` under n and `Some v`, where v is n's value.
pub holds_of_changed : {V : Type 0} (P : FinMap nat_cmp V → Option V → Type 0) (f : V → V) (values : FinMap nat_cmp V) (n : ℕ)
    → P values None → ((v : V) → get values n ≡ Some v → P (map.insert values n (f v)) (Some v))
    → P (with_changed_value f values n) (get values n)
holds_of_changed {V} P f values n none some = by_value (get values n) refl
  where
    by_value : (o : Option V) → get values n ≡ o → P (with_changed_option f values n o) o
    by_value None is = none
    by_value (Some v) is = some v is

-- changing faction n by any function f, with the faction marked, marks all that changes
pub marks-faction : (f : Faction → Faction) (c : MarkedCampaign) (n : ℕ)
    → MarksChanges c (record { value = faction_changed f c.value n; marks = mark_faction c n })
marks-faction f c n =
    let after : FinMap nat_cmp Faction → Option Faction → MarkedCampaign = λ m o. record { value = record c.value { factions = m }; marks = record c.marks { factions = marked_with c.marks.factions n o } } in
    holds_of_changed (λ m o. MarksChanges c (after m o)) f c.value.factions n (marks-refl c) (λ v is.
    let next = after (map.insert c.value.factions n (f v)) (Some v) in
    part_by_part c next
    (λ p. elim p as (PartStaysMarked c.marks next.marks) [ Factions ↦ put_stays c.marks.factions n | _ ↦ λ k h. h ])
    (λ p. elim p as (KeepsUnmarked next.marks c.value next.value) [ Factions ↦ λ k free. get-insert_other c.value.factions n k (f v) (unmarked_differs_from_put c.marks.factions n k free) | _ ↦ λ k free. refl ]))

-- what `shows` gives for the value under k stays the same when n's value v is replaced by w, if k isn't n, or `shows`
-- gives the same for w as for v
pub shown_still : {V X : Type 0} (shows : Option V → X) (values : FinMap nat_cmp V) (n k : ℕ) (v w : V)
    → get values n ≡ Some v → (k ≡ n → shows (Some w) ≡ shows (Some v))
    → shows (get (map.insert values n w) k) ≡ shows (get values k)
shown_still shows values n k v w is same =
    ap shows (get-insert nat_cmp_total values n w k) ∙ by_number (eq_by_cmp nat_cmp k n) refl
  where
    by_number : (b : Bool) → eq_by_cmp nat_cmp k n ≡ b → shows (cond b (Some w) (get values k)) ≡ shows (get values k)
    by_number true e = let here = same_key k n e in same here ∙ sym (ap shows (ap (get values) here ∙ is))
    by_number false e = refl

abbrev in_stock : ℕ → Option Region → ℕ
in_stock item o = option_map_or (λ r. amount_of r.stocks item) o 0

row-marked : (f : Region → Region) → ((r : Region) → (f r).stocks ≡ r.stocks) → (c : MarkedCampaign) (n : ℕ)
    → MarksChanges c (record { value = region_changed f c.value n; marks = record c.marks { regions = marked_with c.marks.regions n (get c.value.regions n) } })
row-marked f same c n =
    let after : FinMap nat_cmp Region → Option Region → MarkedCampaign = λ m o. record { value = record c.value { regions = m }; marks = record c.marks { regions = marked_with c.marks.regions n o } } in
    holds_of_changed (λ m o. MarksChanges c (after m o)) f c.value.regions n (marks-refl c) (λ v is.
    let next = after (map.insert c.value.regions n (f v)) (Some v) in
    part_by_part c next
    (λ p. elim p as (PartStaysMarked c.marks next.marks) [ Regions ↦ put_stays c.marks.regions n | _ ↦ λ k h. h ])
    (λ p. elim p as (KeepsUnmarked next.marks c.value next.value) [
      | Regions ↦ λ k free. ap (option_map unstocked) (get-insert_other c.value.regions n k (f v) (unmarked_differs_from_put c.marks.regions n k free))
      | Stocks ↦ λ k free. shown_still (in_stock k.1) c.value.regions n k.0 v (f v) is (λ _. ap (λ s. amount_of s k.1) (same v))
      | _ ↦ λ k free. refl
    ]))

-- A number of region n, which `of` reads, is set to x by f; if it was another, the region's row is marked. f leaves the
-- stocks as they are (`same`), and changes nothing where the number is x already (`again`).
module _ (of : Region → ℕ) (f : Region → Region) (x : ℕ) (same : (r : Region) → (f r).stocks ≡ r.stocks) (again : (r : Region) → of r ≡ x → f r ≡ r) (c : MarkedCampaign) (n : ℕ) where
  -- setting a region's number to what it is already needs no mark (MarksChanges)
  number_stays : (v : Region) → get c.value.regions n ≡ Some v → of v ≡ x
      → MarksChanges c (record c { value = record c.value { regions = map.insert c.value.regions n (f v) } })
  number_stays v is was =
      let next : MarkedCampaign = record c { value = record c.value { regions = map.insert c.value.regions n (f v) } } in
      part_by_part c next (λ p k h. h)
      (λ p. elim p as (KeepsUnmarked next.marks c.value next.value) [
        | Regions ↦ λ k free. shown_still (option_map unstocked) c.value.regions n k v (f v) is (λ _. ap (λ r. Some (unstocked r)) (again v was))
        | Stocks ↦ λ k free. shown_still (in_stock k.1) c.value.regions n k.0 v (f v) is (λ _. ap (λ s. amount_of s k.1) (same v))
        | _ ↦ λ k free. refl
      ])

  -- setting the number, with the region's row marked if it was another (`mark_region`), marks all that changes
  marks-region : MarksChanges c (record { value = region_changed f c.value n; marks = mark_region of c n x })
  marks-region = by_number (option_map_or of (get c.value.regions n) 0 == x) refl
    where
      by_number : (b : Bool) → (option_map_or of (get c.value.regions n) 0 == x) ≡ b
          → MarksChanges c (record { value = region_changed f c.value n; marks = record c.marks { regions = marked_with c.marks.regions n (if b then None else get c.value.regions n) } })
      by_number true was =
          holds_of_changed (λ m o. MarksChanges c (record c { value = record c.value { regions = m } })) f c.value.regions n (marks-refl c)
          (λ v is. number_stays v is (sym (ap (λ o. option_map_or of o 0) is) ∙ is_equal (option_map_or of (get c.value.regions n) 0) x was))
      by_number false was = row-marked f same c n

-- setting the peasants of a region, with its row marked if they were others (`mark_peasants`), marks all that changes
pub marks-peasants : (c : MarkedCampaign) (n peasants : ℕ)
    → MarksChanges c (record { value = with_peasants c.value n peasants; marks = mark_peasants c n peasants })
marks-peasants c n peasants =
    marks-region (λ r. r.peasants) (λ r. record r { peasants = peasants }) peasants (λ r. refl) (λ r was. ap (λ p. record r { peasants = p }) (sym was)) c n

-- setting the money of a region, with its row marked if it was another (`mark_region_money`), marks all that changes
pub marks-region-money : (c : MarkedCampaign) (n money : ℕ)
    → MarksChanges c (record { value = with_region_money c.value n money; marks = mark_region_money c n money })
marks-region-money c n money =
    marks-region (λ r. r.money) (λ r. record r { money = money }) money (λ r. refl) (λ r was. ap (λ m. record r { money = m }) (sym was)) c n

-- the stock of `item` in region n is set to `amount`; if it was another, it is marked, alone or with all of the region
module _ (c : MarkedCampaign) (n item amount : ℕ) where
  abbrev stocked : Region → Region
  stocked r = record r { stocks = with_amount_of r.stocks item amount }

  abbrev with_regions : FinMap nat_cmp Region → CampaignValue
  with_regions m = record c.value { regions = m }

  abbrev there_after : Region → CampaignValue
  there_after v = with_regions (map.insert c.value.regions n (stocked v))

  unstocked_stays : (v : Region) → get c.value.regions n ≡ Some v → (k : ℕ)
      → option_map unstocked (get (there_after v).regions k) ≡ option_map unstocked (get c.value.regions k)
  unstocked_stays v is k = shown_still (option_map unstocked) c.value.regions n k v (stocked v) is (λ _. refl)

  other_stays : (v : Region) → get c.value.regions n ≡ Some v → (k i : ℕ) → (k ≡ n → i ≢ item)
      → stock_of (there_after v) k i ≡ stock_of c.value k i
  other_stays v is k i other =
      shown_still (in_stock i) c.value.regions n k v (stocked v) is
      (λ here. set_other v.stocks item amount i (other here))

  set_again : (stocks : FinMap nat_cmp ℕ) (i : ℕ) → amount_of stocks item ≡ amount
      → amount_of (with_amount_of stocks item amount) i ≡ amount_of stocks i
  set_again stocks i was = amount_after_setting stocks item amount i ∙ by_item (eq_by_cmp nat_cmp i item) refl
    where
      by_item : (b : Bool) → eq_by_cmp nat_cmp i item ≡ b → cond b amount (amount_of stocks i) ≡ amount_of stocks i
      by_item true e = sym was ∙ ap (amount_of stocks) (sym (same_key i item e))
      by_item false e = refl

  stock_stays : (v : Region) → get c.value.regions n ≡ Some v → amount_of v.stocks item ≡ amount
      → MarksChanges c (record c { value = there_after v })
  stock_stays v is was =
      let next : MarkedCampaign = record c { value = there_after v } in
      part_by_part c next (λ p k h. h)
      (λ p. elim p as (KeepsUnmarked next.marks c.value next.value) [
        | Regions ↦ λ k free. unstocked_stays v is k
        | Stocks ↦ λ k free. shown_still (in_stock k.1) c.value.regions n k.0 v (stocked v) is (λ _. set_again v.stocks k.1 was)
        | _ ↦ λ k free. refl
      ])

  item_changes : (v : Region) → get c.value.regions n ≡ Some v
      → MarksChanges c (record { value = there_after v; marks = record c.marks { markets = insert c.marks.markets n; stock_items = with_thing c.marks.stock_items n item } })
  item_changes v is =
      let next : MarkedCampaign = record { value = there_after v; marks = record c.marks { markets = insert c.marks.markets n; stock_items = with_thing c.marks.stock_items n item } } in
      part_by_part c next
      (λ p. elim p as (PartStaysMarked c.marks next.marks) [
        | Markets ↦ put_stays c.marks.markets n
        | Stocks ↦ λ k h. thing_stays c.marks.stocks c.marks.stock_items n item k.0 k.1 h
        | _ ↦ λ k h. h
      ])
      (λ p. elim p as (KeepsUnmarked next.marks c.value next.value) [
        | Regions ↦ λ k free. unstocked_stays v is k
        | Stocks ↦ λ k free. other_stays v is k.0 k.1 (apart_by_thing c.marks.stocks c.marks.stock_items n item k.0 k.1 free)
        | _ ↦ λ k free. refl
      ])

  stocks_change : (v : Region) → get c.value.regions n ≡ Some v
      → MarksChanges c (record { value = there_after v; marks = record c.marks { markets = insert c.marks.markets n; stocks = insert c.marks.stocks n } })
  stocks_change v is =
      let next : MarkedCampaign = record { value = there_after v; marks = record c.marks { markets = insert c.marks.markets n; stocks = insert c.marks.stocks n } } in
      part_by_part c next
      (λ p. elim p as (PartStaysMarked c.marks next.marks) [
        | Markets ↦ put_stays c.marks.markets n
        | Stocks ↦ λ k h. whole_stays c.marks.stocks c.marks.stock_items n k.0 k.1 h
        | _ ↦ λ k h. h
      ])
      (λ p. elim p as (KeepsUnmarked next.marks c.value next.value) [
        | Regions ↦ λ k free. unstocked_stays v is k
        | Stocks ↦ λ k free. other_stays v is k.0 k.1 (λ here. absurd (apart_by_whole c.marks.stocks c.marks.stock_items n k.0 k.1 free here))
        | _ ↦ λ k free. refl
      ])

  abbrev after_regions : FinMap nat_cmp Region → Marks → Type 0
  after_regions regions marks = MarksChanges c (record { value = with_regions regions; marks = marks })

  abbrev item_alone : Option Region → Marks
  item_alone o =
      record c.marks
      { markets = marked_with c.marks.markets n o; stock_items = thing_marked c.marks.stock_items n item o }

  abbrev all_of_region : Option Region → Marks
  all_of_region o =
      record c.marks { markets = marked_with c.marks.markets n o; stocks = marked_with c.marks.stocks n o }

  abbrev to_restock : Bool → Option Region
  to_restock b = if b then None else get c.value.regions n

  -- setting a stock marks all that changes (MarksChanges), with the marks m after it: if the amount changes, the stock
  -- is marked in m, alone or with all stocks of its region (MarksStock)
  pub marks-stock : (m : Marks) → MarksStock c n item amount m
      → MarksChanges c (record { value = with_stock c.value n item amount; marks = m })
  marks-stock m how = by_amount (stock_of c.value n item == amount) refl
    where
      was : (v : Region) → get c.value.regions n ≡ Some v → (stock_of c.value n item == amount) ≡ true
          → amount_of v.stocks item ≡ amount
      was v is same = sym (ap (in_stock item) is) ∙ is_equal (stock_of c.value n item) amount same

      either : (b : Bool) → (stock_of c.value n item == amount) ≡ b
          → after_regions (with_changed_value stocked c.value.regions n) (item_alone (to_restock b))
          × after_regions (with_changed_value stocked c.value.regions n) (all_of_region (to_restock b))
      either true same =
          let still = holds_of_changed (λ regions o. after_regions regions c.marks) stocked c.value.regions n (marks-refl c) (λ v is. stock_stays v is (was v is same)) in
          (still, still)
      either false other = (
        holds_of_changed (λ regions o. after_regions regions (item_alone o)) stocked c.value.regions n (marks-refl c) item_changes,
        holds_of_changed (λ regions o. after_regions regions (all_of_region o)) stocked c.value.regions n (marks-refl c) stocks_change,
      )

      by_amount : (b : Bool) → (stock_of c.value n item == amount) ≡ b
          → after_regions (with_changed_value stocked c.value.regions n) m
      by_amount b is = elim how [
        | inl e ↦ subst (after_regions (with_changed_value stocked c.value.regions n)) (sym (e ∙ ap (λ k. item_alone (to_restock k)) is)) (either b is).0
        | inr e ↦ subst (after_regions (with_changed_value stocked c.value.regions n)) (sym (e ∙ ap (λ k. all_of_region (to_restock k)) is)) (either b is).1
      ]

-- If `units`, the units after the change, are the same but for n, marking n, its row and all its goods marks all that
-- changes. n may come, go or change.
pub marks-unit : (c : MarkedCampaign) (units : FinMap nat_cmp Unit) (n : ℕ)
    → ((k : ℕ) → k ≢ n → get units k ≡ get c.value.units k)
    → MarksChanges c (record { value = record c.value { units = units }; marks = mark_unit_added c n })
marks-unit c units n others =
    let next : MarkedCampaign = record { value = record c.value { units = units }; marks = mark_unit_added c n } in
    part_by_part c next
    (λ p. elim p as (PartStaysMarked c.marks next.marks) [
      | Units ↦ put_stays c.marks.units n
      | Rows ↦ put_stays c.marks.rows n
      | Goods ↦ put_stays c.marks.goods n
      | Items ↦ λ k h. whole_stays c.marks.goods c.marks.items n k.0 k.1 h
      | Skills ↦ λ k h. whole_stays c.marks.goods c.marks.skills n k.0 k.1 h
      | _ ↦ λ k h. h
    ])
    (λ p. elim p as (KeepsUnmarked next.marks c.value next.value) [
      | Rows ↦ λ k free. ap (option_map without_goods) (others k (unmarked_differs_from_put c.marks.rows n k free))
      | Items ↦ λ k free. ap (λ o. get (items_under o) k.1) (others k.0 (apart_by_whole c.marks.goods c.marks.items n k.0 k.1 free))
      | Skills ↦ λ k free. ap (λ o. get (days_under o) k.1) (others k.0 (apart_by_whole c.marks.goods c.marks.skills n k.0 k.1 free))
      | _ ↦ λ k free. refl
    ])

-- booking z of the thing u under the entry f, with the amount of f and u marked, marks all that changes
pub marks-amount : (c : MarkedCampaign) (f : BooksEntry) (u : Thing) (z : ℤ)
    → MarksChanges c (record { value = with_booking c.value f u z; marks = mark_amount c f u })
marks-amount c f u z =
    let next : MarkedCampaign = record { value = with_booking c.value f u z; marks = mark_amount c f u } in
    part_by_part c next
    (λ p. elim p as (PartStaysMarked c.marks next.marks) [ Books ↦ put_stays c.marks.books (amount_number f u) | _ ↦ λ k h. h ])
    (λ p. elim p as (KeepsUnmarked next.marks c.value next.value) [ Books ↦ λ k free. booking-other_amount c.value.books k.0 f k.1 u z (unmarked_differs_from_put c.marks.books (amount_number f u) (amount_number k.0 k.1) free) | _ ↦ λ k free. refl ])
