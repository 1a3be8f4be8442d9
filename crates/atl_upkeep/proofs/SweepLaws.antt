-- Laws of sweeping one unit without men: it keeps a campaign steady and its books balanced (`LeavesWell`), and takes
-- nothing from other units (`IsKept`). The books have room for what it books. `c` is the campaign before that. `n` is
-- the number of the unit that is swept, and `u` the unit; `e` is an entry of the books, and `s` or `t` a thing.
use Rattle.std.proofs.Common.{◌≡◌, ◌≢◌, ℕ, ◌+◌, ◌≤◌, ◌<◌, true, List, [], ◌∷◌, length, Option, Some, refl, sym, ap, subst, ◌∙◌, inl, arith, suc, ◌-◌}
use Rattle.std.specs.Prelude.{ℤ, pos, ◌+ℤ◌, unwrap_or}
use Rattle.std.proofs.lemmas.Int.{ints}
use Rattle.std.proofs.lemmas.Bool.Decides.{nat_tests}
use Rattle.std.proofs.lemmas.Option.{same_Some}
use Rattle.std.specs.Ordering.{nat_cmp}
use Rattle.std.specs.FinMap.{FinMap, entries, get, get-entries, len}
use Rattle.atl_world.specs.Worlds.{WorldValue}
use Rattle.atl_world.specs.Limits.{most_amount}
use Rattle.atl_world.specs.Sums.{numbers_where}
use Rattle.atl_records.specs.Books.{BooksValue, amount_in, booked}
use Rattle.atl_records.specs.declared.books.BooksEntry.{BooksEntry}
use Rattle.atl_records.specs.declared.books.BooksEntry.TheVariants.{Lost, Left}
use Rattle.atl_records.specs.declared.books.Thing.{Thing}
use Rattle.atl_records.specs.declared.books.Thing.TheVariants.{Item, Money, People}
use Rattle.atl_records.specs.declared.records.Faction.{Faction}
use Rattle.atl_records.specs.declared.records.Unit.{Unit}
use Rattle.atl_world.specs.Every.{EachEntry, Every, HasValue}
use Rattle.atl_campaign.specs.Good.{IsSteady}
use Rattle.atl_records.specs.Holdings.{HoldingValue, amount_of}
use Rattle.atl_records.specs.Limits.{holding_limit}
use Rattle.atl_campaign.specs.Owners.{first_or_zero, without_unit}
use Rattle.atl_campaign.specs.Campaign.{CampaignValue, with_item}
use Rattle.atl_records.specs.Amounts.{unit_amount}
use Rattle.atl_campaign.specs.Totals.{Balances, total}
use Rattle.atl_world.proofs.EveryLaws.{each-from_every, sorted}
use Rattle.atl_phase.specs.Meaning.{BookBound, IsNear, LeavesWell, both_move, moves_only}
use Rattle.atl_records.proofs.HoldingLaws.{amount_within}
use Rattle.atl_phase.proofs.MeaningLaws.{near_more, near_room, room_less}
use Rattle.atl_phase.specs.Bounds.{items_bound, HaveRoom}
use Rattle.atl_instant.proofs.QuitLaws.{no_money, no_people, list_amount_is_found, held_in_items, amount_as_thing, moves_what_leaves}
use Rattle.atl_upkeep.specs.Sweep.{IsKept, after_passing_all, after_passing_money, loses_by, receiver, receives, after_passing_item, with_lost}
use Rattle.atl_records.proofs.RemovedLaws.{get-remove_other, still}
use Rattle.atl_records.proofs.BookLaws.{plus_zero}
use Rattle.atl_campaign.proofs.NumberListLaws.{IsListed, listed_passing}
use Rattle.atl_campaign.proofs.LeavingLaws.{only_reduced, steady-without, total-without}
use Rattle.atl_upkeep.proofs.PassingLaws.{Owes, PassesOn, accepted_of, pass_items, pass_money, passes-trans, pass_item}
use Rattle.atl_instant.specs.Quit.{loss_under}

-- ---- how much of each thing a unit passes on

abbrev owing_all : HoldingValue → Thing → ℕ
owing_all h s = amount_as_thing s Money h.money + held_in_items (entries h.items) s

-- the bound on what passing on all that a unit holds (`h`) books: Lost of its money and of each item, each by at most
-- as much as it has
abbrev pub moving_all : HoldingValue → BookBound
moving_all h = both_move (moves_only h.money Lost Money) (items_bound (entries h.items))

all_owed : (h : HoldingValue) → h.men ≡ 0 → (s : Thing) → owing_all h s ≡ unit_amount s h
all_owed h none Money = omega (arith, no_money (entries h.items))
all_owed h none People = omega (arith, none, no_people (entries h.items))
all_owed h none (Item j) =
    let items : held_in_items (entries h.items) (Item j) ≡ amount_of h.items j = list_amount_is_found j (entries h.items) (sorted h.items) ∙ ap (λ (o : Option ℕ). unwrap_or o 0) (sym (get-entries h.items j)) in
    grind (arith, nat_tests)

-- a unit without men whose money and items are within their limits has of each thing at most what sweeping one unit may
-- book as lost (`loses_by`)
little_lost : (h : HoldingValue) → h.men ≡ 0 → h.money ≤ holding_limit → ((i : ℕ) → amount_of h.items i ≤ holding_limit)
    → (e : BooksEntry) (s : Thing)
    → loss_under e s h ≤ loses_by most_amount e s
little_lost h none money items e Money = grind arith
little_lost h none money items e People = grind arith
little_lost h none money items e (Item j) = let most = items j in grind (arith, nat_tests)

-- ---- the unit that receives

-- a list `ns` whose first number isn't 0 (`first_or_zero`) isn't empty, and has this number
pub first_listed : (ns : List ℕ) → first_or_zero ns ≢ 0 → IsListed (first_or_zero ns) ns
first_listed [] some = absurd (some refl)
first_listed (n ∷ ns) some = inl refl

-- unit `n` is `u`, and has no men; `c` is the steady campaign before it is swept
module _ (w : WorldValue) (c : CampaignValue) (n : ℕ) (u : Unit) (is : get c.units n ≡ Some u) (none : u.holding.men ≡ 0) (steady : IsSteady w c) where
  not_received : (region faction : ℕ) (v : Unit) → get c.units n ≡ Some v → receives region faction v ≡ true → ⊥
  not_received region faction v there t =
      let men = ap (λ (x : Unit). x.holding.men) (same_Some v u (sym there ∙ is)) in
      grind (arith, nat_tests, men, none, t)

  receiver_apart : (region faction : ℕ) → n ≢ receiver c region faction
  receiver_apart region faction same =
      let least = (steady.numbers.units n u is).0 in
      let some : receiver c region faction ≢ 0 = λ zero. absurd (omega (arith, same, zero, least)) in
      let listed = first_listed (numbers_where (receives region faction) c.units) some in
      let (v, there, t) = listed_passing (receives region faction) c.units (receiver c region faction) listed in
      not_received region faction v (ap (get c.units) same ∙ there) t

  -- the number of the unit that receives what unit `n` leaves; 0 where there is none
  abbrev receiver_of_n : ℕ
  receiver_of_n = receiver c u.region u.faction

  known : EachEntry (λ i a. i < length w.items) (entries u.holding.items)
  known = each-from_every (λ i a. i < length w.items) u.holding.items (steady.known.units n u is).items

  abbrev passed : CampaignValue
  passed = after_passing_all c receiver_of_n u

  -- what unit `n` has goes to its receiver or is booked as lost, and nothing is taken from any unit (`PassesOn`)
  passing : PassesOn w n (owing_all u.holding) (moving_all u.holding) c passed
  passing =
      let apart = receiver_apart u.region u.faction in
      let money = pass_money w c n receiver_of_n apart steady u.holding.money in
      passes-trans w n c (after_passing_money c receiver_of_n u.holding.money) passed money
      (pass_items w (after_passing_money c receiver_of_n u.holding.money) n receiver_of_n apart (entries u.holding.items) known money.steady)

  there_still : get passed.units n ≡ Some u
  there_still = passing.unit ∙ is

  abbrev swept : CampaignValue
  swept = without_unit passed n

  balanced : Balances c → Balances swept
  balanced old s =
      let before : Owes passed s (0 + owing_all u.holding s) = passing.owes s 0 (old s ∙ plus_zero _) in
      let total_is = total-without w passed n u there_still s in
      let only = only_reduced w passed n u there_still in
      total_without_n (total swept s) (unit_amount s u.holding) (total passed s) (owing_all u.holding s) (booked passed.books s) total_is
      (all_owed u.holding none s) before
      ∙ ap (λ (books : BooksValue). booked books s) (sym only.books)
    where
      total_without_n : (a h b o : ℕ) (z : ℤ) → a + h ≡ b → o ≡ h → pos b ≡ z +ℤ pos (0 + o) → pos a ≡ z
      total_without_n a h b o z e f g = omega (arith, ints, e, f, g)

  -- passing on all that unit `n` holds books at most 999,999,999 of money and of each item as lost, nothing else
  pub moves_little : (e : BooksEntry) (s : Thing) → moving_all u.holding e s ≤ loses_by most_amount e s
  moves_little e s =
      within (moves_only u.holding.men Left People e s) (moving_all u.holding e s) (loss_under e s u.holding) (loses_by most_amount e s) (moves_what_leaves u.holding e s)
      (little_lost u.holding none (steady.numbers.units n u is).1.money (λ i. amount_within u.holding i (steady.numbers.units n u is).1) e s)
    where
      within : (m a b d : ℕ) → m + a ≤ b → b ≤ d → a ≤ d
      within m a b d k l = omega arith

  -- Sweeping unit `n` keeps the campaign steady and of the same month, and its books balanced. It books at most
  -- 999,999,999 of money and of each item as lost, and nothing else (`loses_by`).
  pub swept_leaves_well : LeavesWell IsSteady (loses_by most_amount) w c swept
  swept_leaves_well =
      let only = only_reduced w passed n u there_still in
      record {
        leaves_it = steady-without w passed n u there_still passing.steady;
        same_month = record {
          month = only.month ∙ passing.same.month;
          reports = only.reports ∙ passing.same.reports;
          count = ap len only.factions ∙ passing.same.count;
          factions = λ k h. passing.same.factions k (subst (λ (m : FinMap nat_cmp Faction). HasValue m k) only.factions h);
        };
        balances = balanced;
        near = λ e s.
            subst (λ (books : BooksValue). IsNear (loses_by most_amount e s) (amount_in c.books e s) (amount_in books e s)) (sym only.books)
            (near_more (moving_all u.holding e s) (loses_by most_amount e s) (amount_in c.books e s) (amount_in passed.books e s)
            (moves_little e s)
            (passing.near e s));
      }

  -- after sweeping unit `n` each other unit is there, and nothing is taken from it (`IsKept`)
  pub others_keep : Every (λ m x. m ≢ n → (v : Unit) × (get swept.units m ≡ Some v) × IsKept x v) c.units
  others_keep m x there apart =
      let only = only_reduced w passed n u there_still in
      let (v, here, kept) = passing.forth m x there in
      (v, ap (λ (units : FinMap nat_cmp Unit). get units m) only.units ∙ get-remove_other passed.units n m apart ∙ here, kept)

  -- each unit that is left after sweeping unit `n` is another one, was there, and nothing was taken from it (`IsKept`)
  pub others_were : Every (λ m v. (m ≢ n) × ((x : Unit) × (get c.units m ≡ Some x) × IsKept x v)) swept.units
  others_were m v there =
      let only = only_reduced w passed n u there_still in
      let (apart, here) = still passed.units n m v (sym (ap (λ (units : FinMap nat_cmp Unit). get units m) only.units) ∙ there) in
      (apart, passing.back m v here)

-- if unit `to` is there as `v`, adding what it accepts of an item to what it has, and booking the rest as lost, is
-- passing the item on (`after_passing_item`)
pub passed_item_is : (c : CampaignValue) (to item amount : ℕ) (v : Unit) → get c.units to ≡ Some v
    → with_lost (with_item c to item (amount_of v.holding.items item + accepted_of amount (amount_of v.holding.items item))) (Item item) (amount - accepted_of amount (amount_of v.holding.items item))
    ≡ after_passing_item to c (item, amount)
unfolding after_passing_item
passed_item_is c to item amount v is = rw is refl

-- ---- room

-- the books of `d`, moved within bound `j` from those of `c`, have room under bound `k`, if those of `c` had room under
-- `j` and `k` together
pub near_leaves_room : (j k : BookBound) (c d : CampaignValue)
    → ((e : BooksEntry) (t : Thing) → IsNear (j e t) (amount_in c.books e t) (amount_in d.books e t))
    → HaveRoom (both_move j k) c → HaveRoom k d
near_leaves_room j k c d near room e t =
    near_room (j e t) (k e t) (amount_in c.books e t) (amount_in d.books e t) (near e t) (room e t)

-- no number is its own successor: the laws below pass things on as if from unit `suc to`, which isn't unit `to`
successor_differs : (n : ℕ) → suc n ≢ n
successor_differs n same = omega (arith, same)

-- `to` is the number of the unit that receives, `i` an item, `x` and `xs` items with amounts; campaign `c` is steady
module _ (w : WorldValue) (c : CampaignValue) (steady : IsSteady w c) where
  -- An item of the world that goes to unit `to`, or is lost, is passed on (`PassesOn`), as if from the unit with the
  -- next number.
  pub item_passes : (to i amount : ℕ) → i < length w.items
      → PassesOn w (suc to) (λ s. amount_as_thing s (Item i) amount) (moves_only amount Lost (Item i)) c (after_passing_item to c (i, amount))
  item_passes to i amount known = pass_item w c (suc to) to (successor_differs to) steady i amount known

  -- if books have room for some items to be booked as lost, they have room for the others after the first one, an item
  -- of the world, was passed on
  pub rest_room : (to : ℕ) (x : ℕ × ℕ) (xs : List (ℕ × ℕ)) → x.0 < length w.items → HaveRoom (items_bound (x ∷ xs)) c
      → HaveRoom (items_bound xs) (after_passing_item to c x)
  rest_room to x xs known room =
      near_leaves_room (moves_only x.1 Lost (Item x.0)) (items_bound xs) c (after_passing_item to c x) (item_passes to x.0 x.1 known).near room

  -- a steady campaign stays steady when money is passed on
  pub money_steady : (to amount : ℕ) → IsSteady w (after_passing_money c to amount)
  money_steady to amount = (pass_money w c (suc to) to (successor_differs to) steady amount).steady

  -- if books have room for what sweeping a unit without men may lose, they have room for its items after its money was
  -- passed on
  pub items_room : (n to : ℕ) (u : Unit) → get c.units n ≡ Some u → u.holding.men ≡ 0
      → HaveRoom (loses_by most_amount) c
      → HaveRoom (items_bound (entries u.holding.items)) (after_passing_money c to u.holding.money)
  items_room n to u is none room =
      near_leaves_room (moves_only u.holding.money Lost Money) (items_bound (entries u.holding.items)) c (after_passing_money c to u.holding.money)
      (pass_money w c (suc to) to (successor_differs to) steady u.holding.money).near
      (room_less (moving_all u.holding) (loses_by most_amount) c (moves_little w c n u is none steady) room)
