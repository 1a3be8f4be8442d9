-- Laws of the sweep: what holds of a campaign after a unit without men passed money or items on to another
-- (`PassesOn`). `c` is the campaign before that, and `d` the one after it. `n` is the number of the unit that passes
-- on, and `k` that of the unit that receives. `s` and `t` are things, and `e` is an entry of the books.
use Rattle.std.proofs.Common.{◌≡◌, ◌≢◌, ◌==◌, ℕ, ◌+◌, ◌-◌, ◌≤◌, ◌<◌, Bool, cond, List, [], ◌∷◌, length, min, Option, Some, None, refl, sym, ap, subst, ◌∙◌, arith, inl, inr}
use Rattle.std.specs.Prelude.{ℤ, pos, neg_ℤ, ◌+ℤ◌, fold}
use Rattle.std.proofs.lemmas.Int.{ints}
use Rattle.std.proofs.lemmas.Bool.Decides.{nat_tests}
use Rattle.std.proofs.lemmas.Option.{same_Some}
use Rattle.std.specs.Option.{option_map_or}
use Rattle.std.specs.Ordering.{nat_cmp}
use Rattle.std.specs.FinMap.{FinMap, get, insert}
use Rattle.atl_world.specs.Worlds.{WorldValue}
use Rattle.atl_records.specs.Books.{amount_in, booked, thing_index}
use Rattle.atl_records.specs.declared.books.BooksEntry.{BooksEntry}
use Rattle.atl_records.specs.declared.books.BooksEntry.TheVariants.{Lost}
use Rattle.atl_records.specs.declared.books.Thing.{Thing}
use Rattle.atl_records.specs.declared.books.Thing.TheVariants.{Item, Money, People}
use Rattle.atl_records.specs.declared.records.Unit.{Unit}
use Rattle.atl_world.specs.Every.{EachEntry, Every}
use Rattle.atl_campaign.specs.Founding.{thing_count}
use Rattle.atl_campaign.specs.Good.{IsSteady}
use Rattle.atl_records.specs.Holdings.{HoldingValue, amount_of, with_amount_of}
use Rattle.atl_campaign.specs.Lending.{with_holding_at}
use Rattle.atl_records.specs.Limits.{holding_limit}
use Rattle.atl_campaign.specs.Campaign.{CampaignValue, with_item, with_money}
use Rattle.atl_records.specs.Amounts.{unit_amount}
use Rattle.atl_campaign.specs.Totals.{total}
use Rattle.atl_records.proofs.BookLaws.{booked-after_booking}
use Rattle.atl_world.proofs.EveryLaws.{every-insert, get-insert_other, same_number}
use Rattle.atl_campaign.proofs.HoldingLaws.{MayHaveWithoutNewGuard, may_hold_money, steady-new_holding, total-new_holding}
use Rattle.atl_campaign.proofs.RegionLaws.{changed-known, get-insert_same, steady-amount, total-booking}
use Rattle.atl_phase.specs.Meaning.{BookBound, IsNear, IsSameMonth, both_move, moves_only}
use Rattle.atl_phase.proofs.MeaningLaws.{near_same, near_twice, same_month_by, same_month_twice}
use Rattle.atl_records.proofs.HoldingLaws.{amount_within, every_amount, set_same, set_other}
use Rattle.atl_phase.proofs.BookingLaws.{booked-near, within-neg}
use Rattle.atl_phase.proofs.NoWorseLaws.{no_worse, no_worse_twice}
use Rattle.atl_phase.specs.Bounds.{items_bound}
use Rattle.atl_instant.proofs.QuitLaws.{held_in_items, amount_as_thing}
use Rattle.atl_upkeep.specs.Sweep.{IsKept, after_passing_item, after_passing_money, with_lost}
use Rattle.std.proofs.lemmas.Bool.{cases_eq}

-- the total of a thing in the campaign is by this amount more than its books account for
abbrev pub Owes : CampaignValue → Thing → ℕ → Type 0
Owes c s more = pos (total c s) ≡ booked c.books s +ℤ pos more

-- ---- a unit from which nothing is taken (`IsKept`)

pub kept-refl : (u : Unit) → IsKept u u
kept-refl u = record { no_worse = no_worse u; men = refl; days = refl }

pub kept-trans : (u v x : Unit) → IsKept u v → IsKept v x → IsKept u x
kept-trans u v x one two =
    record { no_worse = no_worse_twice u v x one.no_worse two.no_worse; men = two.men ∙ one.men; days = two.days ∙ one.days }

kept-with : (u : Unit) (money : ℕ) (items : FinMap nat_cmp ℕ) → u.holding.money ≤ money
    → ((i : ℕ) → amount_of u.holding.items i ≤ amount_of items i)
    → IsKept u (record u { holding = record u.holding { money = money; items = items } })
kept-with u money items more all = record {
  no_worse = record { faction = refl; region = refl; structure = refl; name = refl; guard = refl; men = omega arith; money = more; items = all; days = λ s. omega arith };
  men = refl;
  days = refl;
}

-- ---- what passing on does

-- Campaign `d`, a steady one, is campaign `c` after something of unit `n` was passed on, while unit `n` still has it.
pub record PassesOn (w : WorldValue) (n : ℕ) (owing : Thing → ℕ) (book_bound : BookBound) (c d : CampaignValue) : Type 0 where
  pub steady : IsSteady w d
  -- the total of each thing is above its books by `owing` of it more than before
  pub owes : (s : Thing) (x : ℕ) → Owes c s x → Owes d s (x + owing s)
  -- no amount of the books moves further than its bound
  pub near : (e : BooksEntry) (s : Thing) → IsNear (book_bound e s) (amount_in c.books e s) (amount_in d.books e s)
  pub same : IsSameMonth c d
  pub unit : get d.units n ≡ get c.units n
  -- each unit of `c` is in `d`, and nothing is taken from it
  pub forth : Every (λ m u. (v : Unit) × (get d.units m ≡ Some v) × IsKept u v) c.units
  -- each unit of `d` was in `c`, and nothing was taken from it
  pub back : Every (λ m v. (u : Unit) × (get c.units m ≡ Some u) × IsKept u v) d.units

-- a steady campaign left as it is passes on nothing, and its books don't move
pub passes-refl : (w : WorldValue) (n : ℕ) (c : CampaignValue) → IsSteady w c → PassesOn w n (λ s. 0) (λ e s. 0) c c
passes-refl w n c steady = record {
  steady = steady;
  owes = λ s x h. let same : x ≡ x + 0 = omega arith in subst (Owes c s) same h;
  near = λ e s. near_same 0 (amount_in c.books e s);
  same = same_month_by refl;
  unit = refl;
  forth = λ m u is. (u, is, kept-refl u);
  back = λ m v is. (v, is, kept-refl v);
}

-- Passing on twice in turn, amounts o from campaign a to b and amounts p from b to c, is passing on both amounts. The
-- bound on the books is the sum of both bounds (i and j).
pub passes-trans : {o p : Thing → ℕ} {i j : BookBound} (w : WorldValue) (n : ℕ) (a b c : CampaignValue)
    → PassesOn w n o i a b → PassesOn w n p j b c
    → PassesOn w n (λ s. o s + p s) (both_move i j) a c
passes-trans {o} {p} {i} {j} w n a b c one two = record {
  steady = two.steady;
  owes = λ s x h. let grouped : (x + o s) + p s ≡ x + (o s + p s) = omega arith in subst (Owes c s) grouped (two.owes s (x + o s) (one.owes s x h));
  near = λ e s. near_twice (i e s) (j e s) (amount_in a.books e s) (amount_in b.books e s) (amount_in c.books e s) (one.near e s) (two.near e s);
  same = same_month_twice a b c one.same two.same;
  unit = two.unit ∙ one.unit;
  forth = λ m u is. let (v, there, kept) = one.forth m u is in let (x, later, more) = two.forth m v there in (x, later, kept-trans u v x kept more);
  back = λ m x is. let (v, there, more) = two.back m x is in let (u, before, kept) = one.back m v there in (u, before, kept-trans u v x kept more);
}

-- If `taken` of a thing is given to a unit and `lost` of it is booked as lost, its total is above the books by both
-- together more than before. The total of any other thing is above the books by as much as before. Test `b` says
-- whether a thing is the one.
total_above_books : (b : Bool) (taken lost x before after : ℕ) (books : ℤ) → after ≡ before + cond b taken 0
    → pos before ≡ books +ℤ pos x
    → pos after ≡ (books +ℤ cond b (neg_ℤ (pos lost)) (pos 0)) +ℤ pos (x + cond b (taken + lost) 0)
total_above_books b taken lost x before after books e h = grind (arith, ints, e, h)

-- the same if nothing of it is given to a unit: the total is above the books by `lost` more than before
owed_all : (b : Bool) (lost x all : ℕ) (books : ℤ) → pos all ≡ books +ℤ pos x
    → pos all ≡ (books +ℤ cond b (neg_ℤ (pos lost)) (pos 0)) +ℤ pos (x + cond b lost 0)
owed_all b lost x all books h = grind (arith, ints, h)

-- `t` is a thing of the world, and `n` the unit whose goods may be passed on; campaign `c` is steady
module _ (w : WorldValue) (c : CampaignValue) (n : ℕ) (t : Thing) (inside : thing_index t < thing_count w) (steady : IsSteady w c) where
  -- If `amount` of the thing is booked as lost, and no unit gets it, this is a case of `PassesOn`: the thing's total is
  -- above its books by the amount more than before. Only Lost of the thing moves, by at most the amount.
  pub all_lost : (amount : ℕ)
      → PassesOn w n (λ s. amount_as_thing s t amount) (moves_only amount Lost t) c (with_lost c t amount)
  all_lost amount = record {
    steady = steady-amount w c Lost t (neg_ℤ (pos amount)) inside steady;
    owes = λ s x h.
        ap pos (total-booking c Lost t s (neg_ℤ (pos amount)))
        ∙ owed_all (thing_index s == thing_index t) amount x (total c s) (booked c.books s) h
        ∙ ap (λ z. z +ℤ pos (x + amount_as_thing s t amount))
        (sym (booked-after_booking c.books Lost t (neg_ℤ (pos amount)) s));
    near = booked-near c.books Lost t (neg_ℤ (pos amount)) amount (within-neg amount amount (omega arith));
    same = same_month_by refl;
    unit = refl;
    forth = λ m u is. (u, is, kept-refl u);
    back = λ m v is. (v, is, kept-refl v);
  }

  -- Unit `k`, which isn't `n`, is `v` before, and has holding `h` after it took `taken` of thing `t` (`more`). It may
  -- have `h` (`may`), and loses nothing by it (`kept`). The rest of the amount is `lost`.
  module _ (k : ℕ) (v : Unit) (h : HoldingValue) (is : get c.units k ≡ Some v) (apart : n ≢ k) (may : MayHaveWithoutNewGuard w v h)
      (kept : IsKept v (record v { holding = h })) (taken lost : ℕ)
      (more : (s : Thing) → unit_amount s h ≡ unit_amount s v.holding + amount_as_thing s t taken) where
    -- the campaign in which the receiver has the part that it takes, while the rest isn't booked yet
    abbrev given : CampaignValue
    given = with_holding_at c k h (Some v)

    grown : (s : Thing) → total given s ≡ total c s + amount_as_thing s t taken
    grown s = omega (arith, total-new_holding w c k v h is s, more s)

    -- giving `taken` to the unit and booking `lost` as lost passes both on; only Lost moves, by at most both together
    pub part_lost : PassesOn w n (λ s. amount_as_thing s t (taken + lost)) (moves_only (taken + lost) Lost t) c (with_lost given t lost)
    part_lost = record {
      steady = steady-amount w given Lost t (neg_ℤ (pos lost)) inside (steady-new_holding w c k v h is may steady);
      owes = λ s x e.
          ap pos (total-booking given Lost t s (neg_ℤ (pos lost)))
          ∙ total_above_books (thing_index s == thing_index t) taken lost x (total c s) (total given s) (booked c.books s) (grown s) e
          ∙ ap (λ z. z +ℤ pos (x + amount_as_thing s t (taken + lost)))
          (sym (booked-after_booking c.books Lost t (neg_ℤ (pos lost)) s));
      near =
          booked-near c.books Lost t (neg_ℤ (pos lost)) (taken + lost)
          (within-neg lost (taken + lost) (omega arith));
      same = same_month_by refl;
      unit = get-insert_other c.units k n (record v { holding = h }) apart;
      forth = new_unit;
      back =
          every-insert (λ m x. (u : Unit) × (get c.units m ≡ Some u) × IsKept u x) c.units k (record v { holding = h }) (v, is, kept)
          (λ m x there. (x, there, kept-refl x));
    }
      where
        new_unit : (m : ℕ) (u : Unit) → get c.units m ≡ Some u
            → (x : Unit) × (get (insert c.units k (record v { holding = h })) m ≡ Some x) × IsKept u x
        new_unit m u there = elim (cases_eq m k) [
          | inl same ↦
              let one : Some v ≡ Some u = sym is ∙ ap (get c.units) (sym same) ∙ there in (
                record v { holding = h },
                ap (get (insert c.units k (record v { holding = h }))) same ∙ get-insert_same c.units k (record v { holding = h }),
                subst (λ (x : Unit). IsKept x (record v { holding = h })) (same_Some v u one) kept,
              )
          | inr other ↦ (u, get-insert_other c.units k m (record v { holding = h }) other ∙ there, kept-refl u)
        ]

more_amount : (items : FinMap nat_cmp ℕ) (i n j : ℕ)
    → amount_of (with_amount_of items i (amount_of items i + n)) j ≡ amount_of items j + cond (2 + j == 2 + i) n 0
more_amount items i n j = elim (cases_eq j i) [
  | inl same ↦ rw same (set_same items i (amount_of items i + n) ∙ ap (λ b. amount_of items i + cond b n 0) (sym (same_number (2 + i))))
  | inr apart ↦ let kept = set_other items i (amount_of items i + n) j apart in grind (arith, nat_tests)
]

-- ---- the part that a unit takes, and the rest

-- how much of an amount a unit that has `have` of a thing accepts: as much as it has room for (`holding_limit`)
abbrev pub accepted_of : (amount have : ℕ) → ℕ
accepted_of amount have = min amount (holding_limit - have)

accepted_and_rest : (amount have : ℕ) → accepted_of amount have + (amount - accepted_of amount have) ≡ amount
accepted_and_rest amount have = omega arith

accepted_fits : (amount have : ℕ) → have ≤ holding_limit → have + accepted_of amount have ≤ holding_limit
accepted_fits amount have l = omega arith

-- unit `n` passes things on to number `k`, which isn't `n`, in a steady campaign; without unit `k` all is lost
module _ (w : WorldValue) (c : CampaignValue) (n k : ℕ) (apart : n ≢ k) (steady : IsSteady w c) where
  -- campaign `d` is one in which an amount of a thing of unit `n` was passed on (`PassesOn`), which moves Lost alone
  abbrev Passed : Thing → ℕ → CampaignValue → Type 0
  Passed t amount d = PassesOn w n (λ s. amount_as_thing s t amount) (moves_only amount Lost t) c d

  more_money : (h : HoldingValue) (n : ℕ) (s : Thing)
      → unit_amount s (record h { money = h.money + n }) ≡ unit_amount s h + amount_as_thing s Money n
  more_money h n Money = refl
  more_money h n People = grind (arith, nat_tests)
  more_money h n (Item i) = grind (arith, nat_tests)

  -- if booking all of an amount as lost is passing it on (`Passed`), so is booking it less the 0 that unit `k` takes
  all_left : (t : Thing) (amount : ℕ) → Passed t amount (with_lost c t amount)
      → Passed t amount (with_lost c t (amount - min amount 0))
  all_left t amount lost = let same : amount ≡ amount - min amount 0 = omega arith in subst (λ a. Passed t amount (with_lost c t a)) same lost

  -- the campaign after unit `k`, if it is there, took money up to its room; the rest is booked as lost
  abbrev money_to : (amount : ℕ) → Option Unit → CampaignValue
  money_to amount o =
      let taken = min amount (option_map_or (λ v. holding_limit - v.holding.money) o 0) in
      with_lost (option_map_or (λ v. with_money c k (v.holding.money + taken)) o c) Money (amount - taken)

  -- money that goes to unit `k`, up to its room, with the rest booked as lost, is passed on from unit `n` (`PassesOn`)
  pub pass_money : (amount : ℕ) → Passed Money amount (after_passing_money c k amount)
  unfolding after_passing_money
  pass_money amount = by_unit (get c.units k) refl
    where
      by_unit : (o : Option Unit) → get c.units k ≡ o → Passed Money amount (money_to amount o)
      by_unit None is = all_left Money amount (all_lost w c n Money (omega arith) steady amount)
      by_unit (Some v) is =
          let taken = accepted_of amount v.holding.money in
          let money = v.holding.money + taken in
          let h = record v.holding { money = money } in
          let most = (steady.numbers.units k v is).1.money in
          subst (Passed Money amount)
          (ap (λ m. with_lost (record c { units = m }) Money (amount - taken))
          (sym (changed-known (λ u. record u { holding = record u.holding { money = money } }) c.units k v is)))
          (subst (λ a. Passed Money a (with_lost (with_holding_at c k h (Some v)) Money (amount - taken))) (accepted_and_rest amount v.holding.money)
          (part_lost w c n Money (omega arith) steady k v h is apart (may_hold_money w c k money v is (accepted_fits amount v.holding.money most) steady)
          (kept-with v money v.holding.items (omega arith) (λ i. omega arith))
          taken (amount - taken) (more_money v.holding taken)))

  more_item : (h : HoldingValue) (i n : ℕ) (s : Thing)
      → unit_amount s (record h { items = with_amount_of h.items i (amount_of h.items i + n) }) ≡ unit_amount s h + amount_as_thing s (Item i) n
  more_item h i n Money = grind (arith, nat_tests)
  more_item h i n People = grind (arith, nat_tests)
  more_item h i n (Item j) = more_amount h.items i n j

  -- the campaign after unit `k`, if it is there, took an item up to its room; the rest is booked as lost
  abbrev item_to : (i amount : ℕ) → Option Unit → CampaignValue
  item_to i amount o =
      let taken = min amount (option_map_or (λ v. holding_limit - amount_of v.holding.items i) o 0) in
      with_lost (option_map_or (λ v. with_item c k i (amount_of v.holding.items i + taken)) o c) (Item i) (amount - taken)

  -- an item of the world that goes to unit `k`, up to its room, with the rest booked as lost, is passed on from unit
  -- `n` (`PassesOn`)
  pub pass_item : (i amount : ℕ) → i < length w.items → Passed (Item i) amount (after_passing_item k c (i, amount))
  unfolding after_passing_item
  pass_item i amount known = by_unit (get c.units k) refl
    where
      inside : thing_index (Item i) < thing_count w
      inside = omega (arith, known)

      by_unit : (o : Option Unit) → get c.units k ≡ o → Passed (Item i) amount (item_to i amount o)
      by_unit None is = all_left (Item i) amount (all_lost w c n (Item i) inside steady amount)
      by_unit (Some v) is =
          let have = amount_of v.holding.items i in
          let taken = accepted_of amount have in
          let items = with_amount_of v.holding.items i (have + taken) in
          let most = accepted_fits amount have (amount_within v.holding i (steady.numbers.units k v is).1) in
          let location = steady.known.units k v is in
          let holding = (steady.numbers.units k v is).1 in
          subst (Passed (Item i) amount)
          (ap (λ m. with_lost (record c { units = m }) (Item i) (amount - taken))
          (sym (changed-known (λ u. record u { holding = record u.holding { items = with_amount_of u.holding.items i (have + taken) } }) c.units k v is)))
          (subst (λ a. Passed (Item i) a (with_lost (with_holding_at c k (record v.holding { items = items }) (Some v)) (Item i) (amount - taken)))
          (accepted_and_rest amount have)
          (part_lost w c n (Item i) inside steady k v (record v.holding { items = items }) is apart
          (record {
            limits = record {
              men = holding.men;
              money = holding.money;
              items = every_amount (λ j a. (1 ≤ a) × (a ≤ holding_limit)) v.holding.items i (have + taken) (λ some. (some, most)) holding.items;
            };
            name = steady.names.units k v is;
            items = every_amount (λ j a. j < length w.items) v.holding.items i (have + taken) (λ some. known) location.items;
            skills = location.skills;
            days = steady.days k v is;
            guard = λ g. g;
          })
          (kept-with v v.holding.money items (omega arith) (λ j. omega (arith, more_amount v.holding.items i taken j)))
          taken (amount - taken) (more_item v.holding i taken)))

-- ---- all that a unit has

-- Items of the world (`es`) go in turn to unit `k`, if it is there, up to its room, with the rest booked as lost. In a
-- steady campaign they are then passed on from unit `n` (`PassesOn`), if `n` isn't `k`. Only Lost of them moves.
pub pass_items : (w : WorldValue) (c : CampaignValue) (n k : ℕ) → n ≢ k → (es : List (ℕ × ℕ))
    → EachEntry (λ i a. i < length w.items) es → IsSteady w c
    → PassesOn w n (held_in_items es) (items_bound es) c (fold (after_passing_item k) c es)
pass_items w c n k apart [] known steady = passes-refl w n c steady
pass_items w c n k apart ((i, a) ∷ es) known steady =
    let one = pass_item w c n k apart steady i a known.0 in
    passes-trans w n c (after_passing_item k c (i, a)) (fold (after_passing_item k) (after_passing_item k c (i, a)) es) one
    (pass_items w (after_passing_item k c (i, a)) n k apart es known.1 one.steady)
