-- The law that an exchange between a unit and its region keeps a campaign early and its books balanced. In an exchange
-- what the unit holds changes, its region changes, and money is booked, as by RECRUIT, SELL and BUY.
use Rattle.std.proofs.Common.{◌≡◌, ◌==◌, ℕ, ◌+◌, true, false, cond, Some, refl, sym, ap, ◌∙◌, arith}
use Rattle.std.specs.Prelude.{ℤ, pos, ◌+ℤ◌}
use Rattle.std.specs.FinMap.{get, insert}
use Rattle.std.proofs.lemmas.Int.{ints}
use Rattle.std.proofs.lemmas.Bool.Decides.{nat_tests}
use Rattle.atl_world.specs.Worlds.{WorldValue}
use Rattle.atl_records.specs.declared.books.BooksEntry.{BooksEntry}
use Rattle.atl_records.specs.declared.books.Thing.{Thing}
use Rattle.atl_records.specs.declared.books.Thing.TheVariants.{Money, People, Item}
use Rattle.atl_records.specs.declared.records.Region.{Region}
use Rattle.atl_records.specs.declared.records.Unit.{Unit}
use Rattle.atl_records.specs.Books.{IsWithin}
use Rattle.atl_campaign.specs.Good.{IsEarly, IsSteady}
use Rattle.atl_records.specs.Holdings.{HoldingValue, amount_of}
use Rattle.atl_campaign.specs.Campaign.{CampaignValue, region_changed, with_booking}
use Rattle.atl_records.specs.Amounts.{region_amount, unit_amount}
use Rattle.atl_campaign.specs.Totals.{total}
use Rattle.atl_records.proofs.BookLaws.{booked-after_booking, booked_for}
use Rattle.atl_campaign.proofs.HavingLaws.{MayHave, early-having}
use Rattle.atl_campaign.proofs.HoldingLaws.{total-new_holding}
use Rattle.atl_campaign.proofs.RegionLaws.{steady-amount, total-booking, total-region}
use Rattle.atl_phase.specs.Meaning.{LeavesWell, moves_only}
use Rattle.atl_phase.proofs.BookingLaws.{booked-near}
use Rattle.atl_phase.proofs.MeaningLaws.{same_month_by}

-- Unit `u` and region `q` together have as many people and items after an exchange as before it. Their money together
-- changes by what is booked (`z`). After the exchange the unit holds `more`, and the region is what `f` makes of it.
pub record KeepsTogether (u : Unit) (q : Region) (f : Region → Region) (more : HoldingValue) (z : ℤ) : Type 0 where
  pub money : pos (more.money + (f q).money) ≡ pos (u.holding.money + q.money) +ℤ z
  pub people : more.men + (f q).peasants ≡ u.holding.men + q.peasants
  pub items : (i : ℕ)
      → amount_of more.items i + amount_of (f q).stocks i ≡ amount_of u.holding.items i + amount_of q.stocks i

-- Unit `n`, which is `u`, exchanges with its region `q`. Then the unit holds `more`, the region is what `f` makes of
-- `q`, and `z` money is booked under `entry`.
module _ (w : WorldValue) (c : CampaignValue) (n : ℕ) (u : Unit) (q : Region) (f : Region → Region) (more : HoldingValue) (entry : BooksEntry) (z : ℤ)
    (is : get c.units n ≡ Some u) (around : get c.regions u.region ≡ Some q) where
  abbrev supplied : CampaignValue
  supplied = record c { units = insert c.units n (record u { holding = more }) }

  -- the campaign in which unit `n` holds `more` and its region is changed by `f`; nothing is booked yet
  abbrev left : CampaignValue
  left = region_changed f supplied u.region

  abbrev exchanged : CampaignValue
  exchanged = with_booking left entry Money z

  -- an exchange after which unit and region together have what they had, plus the money booked (`KeepsTogether`),
  -- changes the total of each thing by what it books
  total_of : KeepsTogether u q f more z → (t : Thing)
      → pos (total exchanged t) ≡ pos (total c t) +ℤ booked_for t Money z
  total_of keeps t =
      by_thing t (total-booking left entry Money t z) (total-region f supplied u.region q around t)
      (total-new_holding w c n u more is t)
    where
      same : (a b d e g h i j : ℕ) → a ≡ b → b + g ≡ d + h → d + i ≡ e + j → j + h ≡ i + g → a ≡ e
      same a b d e g h i j s k l m = omega (arith, s, k, l, m)

      none_booked : (x i : ℕ) → pos x +ℤ booked_for (Item i) Money z ≡ pos x
      none_booked x i =
          let other : (2 + i == 0) ≡ false = grind (arith, nat_tests) in
          ap (λ b. pos x +ℤ cond b z (pos 0)) other ∙ zero_more
        where
          zero_more : pos x +ℤ pos 0 ≡ pos x
          zero_more = omega (arith, ints)

      by_thing : (t : Thing) → total exchanged t ≡ total left t
          → total left t + region_amount t q ≡ total supplied t + region_amount t (f q)
          → total supplied t + unit_amount t u.holding ≡ total c t + unit_amount t more
          → pos (total exchanged t) ≡ pos (total c t) +ℤ booked_for t Money z
      by_thing Money s a b = omega (arith, ints, s, a, b, keeps.money)
      by_thing People s a b = omega (arith, ints, s, a, b, keeps.people)
      by_thing (Item i) s a b =
          ap pos (same (total exchanged (Item i)) (total left (Item i)) (total supplied (Item i)) (total c (Item i)) (amount_of q.stocks i) (amount_of (f q).stocks i) (amount_of u.holding.items i) (amount_of more.items i) s a b (keeps.items i))
          ∙ sym (none_booked (total c (Item i)) i)

  -- An exchange keeps an early campaign early, with the same month, reports and factions, and its books balanced
  -- (`LeavesWell`). This supposes that the unit may hold `more`, which sets no guard flag, and that the change of the
  -- region keeps the campaign steady. At most `limit` money is booked, and unit and region together have what they had,
  -- plus the money booked (`KeepsTogether`).
  pub exchange_well : (limit : ℕ) → MayHave w more → (more.guard ≡ true → u.holding.guard ≡ true)
      → (IsSteady w supplied → IsSteady w left) → KeepsTogether u q f more z → IsWithin limit z → IsEarly w c
      → LeavesWell IsEarly (moves_only limit entry Money) w c exchanged
  exchange_well limit may flag region keeps small early =
      let before = early-having w c n u more is may flag early in
      record {
        leaves_it = record { steady = steady-amount w left entry Money z (omega arith) (region before.steady); flags = before.flags };
        same_month = same_month_by refl;
        balances = λ old t. total_of keeps t ∙ ap (λ y. y +ℤ booked_for t Money z) (old t) ∙ sym (booked-after_booking c.books entry Money z t);
        near = booked-near c.books entry Money z limit small;
      }
