-- QUIT: a faction leaves the campaign with all its units. See docs/RULES.md, "Quitting". A unit is no worse off
-- (`IsNoWorse`) with the same faction, region, structure, name and guard flag, and no fewer men, no less money, items
-- or days.
use Rattle.std.specs.Prelude.{◌≡◌, ℕ, pos, neg_ℤ, ◌==◌, not, Bool, true, false, [], ◌∷◌, fold, Option, Some, None, if◌then◌else◌}
use Rattle.std.specs.FinMap.{entries, get}
use Rattle.atl_world.specs.Sums.{sum_over}
use Rattle.atl_lines.specs.declared.order.Operands.TheVariants as operands
use Rattle.atl_world.specs.declared.verb.Verb.{Verb}
use Rattle.atl_world.specs.declared.verb.Verb.TheVariants as verbs
use Rattle.atl_lines.specs.Orders.{OperandsValue}
use Rattle.atl_records.specs.Books.{entry_index}
use Rattle.atl_records.specs.declared.books.BooksEntry.{BooksEntry}
use Rattle.atl_records.specs.declared.books.BooksEntry.TheVariants.{Left, Lost}
use Rattle.atl_records.specs.declared.books.Thing.{Thing}
use Rattle.atl_records.specs.declared.books.Thing.TheVariants.{Item, Money, People}
use Rattle.atl_records.specs.declared.event.EventFault.{EventFault}
use Rattle.atl_records.specs.declared.event.EventFault.TheVariants.{WrongNumber}
use Rattle.atl_records.specs.declared.event.Outcome.TheVariants.{Done}
use Rattle.atl_records.specs.declared.records.Unit.{Unit}
use Rattle.atl_records.specs.Amounts.{unit_amount}
use Rattle.atl_records.specs.Holdings.{HoldingValue}
use Rattle.atl_campaign.specs.Owners.{without_unit}
use Rattle.atl_campaign.specs.Campaign.{CampaignValue, numbers_of_faction, with_booking}
use Rattle.atl_phase.specs.Meaning.{BookBound, Frame, Meaning, most_moved}
use Rattle.atl_phase.specs.Bounds.{RemainingBound}
use Rattle.atl_phase.specs.Outcomes.{fault_or, first_fault}
use Rattle.atl_phase.specs.PhaseOrders.{Task}
use Rattle.atl_phase.specs.NoWorse.{IsNoWorse}
use Rattle.atl_phase.specs.OrderEffects.{Affects, OrderEffect, OrderMeaning, is_own, meaning_by_orders, others_unaffected}
use Rattle.atl_phase.specs.PhaseSpecs.{PhaseSpec}

-- whether a verb is QUIT
abbrev pub is_quitting : Verb → Bool
is_quitting verbs.Quit = true
is_quitting verb = false

-- the entry under which what a leaving unit has is booked: left for men, lost for money and items
abbrev pub loss_entry : Thing → BooksEntry
loss_entry People = Left
loss_entry thing = Lost

-- the campaign with this amount of a thing booked as gone: men as left, money and items as lost
abbrev pub with_loss : CampaignValue → Thing → ℕ → CampaignValue
with_loss c t amount = with_booking c (loss_entry t) t (neg_ℤ (pos amount))

-- the campaign with this amount of an item booked as lost
abbrev pub with_item_loss : CampaignValue → ℕ × ℕ → CampaignValue
with_item_loss c (item, amount) = with_loss c (Item item) amount

-- the campaign in which all that a unit holds is booked as gone from it: its men as left, its money and each of its
-- items as lost; only the books change
abbrev pub with_all_losses : CampaignValue → HoldingValue → CampaignValue
with_all_losses c h = fold with_item_loss (with_loss (with_loss c People h.men) Money h.money) (entries h.items)

-- `after_leaving` once unit n is looked up: n is removed, all that it had is booked as gone, and a structure that it
-- owned gets its next owner; unchanged where n isn't there (None)
abbrev pub without_leaver : CampaignValue → (n : ℕ) → Option Unit → CampaignValue
without_leaver c n None = c
without_leaver c n (Some u) = without_unit (with_all_losses c u.holding) n

-- the campaign after the unit of number n left with all that it had, which is booked as gone, and a structure that it
-- owned got its next owner; unchanged where it isn't there
unfoldable pub after_leaving : CampaignValue → (n : ℕ) → CampaignValue
after_leaving c n = without_leaver c n (get c.units n)

-- the fault of QUIT with this faction number: WrongNumber where the unit's faction has another one; None otherwise
abbrev pub quit_fault : (number : ℕ) → Unit → Option EventFault
quit_fault number u = first_fault ((not (number == u.faction), WrongNumber) ∷ [])

-- The effect of QUIT with a number on a unit. If it is the number of the unit's faction, all units of this faction
-- leave, by rising number, and the outcome is Done with 0. Else the fault is WrongNumber, and nothing changes.
unfoldable pub quit : (number : ℕ) → OrderEffect
quit number c u = fault_or c (quit_fault number u) (fold after_leaving c (numbers_of_faction u.faction c.units), Done 0)

-- the effect of an order of QUIT: that of QUIT with the number that is its operand; None for operands of any other form
abbrev pub quit_effect : OperandsValue → Option OrderEffect
quit_effect (operands.Number number) = Some (quit number)
quit_effect other = None

-- what the phase does at one order: the effect of QUIT with its number; None for operands of any other form
abbrev pub quit_step : OrderMeaning
quit_step w aliases t = quit_effect t.order_value.operands

-- the effect of the phase: the orders of QUIT that count, carried out one by one
abbrev pub quit_meaning : Meaning
quit_meaning = meaning_by_orders quit_step is_quitting

-- an order affects a unit if the unit's own faction wrote it, for any unit, with the faction's own number
abbrev pub quit_affects : Affects
quit_affects t number faction = (t.faction ≡ faction) × (t.order_value.operands ≡ operands.Number faction)

-- Order t, if it is a QUIT, makes faction f quit, and with it unit n, whichever unit of f that is. Its number is that
-- of f, which wrote it for a unit that was its own in `begun`, the campaign as the phase began.
pub record QuitsByOwnUnit (begun : CampaignValue) (t : Task) (n f : ℕ) : Type 0 where
  pub own : is_own begun t ≡ true
  pub faction : t.faction ≡ f
  pub names_own_number : t.order_value.operands ≡ operands.Number f

-- what the phase keeps: each unit is still there and no worse off, unless its faction quits by an order for a unit that
-- was its own as the phase began
abbrev pub quit_keeps : Frame
quit_keeps w m before after = others_unaffected (QuitsByOwnUnit before) IsNoWorse is_quitting w m before after

-- the most by which the phase moves the books: less than 10^14 of each thing under the entry for its loss, and nothing
-- under any other entry
abbrev pub quit_moves : BookBound
quit_moves e t = if entry_index e == entry_index (loss_entry t) then most_moved else 0

-- How much of a thing is booked under an entry when a unit leaves with all that it holds. It is what the unit holds of
-- the thing under the entry for its loss, and 0 under any other entry.
abbrev pub loss_under : BooksEntry → Thing → HoldingValue → ℕ
loss_under e t h = if entry_index e == entry_index (loss_entry t) then unit_amount t h else 0

-- by how much QUIT may still move the books: what all units together hold of a thing under the entry for its loss, and
-- 0 under any other entry
abbrev pub quit_remaining : RemainingBound
quit_remaining c e t = sum_over (λ u. loss_under e t u.holding) c.units

-- The specification of the phase of QUIT: its orders are carried out one by one. The men of the leaving units are
-- booked as left, their money and items as lost, each thing by less than 10^14. Each unit is still there and no worse
-- off, unless its faction quits by an order for a unit that was its own as the phase began.
abbrev pub quit_spec : PhaseSpec
quit_spec = record {
  meaning = quit_meaning;
  book_bound = quit_moves;
  moved = record { money = Lost ∷ []; people = Left ∷ []; items = Lost ∷ [] };
  keeps = quit_keeps;
}
