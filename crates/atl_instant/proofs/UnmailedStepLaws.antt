-- Laws of the phases from FORM to QUIT, each of which keeps the mailings and takes back no Starved event. If a phase
-- keeps what its specification says, each unit of a faction without a mailing is still there after it, with its faction
-- and name, no less of any item, and its men less the starved. `LeavesUnmailed` says this of a phase's effect, and
-- `PhaseLeavesUnmailed` of its specification. The starved are those whom the phase's Starved events report: none here.
use Rattle.std.proofs.Common.{◌≡◌, ℕ, List, [], ◌∷◌, refl, sym, ◌∙◌, arith}
use Rattle.std.specs.Prelude.{IfSome, fold}
use Rattle.atl_lines.specs.declared.order.Operands.TheVariants as operands
use Rattle.atl_lines.specs.Orders.{OperandsValue}
use Rattle.atl_campaign.specs.Good.{IsEarly, IsSteady}
use Rattle.atl_campaign.specs.Campaign.{CampaignValue}
use Rattle.atl_phase.specs.Month.{MonthValue}
use Rattle.atl_phase.specs.PhaseOrders.{Task, orders_of}
use Rattle.atl_phase.specs.Unmailed.{starved_in}
use Rattle.atl_phase.specs.declared.phase_order.Arrangement.TheVariants.{ByFaction}
use Rattle.atl_phase.proofs.PhaseSpecLaws.{PhaseLeavesUnmailed}
use Rattle.atl_phase.proofs.UnmailedLaws.{LeavesUnmailed, OthersHaveMen, LeavesOthersMen, carried_leaves, items_of_no_worse, own_faction, order_event_starves_none, unmailed_keep_items, whole_leaves}
use Rattle.atl_instant.specs.Form.{form_by, form_keeps, form_meaning, form_order, is_forming}
use Rattle.atl_instant.specs.Give.{give_spec, give_step, is_giving}
use Rattle.atl_instant.specs.Guard.{guard_affects, guard_spec, guard_step, is_guarding}
use Rattle.atl_instant.specs.Name.{is_naming, name_affects, name_spec, name_step}
use Rattle.atl_instant.specs.Place.{is_placing, place_spec, place_step}
use Rattle.atl_instant.specs.Quit.{QuitsByOwnUnit, is_quitting, quit_effect, quit_keeps, quit_meaning, quit_step}
use Rattle.atl_instant.specs.Transfer.{is_transferring, transfer_spec, transfer_step}
use Rattle.atl_instant.proofs.EffectLaws.{leaves_men}
use Rattle.atl_instant.proofs.GiveLaws.{give_keeps}
use Rattle.atl_instant.proofs.GuardingLaws.{guard_keeps}
use Rattle.atl_instant.proofs.NameLaws.{name_keeps}
use Rattle.atl_instant.proofs.PlaceLaws.{place_keeps}
use Rattle.atl_instant.proofs.QuitLaws.{quit_stays}
use Rattle.atl_instant.proofs.TransferLaws.{transfer_keeps}

-- ---- FORM

form_readings : (p : CampaignValue × MonthValue) (ts : List Task) → (fold form_order p ts).1.readings ≡ p.1.readings
form_readings p [] = refl
form_readings p (t ∷ ts) = form_readings (form_order p t) ts

form_starves_none : (p : CampaignValue × MonthValue) (ts : List Task) (n : ℕ)
    → starved_in (fold form_order p ts).1.events n ≡ starved_in p.1.events n
form_starves_none p [] n = refl
form_starves_none p (t ∷ ts) n =
    form_starves_none (form_order p t) ts n ∙ order_event_starves_none p.1.events t (form_by p.0 t.faction t.unit).1 n

-- FORM leaves units of factions without a mailing their names and items, and their men less the starved
pub form_leaves : LeavesUnmailed form_meaning form_keeps
unfolding form_meaning
form_leaves =
    whole_leaves {meaning = form_meaning} {keeps = form_keeps}
    (λ w c m. form_readings (c, m) (orders_of is_forming ByFaction m.aliases m.readings))
    (λ w c m n. form_starves_none (c, m) (orders_of is_forming ByFaction m.aliases m.readings) n)
    (λ w c m keeps n u there none. record { unit = u; there = keeps n u there; is_unaffected = record { faction = refl; men = refl } })
    (λ w c m keeps n u there none. record { unit = u; there = keeps n u there; is_unaffected = record { name = refl; items = λ i. omega arith } })

-- ---- the phases that book nothing

-- NAME and GUARD 0 leave units of factions without a mailing their names and items, and their men less the starved
pub name_leaves : PhaseLeavesUnmailed name_spec
name_leaves =
    carried_leaves name_step is_naming (leaves_men IsEarly name_step name_keeps)
    (unmailed_keep_items {affects = name_affects} is_naming (λ t n f h. own_faction t n f h.0) items_of_no_worse)

-- LEAVE, ENTER and PROMOTE leave units of factions without a mailing their names and items, and their men less the
-- starved
pub place_leaves : PhaseLeavesUnmailed place_spec
place_leaves =
    carried_leaves place_step is_placing (leaves_men IsEarly place_step place_keeps)
    (unmailed_keep_items is_placing own_faction items_of_no_worse)

-- GIVE and PAY leave units of factions without a mailing their names and items, and their men less the starved
pub give_leaves : PhaseLeavesUnmailed give_spec
give_leaves =
    carried_leaves give_step is_giving (leaves_men IsEarly give_step give_keeps)
    (unmailed_keep_items is_giving own_faction items_of_no_worse)

-- TRANSFER leaves units of factions without a mailing their names and items, and their men less the starved
pub transfer_leaves : PhaseLeavesUnmailed transfer_spec
transfer_leaves =
    carried_leaves transfer_step is_transferring (leaves_men IsEarly transfer_step transfer_keeps)
    (unmailed_keep_items is_transferring own_faction items_of_no_worse)

-- GUARD 1 leaves units of factions without a mailing their names and items, and their men less the starved
pub guard_leaves : PhaseLeavesUnmailed guard_spec
guard_leaves =
    carried_leaves guard_step is_guarding (leaves_men IsSteady guard_step guard_keeps)
    (unmailed_keep_items {affects = guard_affects} is_guarding (λ t n f h. own_faction t n f h.0) items_of_no_worse)

-- ---- QUIT

quit_leaves_men : LeavesOthersMen quit_step
quit_leaves_men w a c t x own = by_operands t.order_value.operands
  where
    by_operands : (o : OperandsValue) → IfSome (quit_effect o) (λ effect. OthersHaveMen t.faction c (effect c x).0)
    by_operands (operands.Number number) = λ k y there other. record {
      unit = y;
      there = quit_stays c number x k y there (λ says same. other (sym own.faction ∙ same));
      is_unaffected = record { faction = refl; men = refl };
    }
    by_operands o = tt

-- QUIT leaves units of factions without a mailing their names and items, and their men less the starved
pub quit_leaves : LeavesUnmailed quit_meaning quit_keeps
quit_leaves =
    carried_leaves quit_step is_quitting quit_leaves_men
    (λ w c d m. unmailed_keep_items {affects = QuitsByOwnUnit c} is_quitting (λ t n f h. h.faction) items_of_no_worse w c d m)
