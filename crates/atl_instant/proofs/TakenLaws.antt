-- Laws of the events of the phases from FORM to TRANSFER, of GUARD 1 and of QUIT: each gives an event to each of its
-- orders. The phases of NAME and of GUARD 1 both get the orders of GUARD, and each passes over those of the other.
-- `Gives` says which reports a phase adds for the faction and line of an order t of a mailing, where `counts` says
-- whether t counts there. It supposes that the mailings can be read with the world, and says that the phase keeps
-- mailings and aliases. A report is what an event says of its order. Operands have the shape of a verb (`Fits`) if they
-- are of the form that it takes.
use Rattle.std.proofs.Common.{◌≡◌, ◌&&◌, ◌++◌, Bool, true, false, not, map, filter, is_some, refl, ap, ◌∙◌}
use Rattle.std.proofs.lemmas.List.{map-append}
use Rattle.std.proofs.lemmas.List.Elements.{filter-append}
use Rattle.std.specs.FinMap.{FinMap}
use Rattle.std.specs.Ordering.{nat_cmp}
use Rattle.atl_world.specs.Worlds.{WorldValue}
use Rattle.atl_lines.specs.declared.order.Operands.TheVariants as operands
use Rattle.atl_world.specs.declared.verb.Verb.{Verb}
use Rattle.atl_world.specs.declared.verb.Verb.TheVariants as verbs
use Rattle.atl_orders.specs.Mailing.{Reading}
use Rattle.atl_lines.specs.Orders.{OperandsValue}
use Rattle.atl_campaign.specs.Campaign.{CampaignValue}
use Rattle.atl_phase.specs.declared.phase_order.Arrangement.TheVariants.{ByFaction}
use Rattle.atl_phase.specs.Fit.{AreFit}
use Rattle.atl_phase.specs.Month.{MonthValue}
use Rattle.atl_phase.specs.PhaseOrders.{IsInMailing, Task, order_counts, orders_of, tasks_of}
use Rattle.atl_phase.specs.Reports.{is_from, report_for, report_of}
use Rattle.atl_phase.proofs.EventLaws.{Fits, Gives, TakesThose, all_orders, fold_adds, fold_keeps, gives_by_orders, report_if, report_in_phase, reports_at}
use Rattle.atl_instant.specs.Form.{form_meaning, form_order, is_forming}
use Rattle.atl_instant.specs.Give.{give_effect, give_spec, give_step, is_giving}
use Rattle.atl_instant.specs.Guard.{guard_effect, guard_spec, guard_step, is_guarding}
use Rattle.atl_instant.specs.Name.{is_naming, name_effect, name_spec, name_step}
use Rattle.atl_instant.specs.Place.{is_placing, place_effect, place_spec, place_step}
use Rattle.atl_instant.specs.Quit.{is_quitting, quit_effect, quit_spec, quit_step}
use Rattle.atl_instant.specs.Transfer.{is_transferring, transfer_effect, transfer_spec, transfer_step}

-- ---- LEAVE, ENTER and PROMOTE

place_takes : TakesThose place_step is_placing all_orders
place_takes w a t of_phase fit = by_verb t.order_value.verb t.order_value.operands of_phase fit.shape
  where
    by_verb : (v : Verb) (o : OperandsValue) → is_placing v ≡ true → Fits v o
        → is_some (place_effect w a t.faction t.unit o) ≡ true
    by_verb verbs.Leave operands.Nothing of_phase fits = refl
    by_verb verbs.Leave o of_phase fits = cc
    by_verb verbs.Enter (operands.Number s) of_phase fits = refl
    by_verb verbs.Enter o of_phase fits = cc
    by_verb verbs.Promote (operands.Unit to) of_phase fits = refl
    by_verb verbs.Promote o of_phase fits = cc
    by_verb v o of_phase fits = cc

-- the phase gives one event to each order of LEAVE, ENTER or PROMOTE that counts, and none to any other order (`Gives`)
pub place_gives : Gives (λ counts t. report_if (is_placing t.order_value.verb && counts && true) t) place_spec.meaning
place_gives = gives_by_orders place_step is_placing all_orders place_takes

-- ---- GIVE and PAY

give_takes : TakesThose give_step is_giving all_orders
give_takes w a t of_phase fit = by_verb t.order_value.verb t.order_value.operands of_phase fit.shape
  where
    by_verb : (v : Verb) (o : OperandsValue) → is_giving v ≡ true → Fits v o
        → is_some (give_effect a t.faction t.unit o) ≡ true
    by_verb verbs.Give (operands.UnitAndGoods to n item) of_phase fits = refl
    by_verb verbs.Give o of_phase fits = cc
    by_verb verbs.Pay (operands.UnitAndNumber to n) of_phase fits = refl
    by_verb verbs.Pay o of_phase fits = cc
    by_verb v o of_phase fits = cc

-- the phase gives one event to each order of GIVE or PAY that counts, and none to any other order (`Gives`)
pub give_gives : Gives (λ counts t. report_if (is_giving t.order_value.verb && counts && true) t) give_spec.meaning
give_gives = gives_by_orders give_step is_giving all_orders give_takes

-- ---- TRANSFER

transfer_takes : TakesThose transfer_step is_transferring all_orders
transfer_takes w a t of_phase fit = by_verb t.order_value.verb t.order_value.operands of_phase fit.shape
  where
    by_verb : (v : Verb) (o : OperandsValue) → is_transferring v ≡ true → Fits v o
        → is_some (transfer_effect a t.faction t.unit o) ≡ true
    by_verb verbs.Transfer (operands.UnitAndNumber to n) of_phase fits = refl
    by_verb verbs.Transfer o of_phase fits = cc
    by_verb v o of_phase fits = cc

-- the phase gives one event to each order of TRANSFER that counts, and none to any other order (`Gives`)
pub transfer_gives : Gives (λ counts t. report_if (is_transferring t.order_value.verb && counts && true) t) transfer_spec.meaning
transfer_gives = gives_by_orders transfer_step is_transferring all_orders transfer_takes

-- ---- QUIT

quit_takes : TakesThose quit_step is_quitting all_orders
quit_takes w a t of_phase fit = by_verb t.order_value.verb t.order_value.operands of_phase fit.shape
  where
    by_verb : (v : Verb) (o : OperandsValue) → is_quitting v ≡ true → Fits v o → is_some (quit_effect o) ≡ true
    by_verb verbs.Quit (operands.Number n) of_phase fits = refl
    by_verb verbs.Quit o of_phase fits = cc
    by_verb v o of_phase fits = cc

-- the phase gives one event to each order of QUIT that counts, and none to any other order (`Gives`)
pub quit_gives : Gives (λ counts t. report_if (is_quitting t.order_value.verb && counts && true) t) quit_spec.meaning
quit_gives = gives_by_orders quit_step is_quitting all_orders quit_takes

-- ---- NAME and GUARD

-- whether operands are those of GUARD 1
abbrev pub sets_guard : OperandsValue → Bool
sets_guard (operands.Flag flag) = flag
sets_guard o = false

-- whether the phase of NAME carries out an order with these operands, if the verb is its own: false for GUARD 1 alone
abbrev pub names : Verb → OperandsValue → Bool
names verbs.Guard o = not (sets_guard o)
names v o = true

-- the phase of NAME passes over GUARD 1 alone
name_takes : TakesThose name_step is_naming (λ t. names t.order_value.verb t.order_value.operands)
name_takes w a t of_phase fit = by_verb t.order_value.verb t.order_value.operands of_phase fit.shape
  where
    -- operands of the shape of the verb have an effect, unless they are those of GUARD 1
    by_verb : (v : Verb) (o : OperandsValue) → is_naming v ≡ true → Fits v o
        → is_some (name_effect w t.unit o) ≡ names v o
    by_verb verbs.Name (operands.Name what name) of_phase fits = refl
    by_verb verbs.Name o of_phase fits = cc
    by_verb verbs.Guard (operands.Flag false) of_phase fits = refl
    by_verb verbs.Guard (operands.Flag true) of_phase fits = refl
    by_verb verbs.Guard o of_phase fits = cc
    by_verb v o of_phase fits = cc

-- the phase of NAME gives one event to each order of NAME or GUARD 0 that counts, and none to any other order (`Gives`)
pub name_gives : Gives (λ counts t. report_if (is_naming t.order_value.verb && counts && names t.order_value.verb t.order_value.operands) t) name_spec.meaning
name_gives = gives_by_orders name_step is_naming (λ t. names t.order_value.verb t.order_value.operands) name_takes

-- the phase of GUARD 1 passes over all but GUARD 1
guard_takes : TakesThose guard_step is_guarding (λ t. sets_guard t.order_value.operands)
guard_takes w a t of_phase fit = by_operands t.order_value.operands
  where
    by_operands : (o : OperandsValue) → is_some (guard_effect t.unit o) ≡ sets_guard o
    by_operands (operands.Flag true) = refl
    by_operands (operands.Flag false) = refl
    by_operands o = refl

-- the phase of GUARD 1 gives one event to each order of GUARD 1 that counts, and none to any other order (`Gives`)
pub guard_gives : Gives (λ counts t. report_if (is_guarding t.order_value.verb && counts && sets_guard t.order_value.operands) t) guard_spec.meaning
guard_gives = gives_by_orders guard_step is_guarding (λ t. sets_guard t.order_value.operands) guard_takes

-- operands o with the shape of a verb v of the phase of GUARD 1 have the shape of GUARD, its only verb
pub guard_shape : (v : Verb) (o : OperandsValue) → is_guarding v ≡ true → Fits v o → Fits verbs.Guard o
guard_shape verbs.Guard o of_phase fits = fits
guard_shape v o of_phase fits = cc

-- ---- FORM

-- operands o with the shape of a verb v of the phase of FORM have the shape of FORM, its only verb
pub form_shape : (v : Verb) (o : OperandsValue) → is_forming v ≡ true → Fits v o → Fits verbs.Form o
form_shape verbs.Form o of_phase fits = fits
form_shape v o of_phase fits = cc

-- If the mailings can be read with the world, the phase of FORM gives one event to an order t of a mailing (`there`),
-- if t is a FORM and counts, and else none. All is read with the aliases as the phase begins.
pub form_gives : (w : WorldValue) (c : CampaignValue) (m : MonthValue) (readings : FinMap nat_cmp Reading)
    → m.readings ≡ readings → AreFit w readings → (t : Task) (there : IsInMailing m.aliases readings t)
    → reports_at t.faction t.line (form_meaning w c m).1 ≡ reports_at t.faction t.line m ++ report_if (is_forming t.order_value.verb && order_counts (tasks_of m.aliases t.faction there.reading) t) t
unfolding form_meaning
form_gives w c m readings er fit t there =
    let ts = orders_of is_forming ByFaction m.aliases m.readings in
    ap (λ rs. filter (is_from t.faction t.line) rs) (fold_adds form_order (λ p u. map-append report_of p.1.events _) ts (c, m))
    ∙ filter-append (is_from t.faction t.line) (map report_of m.events) (map report_for ts)
    ∙ ap (λ rs. reports_at t.faction t.line m ++ rs) (report_in_phase w m m.aliases readings refl er fit t there is_forming ByFaction)

-- the phase of FORM keeps the mailings
pub form_keeps_readings : (w : WorldValue) (c : CampaignValue) (m : MonthValue)
    → (form_meaning w c m).1.readings ≡ m.readings
unfolding form_meaning
form_keeps_readings w c m =
    fold_keeps (λ x. x.readings) form_order (λ p u. refl) (orders_of is_forming ByFaction m.aliases m.readings) (c, m)
