-- Laws of NAME and GUARD 0: the campaign stays early, and a unit is no worse off unless its own faction wrote one of
-- these orders for it. A unit is no worse off (`IsNoWorse`) with the same faction, region, structure, name and guard
-- flag, and no fewer men, no less money, items or days.
use Rattle.std.proofs.Common.{◌≡◌, ◌≢◌, ◌==◌, ℕ, Bool, true, false, List, Some, None, refl, sym, subst}
use Rattle.std.specs.Prelude.{IfSome, IsTrue, if◌then◌else◌}
use Rattle.std.specs.FinMap.{get}
use Rattle.atl_world.specs.Names.{name_ok}
use Rattle.atl_world.specs.Worlds.{WorldValue}
use Rattle.atl_lines.specs.declared.order.NameKind.{NameKind}
use Rattle.atl_lines.specs.declared.order.NameKind.TheVariants as kinds
use Rattle.atl_lines.specs.declared.order.Operands.TheVariants as operands
use Rattle.atl_orders.specs.Bounds.{AreOperandsOf}
use Rattle.atl_lines.specs.Orders.{OperandsValue}
use Rattle.atl_records.specs.declared.event.Outcome.TheVariants.{Done}
use Rattle.atl_records.specs.declared.records.Structure.{Structure}
use Rattle.atl_records.specs.declared.records.Unit.{Unit}
use Rattle.atl_campaign.specs.Good.{IsEarly, IsOwned}
use Rattle.atl_campaign.specs.Lending.{with_holding_at}
use Rattle.atl_campaign.specs.Campaign.{CampaignValue, with_faction_name, with_guard, with_structure_name, with_unit_name}
use Rattle.atl_campaign.proofs.HavingLaws.{early-having}
use Rattle.atl_phase.specs.NoWorse.{IsNoWorse}
use Rattle.atl_phase.specs.Bounds.{IsOrderly, StepsWell, nothing_remaining}
use Rattle.atl_phase.specs.Unbooked.{moves_nothing}
use Rattle.atl_phase.proofs.ChangeLaws.{changed_held, change_keeps_others}
use Rattle.atl_phase.proofs.MeaningLaws.{same_month_among, same_month_by}
use Rattle.atl_phase.proofs.OutcomeLaws.{false_true}
use Rattle.atl_phase.proofs.RefitLaws.{IsRelabelled, early-relabelled}
use Rattle.atl_phase.proofs.StructureLaws.{at_number, get-changed, len-changed}
use Rattle.atl_phase.proofs.UnbookedLaws.{same_total_of, unbooked_well}
use Rattle.atl_instant.specs.Name.{name_affects, name_effect, name_result, name_step, structure_fault, structure_name_result}
use Rattle.atl_instant.proofs.EffectLaws.{OrderKeeps, StepKeeps, keeps_others, keeps_unless, orderly_by}
use Rattle.atl_instant.proofs.GuardingLaws.{labelled, may_label, total-labelled}
use Rattle.atl_instant.proofs.FactionLaws.{count-faction_name, known-faction_name, steady-faction_name}

-- what an order of NAME or GUARD 0 for unit n (u) of campaign c keeps (`OrderKeeps`), if it fits the world (`fit`)
module _ (fit : Type 0) (w : WorldValue) (c : CampaignValue) (n : ℕ) (u : Unit) (is : get c.units n ≡ Some u) where
  abbrev KeepsOthersByName : CampaignValue → Type 0
  KeepsOthersByName d = OrderKeeps IsEarly fit w c n u.faction d

  -- ---- the unit's name and its flag

  label_well : (name : List ℕ) (flag : Bool) → IsTrue (name_ok name) → (flag ≡ true → u.holding.guard ≡ true)
      → IsEarly w c → (d : CampaignValue) → d ≡ with_holding_at c n (labelled w c n u is name flag) (Some u)
      → StepsWell IsEarly nothing_remaining w c d
  label_well name flag ok old early d made =
      let h = labelled w c n u is name flag in
      subst (StepsWell IsEarly nothing_remaining w c) (sym made)
      (unbooked_well w c (with_holding_at c n h (Some u)) (early-having w c n u h is (may_label w c n u is name flag ok early.steady) old early) (same_month_by refl) refl (total-labelled w c n u is name flag))

  unit_named : (name : List ℕ) → (fit → IsTrue (name_ok name)) → KeepsOthersByName (with_unit_name c n name)
  unit_named name ok =
      keeps_others w c n u.faction (with_unit_name c n name)
      (λ early fits. label_well name u.holding.guard (ok fits) (λ g. g) early (with_unit_name c n name) (changed_held (λ h. record h { name = name }) c (with_unit_name c n name) n refl u is))
      (change_keeps_others (λ (x : Unit). record x { holding = record x.holding { name = name } }) c n)

  flag_cleared : KeepsOthersByName (with_guard c n false)
  flag_cleared =
      keeps_others w c n u.faction (with_guard c n false)
      (λ early fits. label_well u.holding.name false (early.steady.names.units n u is) (λ g. false_true g) early (with_guard c n false) (changed_held (λ h. record h { guard = false }) c (with_guard c n false) n refl u is))
      (change_keeps_others (λ (x : Unit). record x { holding = record x.holding { guard = false } }) c n)

  -- ---- the names of its faction and of a structure

  faction_named : (name : List ℕ) → (fit → IsTrue (name_ok name))
      → KeepsOthersByName (with_faction_name c u.faction name)
  faction_named name ok =
      keeps_others w c n u.faction (with_faction_name c u.faction name) (λ early fits.
      let (x, there) = (early.steady.known.units n u is).faction in
      unbooked_well w c (with_faction_name c u.faction name)
      (record { steady = steady-faction_name c u.faction x name there w (ok fits) early.steady; flags = early.flags })
      (same_month_among refl (count-faction_name c u.faction x name there) (known-faction_name c u.faction x name there)) refl (same_total_of c (with_faction_name c u.faction name) refl refl))
      (λ k apart. refl)

  abbrev titled : List ℕ → Structure → Structure
  titled name s = record s { name = name }

  structure_well : (k : ℕ) (name : List ℕ) → IsTrue (name_ok name) → IsEarly w c
      → StepsWell IsEarly nothing_remaining w c (with_structure_name c k name)
  structure_well k name ok early =
      unbooked_well w c (with_structure_name c k name)
      (early-relabelled w c n u is _ (at_number (titled name) c.structures k) (get-changed (titled name) c.structures k) (len-changed (titled name) c.structures k)
      (λ q y there. relabelled y (q == k)) (λ q y there. owned q y (q == k) (early.steady.owners q y there)) early)
      (same_month_by refl) refl (same_total_of c (with_structure_name c k name) refl refl)
    where
      relabelled : (y : Structure) (b : Bool) → IsRelabelled y (if b then titled name y else y)
      relabelled y true = record { kind = refl; region = refl; done = refl; name = λ old. ok }
      relabelled y false = record { kind = refl; region = refl; done = refl; name = λ old. old }

      owned : (q : ℕ) (y : Structure) (b : Bool) → IsOwned c q y → IsOwned c q (if b then titled name y else y)
      owned q y true o = record { owned = o.owned; ownerless = o.ownerless }
      owned q y false o = o

  structure_named : (k : ℕ) (ship : Bool) (name : List ℕ) → (fit → IsTrue (name_ok name))
      → KeepsOthersByName (structure_name_result w c n k ship name).0
  structure_named k ship name ok =
      keeps_unless w c n u.faction (structure_fault w n ship (get c.structures k)) (with_structure_name c k name) (Done 0) (λ none.
      keeps_others w c n u.faction (with_structure_name c k name) (λ early fits. structure_well k name (ok fits) early) (λ j apart. refl))

  -- ---- an order

  named : (what : NameKind) (name : List ℕ) → (fit → IsTrue (name_ok name))
      → KeepsOthersByName (name_result w c n u.faction u.structure what name).0
  named kinds.Unit name ok = unit_named name ok
  named kinds.Faction name ok = faction_named name ok
  named kinds.Building name ok = structure_named u.structure false name ok
  named kinds.Ship name ok = structure_named u.structure true name ok

-- Each order of NAME or GUARD 0 for a unit of its writer's faction leaves other units no worse off, and those of other
-- factions exactly their men. If it can be read with the world, it keeps an early campaign early, its month and its
-- balance, and books nothing (`StepKeeps`).
pub name_keeps : StepKeeps IsEarly name_step
name_keeps w a c t x own = by_operands t.order_value.operands
  where
    by_operands : (o : OperandsValue)
        → IfSome (name_effect w t.unit o) (λ effect. OrderKeeps IsEarly (AreOperandsOf w o) w c t.unit x.faction (effect c x).0)
    by_operands (operands.Name what name) =
        named (AreOperandsOf w (operands.Name what name)) w c t.unit x own.there what name (λ fit. fit)
    by_operands (operands.Flag false) = flag_cleared (AreOperandsOf w (operands.Flag false)) w c t.unit x own.there
    by_operands other = tt

-- In an early campaign a NAME or GUARD 0 for a unit of its writer's faction leaves every other unit no worse off. If it
-- can be read with the world, the campaign stays early, in its month and in balance, and nothing is booked.
pub name_orderly : IsOrderly name_step IsEarly nothing_remaining moves_nothing name_affects IsNoWorse
name_orderly =
    orderly_by name_keeps
    (λ w a t n f own other. passes_over_guard w t.unit t.order_value.operands (λ names. other (own, names)))
  where
    -- for `name_orderly`: the phase passes over GUARD 1, given as an order for which other operands than those of GUARD
    -- 1 are impossible
    passes_over_guard : (w : WorldValue) (n : ℕ) (o : OperandsValue) → (o ≢ operands.Flag true → ⊥)
        → name_effect w n o ≡ None
    passes_over_guard w n (operands.Name what name) other = absurd (other (λ same. cc))
    passes_over_guard w n (operands.Flag false) other = absurd (other (λ same. cc))
    passes_over_guard w n o other = refl
