use Rattle.std.proofs.Common.{◌≡◌, ◌⊎◌, ℕ, ap, refl, inl, inr}
use Rattle.std.proofs.lemmas.Result.{on_err_weaker, on_ok_weaker}
use Rattle.atl_records.specs.declared.records.Unit.{Unit}
use Rattle.atl_records.specs.Holdings.{with_amount_of}
use Rattle.atl_campaign.specs.Roster.{Roster, skill_marked_at}
use Rattle.atl_lists.proofs.ListLaws.{AreUnitLists-set}
use Rattle.atl_campaign.proofs.campaign.Campaign.set_days.Goals as goal

same_values : (r s : Roster) (n skill : ℕ) → (s ≡ r) ⊎ (s ≡ skill_marked_at r n skill) → s.values ≡ r.values
same_values r s n skill (inl e) = ap (λ (t : Roster). t.values) e
same_values r s n skill (inr e) = ap (λ (t : Roster). t.values) e

pub invariant_of-self : goal.invariant_of-self
invariant_of-self c = record {
  unit_lists =
      AreUnitLists-set c.set_days.result (λ (u : Unit). record u { holding = record u.holding { days = with_amount_of u.holding.days c.args.skill c.args.days } }) (λ u. refl) c.self.inside.units.values c.set_days.new.self.values c.self.inside.lists c.args.unit
      (on_ok_weaker c.set_days.result (ap (λ (r : Roster). r.values)) c.set_days.ensures.ok) (on_err_weaker c.set_days.result (same_values c.self.inside.units c.set_days.new.self c.args.unit c.args.skill) c.set_days.ensures.err) c.self.invariant.unit_lists;
  amounts = c.self.invariant.amounts;
}

pub returns-clause-err : goal.returns-clause-err
returns-clause-err c =
    on_err_weaker c.set_days.result (λ either. elim either [
      | inl e ↦ inl (rw (← c.self.view_is, e) refl)
      | inr e ↦ inr (rw (← c.self.view_is, e) refl)
    ]) c.set_days.ensures.err
