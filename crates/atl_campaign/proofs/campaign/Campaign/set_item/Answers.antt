use Rattle.std.proofs.Common.{◌≡◌, ◌⊎◌, ℕ, ap, refl, inl, inr}
use Rattle.std.proofs.lemmas.Result.{on_err_weaker, on_ok_weaker}
use Rattle.atl_records.specs.declared.records.Unit.{Unit}
use Rattle.atl_records.specs.Holdings.{with_amount_of}
use Rattle.atl_campaign.specs.Roster.{Roster, item_marked_at}
use Rattle.atl_lists.proofs.ListLaws.{AreUnitLists-set}
use Rattle.atl_campaign.proofs.campaign.Campaign.set_item.Goals as goal

same_values : (r s : Roster) (n item amount : ℕ) → (s ≡ r) ⊎ (s ≡ item_marked_at r n item amount) → s.values ≡ r.values
same_values r s n item amount (inl e) = ap (λ (t : Roster). t.values) e
same_values r s n item amount (inr e) = ap (λ (t : Roster). t.values) e

pub invariant_of-self : goal.invariant_of-self
invariant_of-self c = record {
  unit_lists =
      AreUnitLists-set c.set_item.result (λ (u : Unit). record u { holding = record u.holding { items = with_amount_of u.holding.items c.args.item c.args.amount } }) (λ u. refl) c.self.inside.units.values c.set_item.new.self.values c.self.inside.lists c.args.unit
      (on_ok_weaker c.set_item.result (ap (λ (r : Roster). r.values)) c.set_item.ensures.ok) (on_err_weaker c.set_item.result (same_values c.self.inside.units c.set_item.new.self c.args.unit c.args.item c.args.amount) c.set_item.ensures.err) c.self.invariant.unit_lists;
  amounts = c.self.invariant.amounts;
}

pub returns-clause-err : goal.returns-clause-err
returns-clause-err c =
    on_err_weaker c.set_item.result (λ either. elim either [
      | inl e ↦ inl (rw (← c.self.view_is, e) refl)
      | inr e ↦ inr (rw (← c.self.view_is, e) refl)
    ]) c.set_item.ensures.err
