use Rattle.std.proofs.Common.{◌≡◌, ◌≤◌, ◌-◌, Some, sym, ap, subst, ◌∙◌}
use Rattle.std.specs.FinMap.{get}
use Rattle.std.proofs.lemmas.Option.{same_Some}
use Rattle.std.proofs.lemmas.Result.{on_ok_weaker}
use Rattle.atl_world.specs.Every.{Every}
use Rattle.atl_records.specs.Holdings.{HoldingValue}
use Rattle.atl_campaign.specs.Lending.{with_holding_at}
use Rattle.atl_campaign.specs.Marks.{Marks}
use Rattle.atl_records.specs.declared.records.Unit.{Unit}
use Rattle.atl_phase.specs.Holdings.{ChangesHolding, with_days}
use Rattle.atl_phase.proofs.ChangeLaws.{changed_held, money_changes, then_changes}
use Rattle.atl_phase.proofs.MarkLaws.{on_ok_both}
use Rattle.atl_shares.specs.UpkeepSharing.{CanSpare}
use Rattle.atl_upkeep.specs.Upkeep.{after_upkeep}
use Rattle.atl_upkeep.proofs.UpkeepLaws.{starving_sets_holding}
use Rattle.atl_upkeep.proofs.upkeep.starve.Goals as goal

pub returns : goal.returns
returns c =
    let (w, can) = c.requires.can in
    let s = c.args.upkeep_result.now in
    let old = c.args.campaign.now in
    let mid = c.set_money.new.self in
    let after = c.set_people.new.campaign in
    let v = c.in-Some.unit.now in
    let there : get old.value.units s.unit ≡ Some v = sym c.in-Some.ensures in
    let left = c.men.result - s.starved in
    let money = c.money.result - s.paid in
    let days = c.deref.result.now in
    let spare : CanSpare s v.holding.men v.holding.money = subst (λ (x : Unit). CanSpare s x.holding.men x.holding.money) (same_Some _ _ (sym can.there ∙ there)) can.spare in
    let listed : Every (λ k d. 1 ≤ d) v.holding.days = (λ k d at. (can.steady.days s.unit v there k d at).0) in
    let h : HoldingValue = record v.holding { men = left; money = money; days = with_days v.holding.days days } in
    let h_is : h ≡ after_upkeep s v.holding = rw (c.deref.ensures.value, c.in_ok-days.ensures, c.men.ensures.value, c.money.ensures.value) (starving_sets_holding s v.holding c.requires.some spare.starved listed) in
    let all = λ (people : ChangesHolding mid after s.unit (λ x. record x { men = left; days = with_days x.days days })).
    then_changes old mid after s.unit (λ x. record x { money = money }) (λ x. record x { men = left; days = with_days x.days days })
    (money_changes old mid s.unit money c.set_money.ensures.what c.set_money.ensures.marks) people in
    record {
      what =
          on_ok_weaker c.set_people.result
          (λ people u is.
          subst (λ (x : Unit). after.value ≡ with_holding_at old.value s.unit (after_upkeep s x.holding) (Some x)) (same_Some _ _ (sym there ∙ is))
          (changed_held (λ x. record x { men = left; money = money; days = with_days x.days days }) old.value after.value s.unit (all people).value v there
          ∙ ap (λ x. with_holding_at old.value s.unit x (Some v)) h_is))
          c.set_people.ensures.what;
      marks = on_ok_weaker c.set_people.result (λ people. (all people).marks) c.set_people.ensures.what;
      items =
          on_ok_both c.set_people.result
          (λ people same. record { goods = (all people).goods; items = same ∙ ap (λ (m : Marks). m.items) c.set_money.ensures.marks })
          c.set_people.ensures.what c.set_people.ensures.items;
    }
