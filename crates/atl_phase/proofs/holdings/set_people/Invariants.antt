use Rattle.std.proofs.Common.{◌≡◌, drop}
use Rattle.atl_campaign.specs.Campaign.{unit_changed}
use Rattle.atl_campaign.specs.Covers.{MarksChanges}
use Rattle.atl_phase.specs.Holdings.{with_days}
use Rattle.atl_phase.proofs.holdings.set_people.Given as goal

-- Before each skill: setting the days of the skills still to come makes what setting those of all skills makes. What
-- changed so far is marked. No mark of items is new, nor one of all items and days of a unit at once.
abbrev pub invariant-loop-skill : goal.invariant-loop-skill
invariant-loop-skill l = record {
  value :
      unit_changed (λ u. record u { holding = record u.holding { days = with_days u.holding.days (drop l.skill-index l.days) } }) l.campaign.value l.unit
      ≡ unit_changed (λ u. record u { holding = record u.holding { days = with_days u.holding.days l.days } }) l.initial.campaign.value l.unit;
  marks : MarksChanges l.initial.campaign l.campaign;
  goods : l.campaign.marks.goods ≡ l.initial.campaign.marks.goods;
  items : l.campaign.marks.items ≡ l.initial.campaign.marks.items;
}
