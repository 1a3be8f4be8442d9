use Rattle.std.proofs.Common.{◌≡◌, [], ◌∙◌, ap, map, rules, sym}
use Rattle.atl_pots.specs.Puts.{with_entries}
use Rattle.atl_market.specs.Produce.{amount_made}
use Rattle.atl_market.proofs.MakesLaws.{makes_are}
use Rattle.atl_market.proofs.outputs.made_amounts.Goals as goal

pub returns : goal.returns
returns c =
    let none : c.loop-unit.unit-iterator ≡ [] = search rules in
    sym (ap (λ es. with_entries c.loop-unit.made (map (λ e. (e.0, amount_made c.args.world.now c.args.asked.now c.args.campaign.now.value c.args.wants.now e)) es)) none)
    ∙ c.loop-unit.invariant ∙ makes_are c.args.asked.now c.args.world.now c.args.campaign.now.value c.args.wants.now
