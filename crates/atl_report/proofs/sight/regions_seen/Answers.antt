use Rattle.std.proofs.Common.{◌≡◌, [], drop, ap, sym, ◌∙◌}
use Rattle.std.proofs.lemmas.List.{drop_all}
use Rattle.std.specs.FinMap.{entries}
use Rattle.atl_report.specs.Gathering.{with_all_watched}
use Rattle.atl_report.proofs.SightLaws.{entries-with_all_watched}
use Rattle.atl_report.proofs.sight.regions_seen.Goals as goal

pub returns : goal.returns
returns c =
    let campaign = c.args.campaign.now.value in
    let none : drop c.loop-number.number-index c.of_faction-number-items.result.now ≡ [] = drop_all c.loop-number.number-index c.of_faction-number-items.result.now c.loop-number-test.false in
    ap entries (ap (λ ns. with_all_watched campaign c.args.faction ns c.loop-number.seen) (sym none) ∙ c.loop-number.invariant)
    ∙ entries-with_all_watched campaign c.args.faction
