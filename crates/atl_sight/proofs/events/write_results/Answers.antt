use Rattle.std.proofs.Common.{rules, sym, ◌∙◌}
use Rattle.std.proofs.lemmas.List.{append_assoc}
use Rattle.atl_sight.proofs.ResultLaws.{results_lines}
use Rattle.atl_sight.proofs.events.write_results.Goals as goal

pub returns : goal.returns
returns c =
    let results_text = results_lines c.args.faction c.args.faults.now c.args.events.now (sym c.has_no_results.ensures ∙ c.if-has_no_results.false) in
    rw results_text (search (rules, append_assoc))
