use Rattle.std.proofs.Common.{sym, ap, ◌∙◌}
use Rattle.serde_json.specs.Read.{read}
use Rattle.atl_parsing.specs.declared.problem.Problem.TheVariants.{BadJson}
use Rattle.atl_parsing.specs.Checks.{or_problem}
use Rattle.atl_parsing.proofs.JsonLaws.{json_read, json_none}
use Rattle.atl_parsing.proofs.checks.json_of.Goals as goal

pub returns-in_default : goal.returns-in_default
returns-in_default c = ap (or_problem BadJson) (json_none c.args.body.now c.in_default.ensures.cases.0)

pub returns-in-Ok-from_str : goal.returns-in-Ok-from_str
returns-in-Ok-from_str c =
    ap (or_problem BadJson)
    (json_read c.args.body.now c.in-Ok.ensures.cases.1 ∙ ap read (sym c.in-Ok.ensures.cases.0) ∙ c.in-Ok-from_str.ensures.ok)
