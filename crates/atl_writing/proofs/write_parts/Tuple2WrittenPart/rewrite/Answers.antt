use Rattle.atl_writing.specs.Rewriting.{RewritesPart}
use Rattle.atl_writing.proofs.TurnLaws.{in_turn_then}
use Rattle.atl_writing.proofs.WholeLaws.{then_done}
use Rattle.atl_sql.proofs.WriteLaws.{stops}
use Rattle.atl_writing.proofs.write_parts.Tuple2WrittenPart.rewrite.Goals as goal

pub returns : goal.returns
returns g c =
    then_done g.S.Store (in_turn_then (RewritesPart c.args.campaign.now) g.X.WrittenPart.parts g.Y.WrittenPart.parts)
    c.in_ok-rewrite.ensures c.rewrite-2.ensures

pub returns-in_err-rewrite : goal.returns-in_err-rewrite
returns-in_err-rewrite g c = stops g.S.Store c.in_err-rewrite.ensures c.from_residual.ensures
