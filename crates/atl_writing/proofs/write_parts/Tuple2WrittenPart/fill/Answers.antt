use Rattle.atl_writing.specs.Filling.{FillsPart}
use Rattle.atl_writing.proofs.TurnLaws.{in_turn_then}
use Rattle.atl_writing.proofs.WholeLaws.{then_done}
use Rattle.atl_sql.proofs.WriteLaws.{stops}
use Rattle.atl_writing.proofs.write_parts.Tuple2WrittenPart.fill.Goals as goal

pub returns : goal.returns
returns g c =
    then_done g.S.Store (in_turn_then (FillsPart c.args.campaign.now.value) g.X.WrittenPart.parts g.Y.WrittenPart.parts)
    c.in_ok-fill.ensures c.fill-2.ensures

pub returns-in_err-fill : goal.returns-in_err-fill
returns-in_err-fill g c = stops g.S.Store c.in_err-fill.ensures c.from_residual.ensures
