use Rattle.std.proofs.Common.{sym}
use Rattle.atl_writing.proofs.HasTableLaws.{amount_none}
use Rattle.atl_writing.proofs.things.amount_of.Goals as goal

pub returns-in_default : goal.returns-in_default
returns-in_default c =
    sym (amount_none c.args.campaign.now.value.units c.args.unit c.args.sort c.args.thing (sym c.in_default.ensures))
