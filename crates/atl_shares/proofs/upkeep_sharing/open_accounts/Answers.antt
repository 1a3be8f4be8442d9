use Rattle.std.proofs.Common.{◌∙◌}
use Rattle.atl_shares.proofs.UpkeepSharingLaws.{all_counted}
use Rattle.atl_shares.proofs.upkeep_sharing.open_accounts.Goals as goal

pub returns : goal.returns
returns c = λ s g. c.in_ok-add_left.ensures s g ∙ all_counted c.args.maintenance c.args.inputs.now s g
