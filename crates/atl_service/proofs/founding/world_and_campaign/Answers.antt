use Rattle.std.proofs.Common.{◌≡◌, false}
use Rattle.atl_world.specs.Names.{pass_ok}
use Rattle.atl_service.proofs.founding.world_and_campaign.Goals as goal

pub returns-then-not-pass_ok-clause-err : goal.returns-then-not-pass_ok-clause-err
returns-then-not-pass_ok-clause-err c is_there =
    let bad : pass_ok c.args.pass.now ≡ false = cc in
    ((c.in_ok-world.world, c.in_ok-world.ensures.definition), bad)
