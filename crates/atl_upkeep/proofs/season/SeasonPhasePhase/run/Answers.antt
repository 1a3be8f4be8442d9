use Rattle.atl_upkeep.proofs.SeasonLaws.{season_keeps_units, season_leaves_well}
use Rattle.atl_upkeep.proofs.season.SeasonPhasePhase.run.Goals as goal

pub returns-clause-leaves : goal.returns-clause-leaves
returns-clause-leaves c =
    rw (c.in_ok-carry_out_seasons.ensures.what, c.words.ensures)
    (season_leaves_well c.args.world.now c.carry_out_seasons.ensures.world c.args.campaign.value c.args.month.words c.requires.needs)

pub returns-clause-keeps : goal.returns-clause-keeps
returns-clause-keeps c =
    rw (c.in_ok-carry_out_seasons.ensures.what, c.words.ensures)
    (season_keeps_units c.args.world.now c.args.campaign.value c.args.month.words)
