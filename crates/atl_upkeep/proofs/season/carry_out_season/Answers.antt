use Rattle.std.proofs.Common.{sym, ◌+◌, arith}
use Rattle.std.proofs.lemmas.Result.{on_ok_weaker}
use Rattle.atl_world.specs.Limits.{most_amount}
use Rattle.atl_campaign.proofs.CoverLaws.{marks-trans}
use Rattle.atl_phase.proofs.MeaningLaws.{room_for_second, room_less}
use Rattle.atl_upkeep.specs.Restock.{stocks_by}
use Rattle.atl_upkeep.specs.Season.{grows_by, season_moves}
use Rattle.atl_upkeep.proofs.SeasonLaws.{births_fit, income_fits, limits_fit, region_grows_well}
use Rattle.atl_upkeep.proofs.season.carry_out_season.Goals as goal

pub add_births_and_income-requires-clause-peasants : goal.add_births_and_income-requires-clause-peasants
add_births_and_income-requires-clause-peasants c =
    let region = c.in-Some-region.region.now in
    let terrain = c.in-Some.terrain.now in
    rw c.births-born.ensures
    (births_fit c.rules-rules.result.now.growth terrain.peasant_limit c.args.word region.peasants
    (limits_fit c.args.world.now c.args.number terrain c.rules-rules.ensures.world (sym c.in-Some.ensures.value)).0
    (c.requires.steady.numbers.regions c.args.number region (sym c.in-Some-region.ensures)).peasants)

pub add_births_and_income-requires-clause-money : goal.add_births_and_income-requires-clause-money
add_births_and_income-requires-clause-money c =
    let region = c.in-Some-region.region.now in
    let terrain = c.in-Some.terrain.now in
    rw c.income-earned.ensures
    (income_fits c.rules-rules.result.now.income terrain.money_limit (region.peasants + c.births-born.result) region.money
    (limits_fit c.args.world.now c.args.number terrain c.rules-rules.ensures.world (sym c.in-Some.ensures.value)).1
    (c.requires.steady.numbers.regions c.args.number region (sym c.in-Some-region.ensures)).money)

pub add_births_and_income-requires-clause-room : goal.add_births_and_income-requires-clause-room
add_births_and_income-requires-clause-room c =
    room_less (grows_by most_amount) (season_moves most_amount) c.args.campaign.now.value (λ e t. omega arith)
    c.requires.room

pub restock_region-requires-clause-steady : goal.restock_region-requires-clause-steady
restock_region-requires-clause-steady c =
    let growth = region_grows_well c.args.world.now c.rules-rules.ensures.world c.args.campaign.now.value c.args.number c.args.word c.in-Some.terrain.now c.in-Some-region.region.now
    (sym c.in-Some.ensures.value) (sym c.in-Some-region.ensures) c.requires.steady in
    rw (c.add_births_and_income.ensures.what, c.income-earned.ensures, c.births-born.ensures, c.rules-rules.ensures.value) growth.leaves_it

pub restock_region-requires-clause-room : goal.restock_region-requires-clause-room
restock_region-requires-clause-room c =
    let growth = region_grows_well c.args.world.now c.rules-rules.ensures.world c.args.campaign.now.value c.args.number c.args.word c.in-Some.terrain.now c.in-Some-region.region.now
    (sym c.in-Some.ensures.value) (sym c.in-Some-region.ensures) c.requires.steady in
    rw (c.add_births_and_income.ensures.what, c.income-earned.ensures, c.births-born.ensures, c.rules-rules.ensures.value)
    (room_for_second (grows_by most_amount) (stocks_by most_amount) c.args.world.now c.args.campaign.now.value _ growth c.requires.room)

pub returns-clause-marks : goal.returns-clause-marks
returns-clause-marks c =
    on_ok_weaker c.restock_region.result
    (marks-trans c.args.campaign.now c.add_births_and_income.new.campaign c.restock_region.new.campaign c.add_births_and_income.ensures.marks)
    c.restock_region.ensures.marks
