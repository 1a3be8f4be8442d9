use Rattle.std.proofs.Common.{rules, ◌≡◌}
use Rattle.atl_upkeep.specs.Upkeep.{upkeep, upkeep_inputs_of, upkeep_results}
use Rattle.atl_upkeep.proofs.UpkeepLaws.{upkeep_is_of_peers, all_can_pay, inputs_in_order, upkeep_leaves_well}
use Rattle.atl_upkeep.proofs.upkeep.UpkeepPhasePhase.run.Goals as goal

pub upkeep_payments-requires-clause-order : goal.upkeep_payments-requires-clause-order
upkeep_payments-requires-clause-order c =
    let list : c.deref.result.now ≡ upkeep_inputs_of c.args.campaign.value = search rules in
    rw list (inputs_in_order c.args.campaign.value)

pub charge_all-requires : goal.charge_all-requires
charge_all-requires c =
    let w = c.args.world.now in
    let before = c.args.campaign.value in
    let list : c.deref-2.result.now ≡ upkeep_results w before = search rules in
    (w, rw list (all_can_pay w before c.requires.needs c.requires.room))

pub returns-clause-leaves : goal.returns-clause-leaves
returns-clause-leaves c =
    let w = c.args.world.now in
    let before = c.args.campaign.value in
    let is : c.charge_all.new.campaign.value ≡ upkeep before (upkeep_results w before) = search rules in
    rw is (upkeep_leaves_well w before c.requires.needs c.requires.room)

pub returns-clause-keeps : goal.returns-clause-keeps
returns-clause-keeps c =
    let w = c.args.world.now in
    let before = c.args.campaign.value in
    let is : c.charge_all.new.campaign.value ≡ upkeep before (upkeep_results w before) = search rules in
    rw is (upkeep_is_of_peers w before)
