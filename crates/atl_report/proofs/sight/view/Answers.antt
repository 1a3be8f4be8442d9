use Rattle.atl_report.proofs.sight.view.Goals as goal

-- no lists are lists of any campaign
pub view_over-requires : goal.view_over-requires
view_over-requires c = c.no_lists-lists.ensures c.args.world.now c.args.campaign.now.value
