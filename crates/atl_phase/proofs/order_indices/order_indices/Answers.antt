use Rattle.atl_phase.proofs.OrderKeyLaws as laws
use Rattle.atl_phase.proofs.order_indices.order_indices.Goals as goal

pub returns : goal.returns
returns g c =
    laws.sorted_places g.P.PhaseVerbs.is_of c.args.arrangement c.args.aliases.now c.args.mailings.now _ c.sort.new.list.items c.requires
    c.in_ok-list.ensures c.sort.ensures.moved c.sort.ensures.sorted
