use Rattle.std.proofs.Common.{sym, ap, ◌∙◌}
use Rattle.std.proofs.lemmas.List.{get_or_read}
use Rattle.std.specs.List.{list_any}
use Rattle.atl_orders.specs.declared.mailing.Mailing.{Mailing}
use Rattle.atl_phase.specs.OrderIndices.{no_mailing}
use Rattle.atl_phase.proofs.OrderIndexLaws.{adds_none}
use Rattle.atl_phase.proofs.order_indices.add_mailing.Goals as goal

-- a mailing without an order of the phase adds no index
pub returns-then-not-has_order : goal.returns-then-not-has_order
returns-then-not-has_order g c =
    let is_of = g.P.PhaseVerbs.is_of in
    let ms = c.args.mailings.now in
    let here = get_or_read ms c.args.at c.index-mailings-at.result c.requires c.index-mailings-at.is no_mailing in
    adds_none is_of c.args.aliases.now ms c.args.at c.args.list.now.items
    (sym (c.has_order.ensures ∙ ap (λ (m : Mailing). list_any (λ e. is_of e.order.verb) m.entries) here) ∙ c.if-not-has_order.true)
