use Rattle.std.proofs.Common.{◌∙◌, ap, length}
use Rattle.std.proofs.lemmas.List.{length-map}
use Rattle.std.specs.FinMap.{entries}
use Rattle.atl_shares.proofs.ShareLaws.{length-shares}
use Rattle.atl_pots.proofs.pots.share_pot.Goals as goal

pub put_shares-requires-clause-length : goal.put_shares-requires-clause-length
put_shares-requires-clause-length c =
    ap length c.deref-2.ensures.value ∙ ap length c.in_ok-shares.ensures.definition
    ∙ length-shares c.args.pot c.deref.result.now
    ∙ ap length (c.deref.ensures.value ∙ c.in_ok-amounts.ensures)
    ∙ length-map (entries c.args.wants.now) (λ e. e.1)
