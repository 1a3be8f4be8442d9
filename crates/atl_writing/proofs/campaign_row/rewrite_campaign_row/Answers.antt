use Rattle.std.proofs.Common.{sym, ◌∙◌}
use Rattle.atl_writing.specs.OwnStatements.{changes_head}
use Rattle.atl_writing.proofs.RewriteAllLaws.{head_done, head_left}
use Rattle.atl_sql.proofs.WriteLaws.{begins, weaker, among_only}
use Rattle.atl_writing.proofs.campaign_row.rewrite_campaign_row.Goals as goal

pub returns-then-is_row_marked : goal.returns-then-is_row_marked
returns-then-is_row_marked g c =
    weaker g.S.Store (head_done c.args.campaign.now (sym c.is_row_marked.ensures ∙ c.if-is_row_marked.true))
    (among_only g.S.Store _ _ changes_head c.put_campaign_row.ensures)

pub returns : goal.returns
returns g c = begins g.S.Store (head_left c.args.campaign.now (sym c.is_row_marked.ensures ∙ c.if-is_row_marked.false))
