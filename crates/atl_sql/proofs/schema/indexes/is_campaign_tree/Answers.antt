use Rattle.std.proofs.Common.{◌∙◌}
use Rattle.atl_descriptions.specs.declared.table.Table.{Table}
use Rattle.atl_sql.proofs.SchemaLaws.{our_trees}
use Rattle.atl_sql.proofs.schema.indexes.is_campaign_tree.Goals as goal

pub returns : goal.returns
returns c =
    c.is_among.ensures ∙ our_trees (λ (t : Table). t.tree) _ c.described_tables.ensures.trees c.args.tree c.args.count
