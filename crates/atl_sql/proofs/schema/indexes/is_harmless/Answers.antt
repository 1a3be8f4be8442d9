use Rattle.std.proofs.Common.{◌≡◌, not, true, take, ap, sym, ◌∙◌, rules}
use Rattle.std.proofs.lemmas.Bool.{not-true}
use Rattle.atl_descriptions.specs.Tables.{all_tables}
use Rattle.atl_sql.proofs.SchemaLaws.{harmless_is_of_none, guards_not}
use Rattle.atl_sql.proofs.schema.indexes.is_harmless.Goals as goal

pub returns-else-not-found : goal.returns-else-not-found
returns-else-not-found c = (
  λ apart t there. guards_not c.args.found.now (take c.args.count all_tables) (sym c.is_campaign_tree.ensures ∙ not-true _ apart) t there,
  λ harmless.
      let unique : c.args.found.now.is_unique ≡ true = search rules in
      ap not (c.is_campaign_tree.ensures ∙ harmless_is_of_none c.args.found.now (take c.args.count all_tables) unique harmless),
)
