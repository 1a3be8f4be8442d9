use Rattle.std.proofs.Common.{subst, sym, ◌∙◌}
use Rattle.atl_descriptions.specs.Tables.{AreTables, AreIndexes}
use Rattle.atl_sql.proofs.SchemaLaws.{begins_made, its_tables, its_indexes, no_views}
use Rattle.atl_sql.proofs.schema.begins.Goals as goal

pub returns : goal.returns
returns c =
    let count = c.args.tables in
    let keys = c.args.keys in
    let schema = c.args.schema.now in (
      λ none.
          begins_made count keys schema (subst (AreTables count) c.as_slice.ensures (c.are_tables.ensures.0 c.if-not-are_tables.false))
          (subst (AreIndexes count keys) c.as_slice-2.ensures (c.are_indexes.ensures.0 c.if-not-are_indexes.false)) (c.is_empty.ensures.0 none),
      λ begins. c.is_empty.ensures.1 (no_views count keys schema begins),
    )

pub returns-then-not-are_tables : goal.returns-then-not-are_tables
returns-then-not-are_tables c = (
  λ no. absurd (cc),
  λ begins. sym c.if-not-are_tables.true ∙ c.are_tables.ensures.1 (subst (AreTables c.args.tables) (sym c.as_slice.ensures) (its_tables c.args.tables c.args.keys c.args.schema.now begins)),
)

pub returns-then-not-are_indexes : goal.returns-then-not-are_indexes
returns-then-not-are_indexes c = (
  λ no. absurd (cc),
  λ begins. sym c.if-not-are_indexes.true ∙ c.are_indexes.ensures.1 (subst (AreIndexes c.args.tables c.args.keys) (sym c.as_slice-2.ensures) (its_indexes c.args.tables c.args.keys c.args.schema.now begins)),
)
