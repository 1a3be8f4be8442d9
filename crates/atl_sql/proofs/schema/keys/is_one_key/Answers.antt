use Rattle.std.proofs.Common.{◌≡◌, rules, get_or, ◌∙◌, sym, ap}
use Rattle.atl_sql.proofs.SchemaLaws.{only_one}
use Rattle.atl_sql.proofs.schema.keys.is_one_key.Goals as goal

pub returns-in-len1 : goal.returns-in-len1
returns-in-len1 c = (
  λ equal.
      let same : c.as_slice.result.now ≡ c.args.positions.now = search rules in
      only_one c.args.keys.now c.args.positions.now c.key-item.result c.in-len1.len_at_least c.in-len1.len_below c.key-item.is (sym c.as_slice.ensures ∙ same),
  λ is.
      let key : c.key-item.result ≡ c.args.positions.now = c.key-item.is ∙ ap (λ l. get_or l 0 c.key-item.result) is in
      let same : c.as_slice.result.now ≡ c.args.positions.now = c.as_slice.ensures ∙ key in
      search rules,
)
