use Rattle.std.proofs.Common.{◌≡◌, suc, List, [], ◌∷◌, length, refl, ap, rules}
use Rattle.toml.specs.View.{items_view}
use Rattle.toml.specs.declared.value.Value.{Value}
use Rattle.atl_tables.specs.Keys.{count_of}
use Rattle.atl_tables.proofs.keys.count.Goals as goal

count_view : (vs : List Value) → count_of (items_view vs) ≡ length vs
count_view [] = refl
count_view (v ∷ vs) = ap suc (count_view vs)

pub returns-clause-value : goal.returns-clause-value
returns-clause-value c = search (rules, count_view)
