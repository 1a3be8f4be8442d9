use Rattle.std.proofs.Common.{◌≡◌, ◌≤◌, ◌<◌, ℕ, List, length, get_or, Option, Some, None, is_some, Bor, sym, ap, ◌∙◌, arith}
use Rattle.std.specs.Prelude.{IfSome, nat_lt}
use Rattle.std.specs.List.{slice_get}
use Rattle.std.proofs.lemmas.Bool.Decides.{nat_tests}
use Rattle.std.proofs.lemmas.Option.{slice_get-get_or}
use Rattle.atl_world.specs.declared.world.Item.{Item}
use Rattle.atl_world.proofs.world.World.item.Goals as goal

found_item_raw_count : (xs : List Item) → ((i : ℕ) (x : Item) → slice_get xs i ≡ Some x → 1 ≤ x.raw_count)
    → (i : ℕ) (o : Option (Bor Item))
    → is_some o ≡ nat_lt i (length xs) → IfSome o (λ x. x.now ≡ get_or xs i x.now) → IfSome o (λ x. 1 ≤ x.now.raw_count)
found_item_raw_count xs each i None some at = tt
found_item_raw_count xs each i (Some x) some at =
    let inside : i < length xs = grind (arith, nat_tests, sym some) in
    each i x.now (slice_get-get_or xs i x.now inside ∙ ap Some (sym at))

pub returns-clause-bounds : goal.returns-clause-bounds
returns-clause-bounds c =
    found_item_raw_count c.items.result.now (λ i x is. (c.items.ensures.world.items i x (ap (λ xs. slice_get xs i) (sym c.items.ensures.value) ∙ is)).raw_count_least) c.from.result c.get.result c.get.ensures.lookup.0 c.get.ensures.lookup.1
