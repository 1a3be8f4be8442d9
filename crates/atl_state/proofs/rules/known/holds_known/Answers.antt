use Rattle.std.proofs.Common.{◌≡◌, ◌<◌, ℕ, false, length, sym, ◌∙◌, rules}
use Rattle.std.proofs.lemmas.Bool.{false≢true}
use Rattle.atl_world.proofs.EveryLaws.{every-from_each, each-from_every}
use Rattle.atl_state.proofs.rules.known.holds_known.Goals as goal

abbrev IsBelow : ℕ → ℕ → ℕ → Type 0
IsBelow count n amount = n < count

pub returns-then-are_below : goal.returns-then-are_below
returns-then-are_below c =
    let items = rw (c.items.ensures, c.items-2.ensures.value) at c.are_below.ensures in
    let days = rw (c.days.ensures, c.skills.ensures.value) at c.are_below-then-are_below.ensures in
    let w = c.args.world.now in
    let held = c.args.holding.now in (
      λ r. (every-from_each (IsBelow (length w.items)) held.items (items.0 (search rules)), every-from_each (IsBelow (length w.skills)) held.days (days.0 r)),
      λ both. days.1 (each-from_every (IsBelow (length w.skills)) held.days both.1),
    )

pub returns-else-are_below : goal.returns-else-are_below
returns-else-are_below c =
    let items = rw (c.items.ensures, c.items-2.ensures.value) at c.are_below.ensures in
    let fails : c.are_below.result ≡ false = search rules in
    (λ r. absurd (false≢true (sym fails ∙ r)), λ both. items.1 (each-from_every (IsBelow (length c.args.world.now.items)) c.args.holding.now.items both.0))
