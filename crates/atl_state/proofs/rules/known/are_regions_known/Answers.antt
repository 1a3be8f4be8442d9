use Rattle.std.proofs.Common.{◌≡◌, false, sym, ◌∙◌, rules}
use Rattle.std.proofs.lemmas.Bool.{false≢true}
use Rattle.atl_state.proofs.rules.known.are_regions_known.Goals as goal

pub returns-then-are_of_world : goal.returns-then-are_of_world
returns-then-are_of_world c =
    let only = c.are_of_world.ensures.0 (search rules) in
    (λ r n. (λ there. only n there.0 there.1, λ there. c.are_all_there.ensures.0 r n there.0 there.1), λ known. c.are_all_there.ensures.1 (λ n p is. (known n).1 (p, is)))

pub returns-else-are_of_world : goal.returns-else-are_of_world
returns-else-are_of_world c =
    let fails : c.are_of_world.result ≡ false = search rules in
    (λ r. absurd (false≢true (sym fails ∙ r)), λ known. c.are_of_world.ensures.1 (λ n r is. (known n).0 (r, is)))
