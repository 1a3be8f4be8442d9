use Rattle.std.proofs.Common.{refl}
use Rattle.matchit.proofs.OnLiterals.{matchit_on_literals}
use Rattle.atl_parsing.proofs.route.router.Goals as goal

pub returns : goal.returns
unfolding matchit_on_literals
returns c =
    let one = c.in_ok-add.ensures in
    let two = c.in_ok-add-2.ensures in
    let three = c.in_ok-add-3.ensures in
    let four = c.in_ok-add-4.ensures in
    rw (four.1, three.1, two.1, one.1, c.new-router.ensures) refl
