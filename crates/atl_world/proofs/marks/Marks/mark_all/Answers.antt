use Rattle.std.proofs.Common.{◌≡◌, ℕ, [], map, refl, sym, ap, ◌∙◌, arith, rules}
use Rattle.std.specs.FinMap.{entries}
use Rattle.std.specs.FinSet as set
use Rattle.atl_world.specs.RoomySets.{valued_or_marked}
use Rattle.atl_world.proofs.SetLaws.{union-empty, union-next, len-next}
use Rattle.atl_world.proofs.marks.Marks.mark_all.Goals as goal

pub loop-number-init : goal.loop-number-init
loop-number-init g c =
    let all : c.into_iter-number-iterator.result ≡ entries c.args.values.now = c.into_iter-number-iterator.ensures.into_iter_gives ∙ c.iter-number-items.ensures in
    record { all = ap (λ es. set.union c.args.self.now.numbers (set.from_list (map (λ (e : ℕ × g.row.V.Denot). e.0) es))) all; room = refl }

pub add-requires : goal.add-requires
add-requires g c =
    let so_far = rw c.in-Some.ensures.steps at c.loop-number.invariant.all in
    let l = len-next c.loop-number.self.numbers (valued_or_marked c.args.values.now c.args.self.now.numbers) c.in-Some.number (map (λ (e : ℕ × g.row.V.Denot). e.0) c.next.new.self) so_far in
    omega (arith, l, c.loop-number.invariant.room, c.requires)

pub loop-number-preserved : goal.loop-number-preserved
loop-number-preserved g c =
    let so_far = rw c.in-Some.ensures.steps at c.loop-number.invariant.all in
    rw c.add.ensures record { all = union-next c.loop-number.self.numbers c.in-Some.number (map (λ (e : ℕ × g.row.V.Denot). e.0) c.next.new.self) ∙ so_far; room = c.loop-number.invariant.room }

pub returns : goal.returns
returns g c =
    let none : c.loop-number.number-iterator ≡ [] = search rules in
    let all : set.union c.loop-number.self.numbers set.empty ≡ valued_or_marked c.args.values.now c.args.self.now.numbers = rw none at c.loop-number.invariant.all in
    let numbers = sym (union-empty c.loop-number.self.numbers) ∙ all in
    λ i. record { numbers = numbers i; room = c.loop-number.invariant.room i }
