use Rattle.std.proofs.Common.{◌≡◌, ◌++◌, ◌∷◌, [], length, sym, ap, ◌∙◌, arith, append_assoc, length-append}
use Rattle.std.specs.FinMap.{len, insert}
use Rattle.std.proofs.lemmas.List.{append-nil}
use Rattle.atl_world.proofs.GeneralLaws.{insert_adds_at_most_one}
use Rattle.atl_tables.proofs.HasNumberLaws.{len_none}
use Rattle.atl_tables.proofs.has_number.by_number.Goals as goal

pub loop-value-init : goal.loop-value-init
loop-value-init g c = record {
  whole = ([], append-nil c.args.values.items, c.new-numbered.ensures);
  few = omega (arith, len_none c.new-numbered.result c.new-numbered.ensures);
}

pub loop-value-preserved : goal.loop-value-preserved
loop-value-preserved g c =
    let whole = c.loop-value.invariant.whole in
    let value = c.in-Some.value in
    let before = c.pop.new.self.items in
    let taken : c.loop-value.values.items ≡ before ++ value ∷ [] = c.in-Some.ensures.items in
    let number = g.T.HasNumber.own_number_of value in
    let put = c.in_ok-insert.ensures.ok ∙ ap (λ n. insert c.loop-value.numbered n value) c.own_number.ensures in
    record {
      whole = (value ∷ whole.0, sym (append_assoc before (value ∷ []) whole.0) ∙ ap (λ xs. xs ++ whole.0) (sym taken) ∙ whole.1, put ∙ ap (λ m. insert m number value) whole.2);
      few = omega (arith, ap len put, insert_adds_at_most_one c.loop-value.numbered number value, ap length taken, length-append before (value ∷ []), c.loop-value.invariant.few);
    }
