use Rattle.std.proofs.Common.{◌≡◌, Some, sym, ap, ◌∙◌}
use Rattle.std.proofs.lemmas.Result.{on_err_weaker}
use Rattle.std.specs.FinMap.{get, insert}
use Rattle.atl_world.proofs.SumLaws.{put_back_keeps_map, put_over}
use Rattle.atl_world.proofs.numbered.Numbered+Numbered+V.insert_under.Goals as goal

pub returns-in-Some-clause-err : goal.returns-in-Some-clause-err
returns-in-Some-clause-err g c =
    let m = c.args.self.now in
    let k = c.args.group in
    let values = c.in-Some.values.now in
    let here : get m k ≡ Some values = sym c.in-Some.ensures.value in
    on_err_weaker c.insert.result (λ same. ap (insert m k) same ∙ put_over m k values ∙ sym (put_back_keeps_map m k values here)) c.insert.ensures.err
