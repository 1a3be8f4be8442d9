use Rattle.std.proofs.Common.{◌≡◌, ◌-◌, ◌<◌, List, ℕ, take, length, ap, sym, ◌∙◌, subst, arith}
use Rattle.std.specs.Io.KnownBytes.{Appends}
use Rattle.std.proofs.lemmas.List.{length-drop}
use Rattle.atl_requests.specs.Calls.{most_interrupted}
use Rattle.atl_requests.proofs.IoLaws as laws
use Rattle.atl_requests.proofs.io.send.Goals as goal

pub loop-sent-preserved-in-Taken-1 : goal.loop-sent-preserved-in-Taken-1
loop-sent-preserved-in-Taken-1 g c =
    let left : length c.rest_after.result.now ≡ length c.args.bytes.now - c.loop-sent.sent = ap length c.rest_after.ensures ∙ length-drop c.loop-sent.sent c.args.bytes.now in
    let Piece : List ℕ → Type 0 = λ rest. Appends (g.W.Write.contents c.loop-sent.writer) (g.W.Write.contents c.write.new.writer) (take c.in-Taken.count rest) in
    record {
      within = (let most = c.in-Taken.ensures.0.1 in let old = c.loop-sent.invariant.within in omega (arith, left, most, old));
      patient = subst (λ writes. writes.interrupted < most_interrupted) (sym c.in-Taken.ensures.1) c.loop-sent.invariant.patient;
      written = laws.appends_next (g.W.Write.contents c.args.writer.now) (g.W.Write.contents c.loop-sent.writer) (g.W.Write.contents c.write.new.writer) c.args.bytes.now c.loop-sent.sent c.in-Taken.count c.loop-sent.invariant.written (subst Piece c.rest_after.ensures c.in-Taken.ensures.0.2);
    }
