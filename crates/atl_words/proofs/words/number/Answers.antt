use Rattle.std.proofs.Common.{◌≡◌, true, get_or, arith}
use Rattle.std.proofs.lemmas.List.Folds.{list_all_more}
use Rattle.std.proofs.lemmas.Grind.{common_steps}
use Rattle.std.proofs.lemmas.Bool.Decides.{nat_tests}
use Rattle.std.specs.Char.{is_ascii_digit}
use Rattle.atl_words.proofs.WordLaws.{one_digit_more}
use Rattle.atl_words.proofs.words.number.Goals as goal

pub loop-byte-preserved : goal.loop-byte-preserved
loop-byte-preserved c =
    let bytes = c.args.bytes.now in
    let i = c.loop-byte.byte-index in
    let is_digit : is_ascii_digit (get_or bytes i 0) ≡ true = cc in
    let more = one_digit_more bytes i c.loop-byte-test.true is_digit in
    record { digits = grind (arith, common_steps, nat_tests, list_all_more); value = omega arith }
