use Rattle.std.proofs.Common.{arith, ap, sym, ◌∙◌, length}
use Rattle.atl_words.specs.Words.{words}
use Rattle.atl_lines.proofs.UnitLaws.{fault_stays}
use Rattle.atl_lines.proofs.operands.units_of.Goals as goal

pub returns-in-Err : goal.returns-in-Err
returns-in-Err c =
    sym c.words.invariant
    ∙ fault_stays c.words.units (words c.words.rest.now) c.in-Err.fault
    (omega (arith, ap length c.in-Some.ensures.words)) c.in-Err.ensures
