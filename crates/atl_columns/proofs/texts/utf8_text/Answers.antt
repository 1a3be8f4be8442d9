use Rattle.std.proofs.Common.{◌∙◌}
use Rattle.atl_columns.proofs.Utf8Laws.{keeps_utf8, keeps_no_other}
use Rattle.atl_columns.proofs.texts.utf8_text.Goals as goal

pub returns-in_ok-from_str-in-Ok : goal.returns-in_ok-from_str-in-Ok
returns-in_ok-from_str-in-Ok c =
    keeps_utf8 c.args.bytes.now c.in_ok-from_str-in-Ok.field-0 c.in-Ok.ensures.cases.1
    (c.in_ok-from_str-in-Ok.ensures ∙ c.in-Ok.ensures.cases.0)

pub returns-in-Err : goal.returns-in-Err
returns-in-Err c = keeps_no_other c.args.bytes.now c.in-Err.ensures.cases.0
