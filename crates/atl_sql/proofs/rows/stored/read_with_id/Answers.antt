use Rattle.std.proofs.Common.{◌≡◌, Some, None, length, ap, sym, subst, ◌∙◌}
use Rattle.std.proofs.lemmas.List.{length-map}
use Rattle.sqlite.specs.Order.{column}
use Rattle.sqlite_value.specs.Value.{owned}
use Rattle.atl_columns.specs.Forms.{HasForm, Number, number_of}
use Rattle.atl_columns.specs.FormLaws.{number_same, number_other}
use Rattle.atl_sql.proofs.ShownLaws.{typed_first, typed_last, typed_with}
use Rattle.atl_sql.proofs.rows.stored.read_with_id.Goals as goal

pub returns-in_default-clause-other : goal.returns-in_default-clause-other
returns-in_default-clause-other g c none typed =
    c.in_ok-record.ensures.other c.in_default.is (typed_first g.T.Fields.Fields.forms Number c.args.row.now typed)

pub returns-in-Some-2-clause-typed : goal.returns-in-Some-2-clause-typed
returns-in-Some-2-clause-typed g c =
    let forms = g.T.Fields.Fields.forms in
    let row = c.args.row.now in
    let wide : length c.table.result.names.now ≡ length forms =
    sym (length-map c.table.result.names.now _) ∙ ap length c.table.ensures.names ∙ g.met.T.Record.is_wide in
    let there : owned c.value_at.result ≡ column row (length forms) = c.value_at.ensures ∙ ap (column row) wide in
    let read : number_of (owned c.value_at.result) ≡ Some c.in-Some-2.rowid = sym c.in_ok-rowid.ensures ∙ c.in-Some-2.is in
    typed_with forms Number row (rw c.in-Some.is at c.in_ok-record.ensures.typed)
    (subst (HasForm Number) there (c.in-Some-2.rowid, sym (number_same (owned c.value_at.result) c.in-Some-2.rowid read)))

pub returns-in-None-clause-other : goal.returns-in-None-clause-other
returns-in-None-clause-other g c none typed =
    let forms = g.T.Fields.Fields.forms in
    let row = c.args.row.now in
    let wide : length c.table.result.names.now ≡ length forms =
    sym (length-map c.table.result.names.now _) ∙ ap length c.table.ensures.names ∙ g.met.T.Record.is_wide in
    let there : owned c.value_at.result ≡ column row (length forms) = c.value_at.ensures ∙ ap (column row) wide in
    let read : number_of (owned c.value_at.result) ≡ None = sym c.in_ok-rowid.ensures ∙ c.in-None.is in
    number_other (owned c.value_at.result) read (subst (HasForm Number) (sym there) (typed_last forms Number row typed))
