use Rattle.std.proofs.Common.{◌++◌, ap, sym, ◌∙◌}
use Rattle.atl_records.specs.Grids.{accounts}
use Rattle.atl_records.proofs.AmountListLaws.{entries-amounts}
use Rattle.atl_campaign.specs.Rows.{amounts_rows, rows_under}
use Rattle.atl_campaign.proofs.rows.books_rows.Goals as goal

pub returns : goal.returns
returns c =
    let books = c.args.books.now in
    let things = c.len-things.result in
    c.in_ok-add_entries.ensures ∙ ap (λ rows. rows ++ rows_under books (accounts things)) c.new-rows.ensures
    ∙ ap amounts_rows (sym (entries-amounts things books c.len-things.ensures.books))
