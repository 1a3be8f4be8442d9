use Rattle.std.proofs.Common.{rules}
use Rattle.atl_descriptions.specs.Tables.{mail_table}
use Rattle.atl_sql.specs.Shown.{mail_row}
use Rattle.atl_sql.proofs.WrittenLaws.{written_as}
use Rattle.atl_writing.proofs.numbered_rows.mail.put_mail.Goals as goal

pub returns : goal.returns
returns g c =
    written_as g.S.Store mail_table 1 _ (mail_row c.args.faction c.args.text.now) (search rules) c.put.ensures
