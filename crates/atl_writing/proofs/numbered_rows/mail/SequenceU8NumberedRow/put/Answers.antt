use Rattle.atl_writing.proofs.numbered_rows.mail.SequenceU8NumberedRow.put.Goals as goal

pub returns : goal.returns
returns g c = rw c.as_slice.ensures at c.put_mail.ensures
