use Rattle.std.proofs.Common.{◌≡◌, length}
use Rattle.std.specs.Vec.Iter.{into_iter_items, into_iter_len}
use Rattle.atl_campaign.specs.FromRows.{as_u32, by_number, put_rows}
use Rattle.atl_campaign.proofs.assembly.maps.mail_of.Given as goal

abbrev pub invariant-loop-row : goal.invariant-loop-row
invariant-loop-row l = record {
  put : put_rows (λ r. as_u32 r.faction) (λ r. r.text) (into_iter_items l.row-iterator) l.mail
      ≡ by_number (λ r. as_u32 r.faction) (λ r. r.text) l.fn.rows;
  count : into_iter_len l.row-iterator ≡ length (into_iter_items l.row-iterator);
}
