use Rattle.std.proofs.Common.{◌≡◌, ◌*◌, ◌^◌, drop, pos}
use Rattle.std.specs.Prelude.{◌+ℤ◌, ◌≤ℤ◌}
use Rattle.atl_records.specs.Books.{sum_of}
use Rattle.atl_records.proofs.books.row_sum.Given as goal

-- `sum`, plus the amounts not added yet, is the sum of the row; with `n` amounts added, `sum` is from -(n * 2^63) to
-- n * 2^63, so it stays within 128 bits
abbrev pub invariant-loop-amount : goal.invariant-loop-amount
invariant-loop-amount l = record {
  so_far : l.sum +ℤ sum_of (drop l.amount-index l.row) ≡ sum_of l.row;
  most : l.sum ≤ℤ pos (l.amount-index * 2 ^ 63);
  least : pos 0 ≤ℤ (l.sum +ℤ pos (l.amount-index * 2 ^ 63));
}
