use Rattle.std.proofs.Common.{◌≡◌, ◌++◌, string_bytes}
use Rattle.atl_report.specs.Books.{item_parts}
use Rattle.atl_report.proofs.books.write_items.Given as goal

-- the text so far is the text before the loop, followed by the lines of the items written so far
abbrev pub invariant-loop-item : goal.invariant-loop-item
invariant-loop-item l = string_bytes l.out ≡ string_bytes l.fn.out ++ item_parts l.world l.campaign.value l.item
