use Rattle.std.proofs.Common.{◌≡◌, ◌+◌, ◌*◌, length, ap, ◌∙◌, refl, arith}
use Rattle.atl_records.specs.Books.{BooksValue, no_amounts}
use Rattle.atl_records.specs.Limits.{entry_count}
use Rattle.atl_records.proofs.BookLaws.{AreBooks-no_amounts}
use Rattle.atl_campaign.proofs.AmountMarkLaws.{none_marked}
use Rattle.atl_campaign.proofs.FromRowLaws.{put-books}
use Rattle.atl_campaign.proofs.campaign.assembling.assemble.Goals as goal

pub invariant_of-result : goal.invariant_of-result
invariant_of-result c =
    let things = 2 + length c.items.result.now in
    let are = put-books things c.as_slice.result.now (no_amounts things) (AreBooks-no_amounts things) in
    let count : c.in_ok-books.books.things ≡ things = ap (λ (b : BooksValue). b.things) c.in_ok-books.ensures ∙ are.count in
    record {
      unit_lists = c.in_ok-lists.ensures;
      amounts = rw (c.in_ok-amounts_marked.ensures) (none_marked c.in_ok-books.books.things (entry_count * things) (omega (arith, count)));
    }

pub returns-clause-marks : goal.returns-clause-marks
returns-clause-marks c = rw (c.in_ok-factions.ensures.maps, c.in_ok-units.ensures, c.in_ok-amounts_marked.ensures) refl
