use Rattle.std.proofs.Common.{◌≡◌, ◌+◌, None, ap, ◌∙◌, refl, arith}
use Rattle.std.specs.FinMap.{get}
use Rattle.atl_records.specs.Books.{BooksValue}
use Rattle.atl_records.specs.declared.books.BooksEntry.TheVariants.{Joining}
use Rattle.atl_records.specs.declared.books.Thing.TheVariants.{Money, People}
use Rattle.atl_campaign.specs.Marks.{amount_marked}
use Rattle.atl_campaign.proofs.AmountMarkLaws.{fits_amount, more_marked}
use Rattle.atl_campaign.proofs.UndoneLaws.{insert_is_undone}
use Rattle.atl_campaign.specs.Campaign.{CampaignValue, MarkedCampaign}
use Rattle.atl_campaign.specs.Joining.{after_join}
use Rattle.atl_campaign.proofs.JoinLaws.{joining_small}
use Rattle.atl_campaign.proofs.campaign.Campaign.enroll.Goals as goal

-- enroll may call book_joining: the books have money and people, and what is booked of both under Joining is far from
-- the ends of 64 bits (LeavesRoomForJoining)
pub book_joining-requires : goal.book_joining-requires
book_joining-requires c =
    let books : c.self-2.inside.books ≡ c.args.self.now.value.books = ap (λ (m : MarkedCampaign). m.value.books) c.self-2.view_is ∙ ap (λ (s : CampaignValue). s.books) c.in-Ok.ensures.ok ∙ ap (λ (m : MarkedCampaign). m.value.books) c.self.view_is in
    let small = joining_small c.args.world.now c.args.self.now.value c.requires.sound in
    rw books record {
      things = omega (arith, c.requires.sound.steady.numbers.books.count);
      money = small.0;
      people = small.1;
    }

pub returns-in-Err-clause-err : goal.returns-in-Err-clause-err
returns-in-Err-clause-err c =
    let fresh : get c.self.inside.factions.values c.self.inside.next_faction ≡ None = rw (← c.self.view_is) at (c.requires.sound.steady.next.factions.free c.args.self.now.value.next_faction (omega arith)) in
    let same = c.self-2.view_is ∙ c.in-Err.ensures.err in
    let inserted : c.self-2.inside.factions ≡ c.insert.new.self = ap (λ (m : MarkedCampaign). record { values = m.value.factions; marks = m.marks.factions }) same in
    let back =
    insert_is_undone c.self.inside.factions c.self-2.inside.factions c.take_out.new.self c.self.inside.next_faction c.in_ok-member.member c.is_marked-was_marked.result fresh c.is_marked-was_marked.ensures (inserted ∙ c.in_ok-insert.ensures.ok)
    c.take_out.ensures in
    rw back
    (ap (λ (m : MarkedCampaign). record { value = record m.value { factions = c.self.inside.factions.values }; marks = record m.marks { factions = c.self.inside.factions.marks } }) same ∙ c.self.view_is)

pub add-requires : goal.add-requires
add-requires c =
    let books : c.self-2.inside.books ≡ c.args.self.now.value.books = ap (λ (m : MarkedCampaign). m.value.books) c.self-2.view_is ∙ ap (λ (s : CampaignValue). s.books) c.in-Ok.ensures.ok ∙ ap (λ (m : MarkedCampaign). m.value.books) c.self.view_is in
    let rows = ap (λ (b : BooksValue). b.things) books ∙ c.requires.sound.steady.numbers.books.count in
    rw c.amount_number.ensures (fits_amount c.self-2.inside.books.things c.self-2.inside.amounts_marked Joining Money (omega (arith, rows)) c.self-2.invariant.amounts)

pub add-requires-2 : goal.add-requires-2
add-requires-2 c =
    let books : c.self-2.inside.books ≡ c.args.self.now.value.books = ap (λ (m : MarkedCampaign). m.value.books) c.self-2.view_is ∙ ap (λ (s : CampaignValue). s.books) c.in-Ok.ensures.ok ∙ ap (λ (m : MarkedCampaign). m.value.books) c.self.view_is in
    let rows = ap (λ (b : BooksValue). b.things) books ∙ c.requires.sound.steady.numbers.books.count in
    let things = c.self-2.inside.books.things in
    let marks = c.self-2.inside.amounts_marked in
    rw (c.add.ensures, c.amount_number.ensures, c.amount_number-2.ensures)
    (fits_amount things (record marks { numbers = amount_marked marks.numbers Joining Money }) Joining People (omega (arith, rows)) (more_marked things marks Joining Money (omega (arith, rows)) c.self-2.invariant.amounts))

pub invariant_of-self-3 : goal.invariant_of-self-3
invariant_of-self-3 c =
    let books : c.self-2.inside.books ≡ c.args.self.now.value.books = ap (λ (m : MarkedCampaign). m.value.books) c.self-2.view_is ∙ ap (λ (s : CampaignValue). s.books) c.in-Ok.ensures.ok ∙ ap (λ (m : MarkedCampaign). m.value.books) c.self.view_is in
    let rows = ap (λ (b : BooksValue). b.things) books ∙ c.requires.sound.steady.numbers.books.count in
    let things = c.self-2.inside.books.things in
    let marks = c.self-2.inside.amounts_marked in
    let same : c.book_joining.new.books.things ≡ things = ap (λ (b : BooksValue). b.things) c.book_joining.ensures in
    record {
      unit_lists = c.self-2.invariant.unit_lists;
      amounts = rw (same, c.add-2.ensures, c.add.ensures, c.amount_number.ensures, c.amount_number-2.ensures)
          (more_marked things (record marks { numbers = amount_marked marks.numbers Joining Money }) Joining People (omega (arith, rows)) (more_marked things marks Joining Money (omega (arith, rows)) c.self-2.invariant.amounts));
    }

pub returns-clause-ok : goal.returns-clause-ok
unfolding after_join
returns-clause-ok c =
    let back = ap (λ (m : MarkedCampaign). m.value) c.self-2.view_is ∙ c.in-Ok.ensures.ok in
    ap (λ (s : CampaignValue). record s { next_faction = c.self.inside.next_faction + 1; books = c.book_joining.new.books }) back
    ∙ rw (← c.self.view_is, c.book_joining.ensures, ap (λ (s : CampaignValue). s.books) back, c.in_ok-insert.ensures.ok, c.in_ok-member.ensures, c.in_ok-unit.ensures, c.home-region.ensures, c.rules.ensures.value) refl
