use Rattle.std.proofs.Common.{rules, ◌≡◌, map, subst}
use Rattle.std.proofs.lemmas.List.Elements.{recursion_from_All}
use Rattle.atl_orders.specs.Mailing.{IsReadWith, reading_of}
use Rattle.atl_campaign.proofs.GoodLaws.{sound_early}
use Rattle.atl_phase.specs.Fit.{AreFit}
use Rattle.atl_phase.specs.Month.{MonthValue, by_faction}
use Rattle.atl_month.specs.Month.{month_keeps, new_month, phases_bound}
use Rattle.atl_month.proofs.MonthLaws.{books_near, factions_stay, finished_good, month_is, phases_room, unmailed_left}
use Rattle.atl_phase.proofs.FitLaws.{read_fit}
use Rattle.atl_month.proofs.MoveLaws.{phases_little}
use Rattle.atl_month.proofs.close.close_month.Goals as goal

-- once the month is counted and the mail is removed, which `close_month` doesn't do, the campaign is good again
pub returns-clause-good : goal.returns-clause-good
returns-clause-good c =
    finished_good c.args.world.now c.args.campaign.value c.in_ok-campaign.campaign.value phases_bound phases_little
    c.requires.month c.in_ok-campaign.ensures.leaves c.requires.good

pub returns-clause-same : goal.returns-clause-same
returns-clause-same c = c.in_ok-campaign.ensures.leaves.same_month

pub returns-clause-factions : goal.returns-clause-factions
returns-clause-factions c =
    factions_stay c.args.world.now c.args.campaign.value c.in_ok-campaign.campaign.value c.in_ok-campaign.ensures.leaves

pub returns-clause-books : goal.returns-clause-books
returns-clause-books c =
    books_near c.args.world.now c.args.campaign.value c.in_ok-campaign.campaign.value c.in_ok-campaign.ensures.leaves

pub returns-clause-keeps : goal.returns-clause-keeps
returns-clause-keeps c =
    let is : c.new-month.result ≡ new_month (by_faction (map reading_of c.args.mailings.items)) c.args.words.now = search rules in
    subst (λ (m : MonthValue). month_keeps c.args.world.now m c.args.campaign.value c.in_ok-campaign.campaign.value) is c.in_ok-campaign.ensures.keeps

-- close_month may call `run` of the phases: a good campaign is early, as the first phase needs, and each phase leaves
-- what the next one needs
pub run-requires-clause-needs : goal.run-requires-clause-needs
run-requires-clause-needs c =
    (sound_early c.args.world.now c.args.campaign.value c.requires.good.sound, λ w d h. (h, λ w d h. (h, λ w d h. (h, λ w d h. h))))

pub run-requires-clause-room : goal.run-requires-clause-room
run-requires-clause-room c = phases_room c.args.world.now c.args.campaign.value c.requires.good.sound

pub run-requires-clause-read : goal.run-requires-clause-read
run-requires-clause-read c =
    let ms = c.args.mailings.items in
    let w = c.args.world.now in
    let is : by_faction (map reading_of ms) ≡ c.new-month.result.readings = search rules in
    subst (AreFit w) is (read_fit w ms (recursion_from_All (IsReadWith w) ms c.requires.read))

pub returns-clause-definition : goal.returns-clause-definition
returns-clause-definition c =
    let is : c.new-month.result ≡ new_month (by_faction (map reading_of c.args.mailings.items)) c.args.words.now = search rules in
    month_is c.args.world.now c.args.campaign.value c.in_ok-campaign.campaign.value c.new-month.result c.in_ok-campaign.month (by_faction (map reading_of c.args.mailings.items)) c.args.words.now c.into_events.result.items
    c.in_ok-campaign.ensures.meaning is c.into_events.ensures

pub returns-clause-unmailed : goal.returns-clause-unmailed
returns-clause-unmailed c =
    unmailed_left c.args.world.now c.args.campaign.value c.in_ok-campaign.campaign.value c.args.mailings.items c.args.words.now c.into_events.result.items (returns-clause-definition c) (returns-clause-keeps c)
