use Rattle.std.proofs.Common.{◌≡◌, ◌+◌, ◌≤◌, ◌∷◌, ◌∙◌, ap, arith, drop, length, map, rules, sym}
use Rattle.std.specs.Prelude.{fold, zip}
use Rattle.std.proofs.lemmas.List.{drop_more}
use Rattle.std.specs.FinMap.{entries, len-entries}
use Rattle.atl_world.specs.Limits.{most_amount, most_regions}
use Rattle.atl_campaign.proofs.CoverLaws.{marks-refl, marks-trans}
use Rattle.atl_phase.specs.Meaning.{most_moved}
use Rattle.atl_phase.specs.Bounds.{moved_times}
use Rattle.atl_phase.proofs.MeaningLaws.{room_less}
use Rattle.atl_upkeep.specs.Season.{season_moves, season_at}
use Rattle.atl_upkeep.proofs.SeasonLaws.{season_little, room_for_later_seasons, room_for_first_season, season_at_leaves_well, season_goes_on}
use Rattle.atl_upkeep.proofs.season.carry_out_seasons.Goals as goal

pub loop-number-init : goal.loop-number-init
loop-number-init c =
    let listed : c.into_iter-number-iterator.result ≡ entries c.args.world.now.regions = search rules in
    let few : length c.into_iter-number-iterator.result ≤ most_regions = omega (arith, ap length listed, len-entries c.args.world.now.regions, c.regions.ensures.world.few_regions) in (
      tt,
      tt,
      ap (λ l. fold (season_at c.args.world.now) c.args.campaign.now.value (zip (map (λ e. e.0) l) c.args.words.now)) listed,
      c.requires.steady,
      room_less (moved_times (length c.into_iter-number-iterator.result) (season_moves most_amount)) (season_moves most_moved) c.args.campaign.now.value (season_little (length c.into_iter-number-iterator.result) few) c.requires.room,
      marks-refl c.args.campaign.now,
    )

pub loop-number-preserved : goal.loop-number-preserved
loop-number-preserved c =
    let w = c.args.world.now in
    let world = c.regions.ensures.world in
    let before = c.loop-number.campaign.value in
    let after = c.carry_out_season.new.campaign.value in
    let regions = c.loop-number.number-iterator in
    let n = c.in-Some.number in
    let word = c.in-Some-get.word.now in
    let (_, _, whole, steady, room, marks) = c.loop-number.invariant in
    let listed : regions ≡ (n, c.in-Some.field-0-1.now) ∷ c.next.new.self = search rules in
    let words = c.args.words.now in
    let index = c.loop-number.index in
    let (there, at) = c.in-Some-get.ensures.lookup.3 in
    let given : drop index words ≡ word ∷ drop (index + 1) words = drop_more words index 0 there ∙ ap (λ x. x ∷ drop (index + 1) words) (sym (at 0)) in
    let is : after ≡ season_at w before (n, word) = c.in_ok-carry_out_season-in-Some-get.ensures.what in (
      tt,
      tt,
      season_goes_on w before after _ regions c.next.new.self (drop index words) (drop (index + 1) words) n word c.in-Some.field-0-1.now listed given is whole,
      rw is (season_at_leaves_well w world before (n, word) steady).leaves_it,
      room_for_later_seasons w world before after regions c.next.new.self n word c.in-Some.field-0-1.now listed is steady room,
      marks-trans c.args.campaign.now c.loop-number.campaign c.carry_out_season.new.campaign marks c.in_ok-carry_out_season-in-Some-get.ensures.marks,
    )

pub carry_out_season-requires-clause-room : goal.carry_out_season-requires-clause-room
carry_out_season-requires-clause-room c =
    let (_, _, whole, steady, room, marks) = c.loop-number.invariant in
    let listed : c.loop-number.number-iterator ≡ (c.in-Some.number, c.in-Some.field-0-1.now) ∷ c.next.new.self = search rules in
    room_for_first_season c.args.world.now c.regions.ensures.world c.loop-number.campaign.value c.loop-number.number-iterator c.next.new.self c.in-Some.number c.in-Some.field-0-1.now listed room
