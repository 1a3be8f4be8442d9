use Rattle.std.proofs.Common.{◌≡◌, ℕ, [], ◌++◌, map, filter, ap, ◌∙◌, rules}
use Rattle.std.specs.Prelude.{option_map}
use Rattle.std.specs.FinMap.{entries, get}
use Rattle.std.specs.List.{filter_map}
use Rattle.atl_sight.specs.Units.{unit_view}
use Rattle.atl_sight.specs.Watching.{is_seen_there}
use Rattle.atl_report.proofs.HidingLaws.{views_of_seen}
use Rattle.atl_report.proofs.sight.unit_views.Goals as goal

-- before the first unit there are no views, and the units still to come are all units seen
pub loop-number-init : goal.loop-number-init
loop-number-init c =
    let w = c.args.world.now in
    let campaign = c.args.campaign.now.value in
    let watch = c.args.watch in
    let listed : c.into_iter-number-iterator.result ≡ map (λ e. (e.0, tt)) (filter (λ e. is_seen_there w watch (get campaign.units e.0)) (entries campaign.units)) = search (rules, c.in_ok-seen.ensures) in
    let none : c.from_vec-units.result ≡ [] = c.from_vec-units.ensures ∙ c.in_ok-with_capacity.ensures.items in
    ap (λ l. l ++ filter_map (λ (e : ℕ × Prim.Unit {0}). option_map (unit_view campaign watch.faction e.0) (get campaign.units e.0)) c.into_iter-number-iterator.result) none
    ∙ ap (filter_map (λ (e : ℕ × Prim.Unit {0}). option_map (unit_view campaign watch.faction e.0) (get campaign.units e.0))) listed
    ∙ views_of_seen w campaign watch
