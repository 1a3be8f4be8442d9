use Rattle.std.proofs.Common.{◌≡◌, ℕ, [], ◌++◌, map, filter, ap, ◌∙◌, rules}
use Rattle.std.specs.Prelude.{option_map}
use Rattle.std.specs.FinMap.{entries, get}
use Rattle.std.specs.List.{filter_map}
use Rattle.atl_report.specs.Sight.{region_view}
use Rattle.atl_sight.specs.Watching.{sees_region, watch_over}
use Rattle.atl_report.proofs.SightLaws.{values_looked_up}
use Rattle.atl_report.proofs.sight.region_views.Goals as goal

pub loop-number-init : goal.loop-number-init
loop-number-init c =
    let w = c.args.world.now in
    let campaign = c.args.campaign.now.value in
    let faction = c.args.faction in
    let listed : c.into_iter-number-iterator.result ≡ map (λ e. (e.0, tt)) (filter (λ e. sees_region campaign faction e.0) (entries campaign.regions)) = search (rules, c.in_ok-seen.ensures) in
    let none : c.new-regions.result ≡ [] = search rules in
    ap (λ l. l ++ filter_map (λ (e : ℕ × Prim.Unit {0}). option_map (region_view w campaign (watch_over w campaign faction e.0)) (get campaign.regions e.0)) c.into_iter-number-iterator.result) none
    ∙ ap (filter_map (λ (e : ℕ × Prim.Unit {0}). option_map (region_view w campaign (watch_over w campaign faction e.0)) (get campaign.regions e.0))) listed
    ∙ values_looked_up campaign.regions (λ n r. region_view w campaign (watch_over w campaign faction n) r) (λ e. sees_region campaign faction e.0)
