use Rattle.std.proofs.Common.{◌≡◌, length, map}
use Rattle.std.specs.Prelude.{fold, zip, drop}
use Rattle.atl_world.specs.Limits.{most_amount}
use Rattle.atl_campaign.specs.Covers.{MarksChanges}
use Rattle.atl_campaign.specs.Good.{IsSteady}
use Rattle.atl_phase.specs.Bounds.{HaveRoom, moved_times}
use Rattle.atl_upkeep.specs.Season.{season_moves, season, season_at}
use Rattle.atl_upkeep.proofs.season.carry_out_seasons.Given as goal

-- Before each region: the season of the regions still to come makes the campaign of the whole season; the campaign is
-- steady, its books have room, and all changes are marked.
abbrev pub invariant-loop-number : goal.invariant-loop-number
invariant-loop-number l =
    (goal.iterator-loop-number).can_next l.number-iterator ×
    (goal.iterator-loop-number).is_finite l.number-iterator ×
    (fold (season_at l.world) l.campaign.value (zip (map (λ e. e.0) l.number-iterator) (drop l.index l.words)) ≡ season l.world l.initial.campaign.value l.words) ×
    IsSteady l.world l.campaign.value ×
    HaveRoom (moved_times (length l.number-iterator) (season_moves most_amount)) l.campaign.value ×
    MarksChanges l.initial.campaign l.campaign
