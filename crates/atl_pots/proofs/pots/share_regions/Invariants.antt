use Rattle.std.proofs.Common.{◌≡◌}
use Rattle.std.specs.List.{flat_map}
use Rattle.atl_world.specs.Every.{EachEntry}
use Rattle.atl_pots.specs.Pots.{AreWants}
use Rattle.atl_pots.specs.Puts.{with_entries}
use Rattle.atl_pots.specs.WantGroups.{all_region_shares, region_shares}
use Rattle.atl_pots.proofs.pots.share_regions.Given as goal

-- putting the shares of the regions still to come into the map so far gives the map before the loop with the shares of
-- all regions put in
abbrev pub invariant-loop-region : goal.invariant-loop-region
invariant-loop-region g l = record {
  what : with_entries l.given (flat_map (region_shares l.campaign.value (g.P.Pots.pot_of l.pots)) l.region-iterator)
      ≡ with_entries l.fn.given (all_region_shares l.campaign.value (g.P.Pots.pot_of l.pots) l.wants);
  wants : EachEntry (λ region group. AreWants group) l.region-iterator;
}
