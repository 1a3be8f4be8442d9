use Rattle.std.proofs.Common.{◌≡◌}
use Rattle.std.specs.FinMap.{empty, entries}
use Rattle.std.specs.List.{flat_map}
use Rattle.atl_world.specs.Every.{EachEntry}
use Rattle.atl_pots.specs.Pots.{AreWants}
use Rattle.atl_pots.specs.Puts.{with_entries}
use Rattle.atl_pots.specs.WantGroups.{grouped, shares_of_item}
use Rattle.atl_pots.proofs.item_pots.item_shares.Given as goal

-- putting the shares of the items still to come into the map so far gives the map into which those of all items were
-- put
abbrev pub invariant-loop-item : goal.invariant-loop-item
invariant-loop-item g l = record {
  what : with_entries l.given (flat_map (shares_of_item l.campaign.value (g.P.ItemPots.pot_of l.pots)) l.item-iterator)
      ≡ with_entries empty (flat_map (shares_of_item l.campaign.value (g.P.ItemPots.pot_of l.pots)) (entries (grouped (g.P.AskedPots.asked_by l.pots) l.wants)));
  wants : EachEntry (λ item group. AreWants group) l.item-iterator;
}
