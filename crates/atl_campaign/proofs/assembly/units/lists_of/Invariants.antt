use Rattle.std.proofs.Common.{◌≡◌, ◌++◌}
use Rattle.std.specs.Ordering.{nat_cmp}
use Rattle.std.specs.FinMap.{FinMap, entries}
use Rattle.atl_lists.specs.Lists.{AreUnitLists}
use Rattle.atl_records.specs.declared.records.Unit.{Unit}
use Rattle.atl_campaign.proofs.assembly.units.lists_of.Given as goal

-- the lists so far by region, faction and structure are those of the units done, and all other units are still to come
abbrev pub invariant-loop-number : goal.invariant-loop-number
invariant-loop-number l =
    (done : FinMap nat_cmp Unit) × (entries done ++ l.number-iterator ≡ entries l.units.values) × AreUnitLists done
    l.lists
