use Rattle.std.proofs.Common.{◌≡◌, nat_eq}
use Rattle.std.specs.List.{list_any}
use Rattle.std.specs.Cmp.Lexicographic.{pointwise}
use Rattle.std.specs.FinMap.{entries}
use Rattle.atl_campaign.proofs.campaign.joining.is_taken.Given as goal

-- one of the factions left joined under the name exactly if one of all factions did
abbrev pub invariant-loop-faction : goal.invariant-loop-faction
invariant-loop-faction l =
    list_any (λ e. pointwise nat_eq e.1.joined_as l.name) l.faction-iterator ≡ list_any
    (λ e. pointwise nat_eq e.1.joined_as l.name) (entries l.factions.values)
