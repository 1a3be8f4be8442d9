-- The outcome of an order: the first fault that applies, with nothing changed, or what was done.
use Rattle.std.specs.Prelude.{Bool, List, [], ◌∷◌, Option, Some, None, if◌then◌else◌}
use Rattle.atl_records.specs.declared.event.EventFault.{EventFault}
use Rattle.atl_records.specs.declared.event.Outcome.{Outcome}
use Rattle.atl_records.specs.declared.event.Outcome.TheVariants.{Fault}
use Rattle.atl_records.specs.Events.{event_fault_number}
use Rattle.atl_campaign.specs.Campaign.{CampaignValue}

-- the first fault of the list whose test is true; None where there is none
abbrev pub first_fault : List (Bool × EventFault) → Option EventFault
first_fault [] = None
first_fault ((fits, fault) ∷ more) = if fits then Some fault else first_fault more

-- the result of an order: with a fault the campaign as it was, and the fault as the outcome; without one what was done
abbrev pub fault_or : CampaignValue → Option EventFault → CampaignValue × Outcome → CampaignValue × Outcome
fault_or c (Some fault) done = (c, Fault (event_fault_number fault))
fault_or c None done = done
