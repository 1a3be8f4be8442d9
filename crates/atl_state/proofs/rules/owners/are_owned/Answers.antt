use Rattle.std.proofs.Common.{◌≡◌, ◌≢◌, false, Some, sym, ap, ◌∙◌, rules}
use Rattle.std.proofs.lemmas.Bool.{false≢true}
use Rattle.std.specs.FinMap.{get}
use Rattle.atl_records.specs.declared.records.Structure.{Structure}
use Rattle.atl_campaign.specs.Campaign.{CampaignValue}
use Rattle.atl_state.specs.Deciding.{HasOwnerInside}
use Rattle.atl_world.specs.Every.{Every}
use Rattle.atl_campaign.specs.Good.{AreOwned}
use Rattle.atl_state.proofs.rules.owners.are_owned.Goals as goal

abbrev AreOwnersInside : CampaignValue → Type 0
AreOwnersInside c = Every (HasOwnerInside c) c.structures

abbrev AreWithOwners : CampaignValue → Type 0
AreWithOwners c = Every (λ m u. (s : Structure) → get c.structures u.structure ≡ Some s → s.owner ≢ 0) c.units

owners_keep_their_rule : (c : CampaignValue) → AreOwnersInside c → AreWithOwners c → AreOwned c
owners_keep_their_rule c owned with n s is = record {
  owned = (owned n s is).owned;
  ownerless = λ none m u there same. with m u there s (ap (get c.structures) same ∙ is) none;
}

have_owners : (c : CampaignValue) → AreOwned c → AreOwnersInside c
have_owners c all n s is = record { owned = (all n s is).owned }

are_with_owners : (c : CampaignValue) → AreOwned c → AreWithOwners c
are_with_owners c all m u there s is none = (all u.structure s is).ownerless none m u there (λ i. u.structure)

pub returns-then-are_owners_inside : goal.returns-then-are_owners_inside
returns-then-are_owners_inside c =
    let what = c.args.campaign.now.value in
    (λ r. owners_keep_their_rule what (c.are_owners_inside.ensures.0 (search rules)) (c.are_with_owners.ensures.0 r), λ all. c.are_with_owners.ensures.1 (are_with_owners what all))

pub returns-else-are_owners_inside : goal.returns-else-are_owners_inside
returns-else-are_owners_inside c =
    let fails : c.are_owners_inside.result ≡ false = search rules in
    (λ r. absurd (false≢true (sym fails ∙ r)), λ all. c.are_owners_inside.ensures.1 (have_owners c.args.campaign.now.value all))
