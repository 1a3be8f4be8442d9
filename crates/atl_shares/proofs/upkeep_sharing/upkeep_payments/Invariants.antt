use Rattle.std.proofs.Common.{◌≡◌, ℕ, map, take}
use Rattle.atl_shares.specs.declared.upkeep_sharing.UpkeepInput.{UpkeepInput}
use Rattle.atl_shares.specs.Accounts.{account_at, account_of}
use Rattle.atl_shares.specs.UpkeepSharing.{peers_of, upkeep_result_among}
use Rattle.atl_shares.proofs.upkeep_sharing.upkeep_payments.Given as goal

-- before each unit: the accounts are those after the turns so far, and the list has what upkeep takes from the units
-- that had one
abbrev pub invariant-loop-input : goal.invariant-loop-input
invariant-loop-input l = record {
  each : (region faction : ℕ)
      → account_at l.accounts region faction
      ≡ account_of l.maintenance l.inputs (take l.input-index l.inputs) region faction;
  list : l.list.items
      ≡ map (λ (p : UpkeepInput). upkeep_result_among l.maintenance (peers_of p.region p.faction l.inputs) p) (take l.input-index l.inputs);
}
