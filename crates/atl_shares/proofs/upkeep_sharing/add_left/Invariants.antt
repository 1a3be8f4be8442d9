use Rattle.std.proofs.Common.{◌≡◌, ◌*◌, ◌≤◌, ℕ, take}
use Rattle.atl_records.specs.Limits.{holding_limit}
use Rattle.atl_shares.specs.Accounts.{account_at, opened}
use Rattle.atl_shares.proofs.upkeep_sharing.add_left.Given as goal

-- before each unit: each account has what the units so far have left, if others are short, and that is within what so
-- many units may have
abbrev pub invariant-loop-input : goal.invariant-loop-input
invariant-loop-input l = record {
  each : (region faction : ℕ)
      → account_at l.accounts region faction
      ≡ opened l.maintenance l.inputs (take l.input-index l.inputs) region faction;
  few : (region faction : ℕ) → (account_at l.accounts region faction).left ≤ holding_limit * l.input-index;
}
