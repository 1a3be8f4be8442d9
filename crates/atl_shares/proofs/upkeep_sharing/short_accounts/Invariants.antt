use Rattle.std.proofs.Common.{◌≡◌, ◌*◌, ◌≤◌, ℕ, [], take}
use Rattle.atl_world.specs.Limits.{most_per_head}
use Rattle.atl_records.specs.Limits.{men_limit}
use Rattle.atl_shares.specs.Accounts.{account_at, opened}
use Rattle.atl_shares.proofs.upkeep_sharing.short_accounts.Given as goal

-- before each unit: each account has what the units so far are short of, which is within what so many units may be
abbrev pub invariant-loop-input : goal.invariant-loop-input
invariant-loop-input l = record {
  each : (region faction : ℕ)
      → account_at l.accounts region faction ≡ opened l.maintenance (take l.input-index l.inputs) [] region faction;
  few : (region faction : ℕ) → (account_at l.accounts region faction).short ≤ most_per_head * men_limit * l.input-index;
}
