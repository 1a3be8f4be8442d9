use Rattle.std.proofs.Common.{◌≡◌, ◌≤◌, ◌*◌, rules}
use Rattle.std.specs.FinMap.{entries}
use Rattle.atl_records.specs.Limits.{most_days}
use Rattle.atl_world.proofs.EveryLaws.{each-from_every}
use Rattle.atl_instant.proofs.transfer.days_left.Goals as goal

pub loop-skill-init : goal.loop-skill-init
loop-skill-init c =
    let h = c.args.holding.now in
    let all : c.into_iter-skill-iterator.result ≡ entries h.days = search rules in
    (tt, tt, rw all (each-from_every (λ s days. (1 ≤ days) × (days ≤ most_days * h.men)) h.days c.requires.days), search rules)
