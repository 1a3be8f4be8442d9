use Rattle.std.proofs.Common.{◌≡◌, ◌≤◌, ◌*◌, rules, arith}
use Rattle.std.specs.FinMap.{entries}
use Rattle.atl_records.specs.Limits.{most_days}
use Rattle.atl_world.proofs.EveryLaws.{each-from_every}
use Rattle.atl_instant.proofs.TransferLaws.{days_within}
use Rattle.atl_instant.proofs.transfer.days_raised.Goals as goal

pub loop-skill-init : goal.loop-skill-init
loop-skill-init c =
    let h = c.args.sender.now in
    let all : c.into_iter-skill-iterator.result ≡ entries h.days = search rules in
    (tt, tt, rw all (each-from_every (λ s days. (1 ≤ days) × (days ≤ most_days * h.men)) h.days c.requires.sent), search rules)

pub overflow_add-days_of : goal.overflow_add-days_of
overflow_add-days_of c =
    let (next, finite, each, whole) = c.loop-skill.invariant in
    let (one, others) = rw c.in-Some.ensures.steps at each in
    let had = days_within c.args.receiver.now.days (most_days * c.args.receiver.now.men) c.in-Some.skill c.requires.had in
    record { fits = omega (arith, one.1, c.days_going-coming.ensures.small, c.days_of.ensures, had, c.requires.room, c.requires.fewer, c.men-men.ensures.fits) }
