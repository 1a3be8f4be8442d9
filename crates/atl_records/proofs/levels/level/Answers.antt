use Rattle.std.proofs.Common.{◌≡◌, ℕ, ◌-◌, Bool, true, false, nat_le, sym, ap, ◌∙◌, arith}
use Rattle.std.specs.Prelude.{if◌then◌else◌}
use Rattle.atl_world.specs.Limits.{last_level}
use Rattle.atl_records.specs.Levels.{greatest, days_for, level_of}
use Rattle.atl_records.proofs.LevelLaws.{greatest_here, greatest_below, unreached_level_is_above_0}
use Rattle.atl_world.proofs.EveryLaws.{other_number}
use Rattle.atl_records.proofs.levels.level.Goals as goal

pub loop-level-preserved : goal.loop-level-preserved
loop-level-preserved c =
    let passes : ℕ → Bool = λ n. nat_le (days_for n c.args.men) c.args.days in
    let failed : passes c.loop-level.level ≡ false = sym c.is_reached.ensures ∙ c.loop-level-test.true in
    let some = unreached_level_is_above_0 c.loop-level.level c.args.men c.args.days failed in
    record {
      rest = sym (greatest_below passes c.loop-level.level (c.loop-level.level - 1) (omega (arith, some)) failed) ∙ c.loop-level.invariant.rest;
      small = omega (arith, c.loop-level.invariant.small);
    }

pub returns-clause-value : goal.returns-clause-value
unfolding level_of
returns-clause-value c =
    let passes : ℕ → Bool = λ n. nat_le (days_for n c.args.men) c.args.days in
    let passed : passes c.loop-level.level ≡ true = sym c.is_reached.ensures ∙ c.loop-level-test.false in
    greatest_here passes c.loop-level.level passed ∙ c.loop-level.invariant.rest
    ∙ sym (ap (λ b. if b then 0 else greatest passes last_level) (other_number c.args.men 0 c.if-men-eq0.false))
