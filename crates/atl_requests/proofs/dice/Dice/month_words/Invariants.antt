use Rattle.std.proofs.Common.{◌≡◌, ◌++◌, ◌-◌}
use Rattle.atl_requests.specs.Dice.{generator, first_words}
use Rattle.atl_requests.proofs.dice.Dice.month_words.Given as goal

-- the words so far, followed by the next ones of the generator, are the first `count` words of the month
abbrev pub invariant-loop : goal.invariant-loop
invariant-loop l =
    l.words.items ++ first_words (l.count - l.counter)
    (record { state = l.generator.state; increment = l.generator.increment }) ≡ first_words l.count
    (generator l.fn.self.seed l.month)
