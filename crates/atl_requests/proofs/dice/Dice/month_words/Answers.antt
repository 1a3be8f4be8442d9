use Rattle.std.proofs.Common.{◌++◌, ◌-◌, ◌+◌, ap, ◌∙◌}
use Rattle.rand_pcg.specs.Lcg.{Lcg}
use Rattle.atl_requests.specs.Dice.{first_words}
use Rattle.atl_requests.proofs.WordLaws.{word_more}
use Rattle.atl_requests.proofs.dice.Dice.month_words.Goals as goal

pub loop-preserved : goal.loop-preserved
loop-preserved c =
    let before : Lcg = record { state = c.loop.generator.state; increment = c.loop.generator.increment } in
    let after : Lcg = record { state = c.next_word.new.self.state; increment = c.next_word.new.self.increment } in
    ap (λ l. l ++ first_words (c.args.count - (c.loop.counter + 1)) after) c.in_ok-push.ensures.items
    ∙ word_more c.loop.words.items c.args.count c.loop.counter before c.next_word.result after c.next_word.ensures c.loop-test.true
    ∙ c.loop.invariant
