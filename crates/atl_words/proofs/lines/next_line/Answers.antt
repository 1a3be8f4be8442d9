use Rattle.atl_words.proofs.LineLaws.{front_further, take_front}
use Rattle.atl_words.proofs.lines.next_line.Goals as goal

pub returns-in-Some-clause-front : goal.returns-in-Some-clause-front
returns-in-Some-clause-front c =
    front_further c.args.text.now _ _ (take_front c.args.text.now c.in-Some.end) c.without_return.ensures.front
