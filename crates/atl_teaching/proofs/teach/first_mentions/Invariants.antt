use Rattle.std.proofs.Common.{◌≡◌, ◌++◌, drop, filter}
use Rattle.atl_teaching.specs.Teach.{first_mentions}
use Rattle.atl_teaching.proofs.MentionLaws.{is_new}
use Rattle.atl_teaching.proofs.teach.first_mentions.Given as goal

-- the list so far, followed by those numbers left that weren't seen yet, each once, is `first_mentions` of all numbers
abbrev pub invariant-loop-number : goal.invariant-loop-number
invariant-loop-number l =
    l.list.items ++ filter (is_new l.seen) (first_mentions (drop l.number-index l.numbers)) ≡ first_mentions l.numbers
