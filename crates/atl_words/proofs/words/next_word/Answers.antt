use Rattle.std.proofs.Common.{◌+◌}
use Rattle.atl_words.proofs.WordLaws.{part_further, ends_further, ends_at}
use Rattle.atl_words.proofs.words.next_word.Goals as goal

pub returns-then-byte-eq-QUOTE-clause-part : goal.returns-then-byte-eq-QUOTE-clause-part
returns-then-byte-eq-QUOTE-clause-part c =
    part_further c.args.line.now _ _ _ (ends_at c.args.line.now (c.loop-i.i + 1)) c.quoted_word.ensures.part

pub returns-then-byte-eq-QUOTE-clause-rest : goal.returns-then-byte-eq-QUOTE-clause-rest
returns-then-byte-eq-QUOTE-clause-rest c =
    ends_further c.args.line.now _ _ (ends_at c.args.line.now (c.loop-i.i + 1)) c.quoted_word.ensures.rest

pub returns-then-not-is_blank-clause-part : goal.returns-then-not-is_blank-clause-part
returns-then-not-is_blank-clause-part c =
    part_further c.args.line.now _ _ _ (ends_at c.args.line.now c.loop-i.i) c.bare_word.ensures.part

pub returns-then-not-is_blank-clause-rest : goal.returns-then-not-is_blank-clause-rest
returns-then-not-is_blank-clause-rest c =
    ends_further c.args.line.now _ _ (ends_at c.args.line.now c.loop-i.i) c.bare_word.ensures.rest
