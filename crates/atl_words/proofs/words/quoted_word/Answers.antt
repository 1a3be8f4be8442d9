use Rattle.atl_words.proofs.WordLaws.{found_or_len, words-quoted, after_closing, ends_further, ends_after, ends_at}
use Rattle.atl_words.specs.Words.{is_quote}
use Rattle.atl_words.proofs.words.quoted_word.Goals as goal

pub returns-clause-words : goal.returns-clause-words
returns-clause-words c =
    rw (after_closing c.split_at.result.1.now c.min-closing.result c.min-closing.ensures, c.split_at.ensures.front, c.split_at.ensures.back, c.unwrap_or-end.ensures, c.first_quote.ensures, found_or_len is_quote c.args.after.now)
    (words-quoted c.args.after.now)

pub returns-clause-rest : goal.returns-clause-rest
returns-clause-rest c =
    ends_further c.args.after.now c.split_at.result.1.now _
    (rw (c.split_at.ensures.back) (ends_after c.args.after.now c.unwrap_or-end.result))
    (ends_at c.split_at.result.1.now c.min-closing.result)
