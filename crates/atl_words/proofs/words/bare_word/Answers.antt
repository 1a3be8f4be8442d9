use Rattle.atl_words.proofs.WordLaws.{found_or_len, words-bare_line}
use Rattle.atl_words.specs.Words.{ends_word}
use Rattle.atl_words.proofs.words.bare_word.Goals as goal

pub returns-clause-words : goal.returns-clause-words
returns-clause-words c = let law = words-bare_line c.args.line.now c.requires.some c.requires.bare in rw (c.split_at.ensures.front, c.split_at.ensures.back, c.unwrap_or-end.ensures, c.first_end.ensures, found_or_len ends_word c.args.line.now) law
