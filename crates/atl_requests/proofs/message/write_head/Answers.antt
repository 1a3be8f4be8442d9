use Rattle.atl_parsing.specs.Replies.{head_of}
use Rattle.atl_requests.proofs.message.write_head.Goals as goal

pub returns : goal.returns
unfolding head_of
returns c = rw (← c.phrase_of-phrase.ensures, ← c.as_u16-number.ensures.value) c.write.ensures.bytes
