use Rattle.atl_commands.proofs.PostingLaws as laws
use Rattle.atl_commands.proofs.posting.only_the_last_mail_counts.Goals as goal

pub returns : goal.returns
returns c = laws.only_the_last_mail_counts
