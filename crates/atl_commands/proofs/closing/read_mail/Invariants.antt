use Rattle.atl_commands.specs.Months.{ReadSoFar}
use Rattle.atl_commands.proofs.closing.read_mail.Given as goal

-- what is read and what is left make the whole mail of the campaign (`ReadSoFar`)
abbrev pub invariant-loop-faction : goal.invariant-loop-faction
invariant-loop-faction l = ReadSoFar l.world l.campaign.value l.mailings.items l.faults l.faction-iterator
