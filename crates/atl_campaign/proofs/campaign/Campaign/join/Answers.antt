use Rattle.std.proofs.Common.{sym}
use Rattle.atl_world.proofs.NameLaws.{name_ok-IsUtf8, pass_ok-IsUtf8}
use Rattle.atl_campaign.proofs.JoinLaws.{joined-sound}
use Rattle.atl_campaign.proofs.campaign.Campaign.join.Goals as goal

-- join may call enroll: the name is valid UTF-8, as it keeps the rule of names
pub enroll-requires-clause-name : goal.enroll-requires-clause-name
enroll-requires-clause-name c = name_ok-IsUtf8 c.args.name.now c.requires.name

-- join may call enroll: the pass text is valid UTF-8, as it keeps the rule of pass texts
pub enroll-requires-clause-pass : goal.enroll-requires-clause-pass
enroll-requires-clause-pass c = pass_ok-IsUtf8 c.args.pass.now c.requires.pass

pub returns-in-Ok-clause-sound : goal.returns-in-Ok-clause-sound
returns-in-Ok-clause-sound c =
    rw c.in-Ok.ensures.ok
    (joined-sound c.args.world.now c.args.name.now c.args.pass.now c.args.word c.args.self.now.value (sym c.if-is_full.ensures) (sym c.if-is_name_taken.ensures) c.requires.name c.requires.pass c.enroll.ensures.world c.requires.good.sound)
