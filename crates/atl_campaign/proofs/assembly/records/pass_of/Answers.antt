use Rattle.atl_world.proofs.NameLaws.{pass_ok-IsUtf8}
use Rattle.atl_campaign.proofs.AssemblyLaws.{IfOk-text}
use Rattle.atl_campaign.proofs.assembly.records.pass_of.Goals as goal

-- pass_of returns the text of the bytes: they are valid UTF-8, as they keep the rule of pass texts
pub returns : goal.returns
returns c =
    IfOk-text c.from_utf8.result c.as_slice.result.now c.args.bytes.now c.as_slice.ensures
    (pass_ok-IsUtf8 c.args.bytes.now c.requires) c.from_utf8.ensures
