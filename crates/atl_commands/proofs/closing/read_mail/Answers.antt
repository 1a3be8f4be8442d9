use Rattle.std.proofs.Common.{◌≡◌, ◌∷◌, ◌∙◌, rules}
use Rattle.std.specs.FinMap.{entries}
use Rattle.atl_commands.proofs.CloseLaws.{read_begins, read_ends, read_goes_on}
use Rattle.atl_commands.proofs.closing.read_mail.Goals as goal

pub loop-faction-init : goal.loop-faction-init
loop-faction-init c =
    let all : c.into_iter-faction-iterator.result ≡ entries c.args.campaign.now.value.mail = search rules in
    read_begins c.args.world.now c.args.campaign.now.value c.new-mailings.result.items c.new-faults.result c.into_iter-faction-iterator.result c.requires all c.new-mailings.ensures.items c.new-faults.ensures

pub loop-faction-preserved : goal.loop-faction-preserved
loop-faction-preserved c =
    let left : c.loop-faction.faction-iterator ≡ (c.in-Some.faction, c.in-Some.text.now) ∷ c.next.new.self = search rules in
    read_goes_on c.args.world.now c.args.campaign.now.value c.loop-faction.mailings.items c.push.new.self.items c.loop-faction.faults c.insert.new.self c.loop-faction.faction-iterator c.next.new.self c.in-Some.faction c.in-Some.text.now c.in_ok-mailing.mailing left c.in_ok-push.ensures.items c.in_ok-mailing.ensures.read
    (c.in_ok-mailing.ensures.kept ∙ c.as_slice.ensures) (rw (c.in_ok-wrong.ensures, c.as_slice-in-loop-faction.ensures) at c.in_ok-insert.ensures.ok) c.loop-faction.invariant

pub returns : goal.returns
returns c =
    read_ends c.args.world.now c.args.campaign.now.value _ c.loop-faction.faction-iterator c.in-None.ensures.steps.0
    c.loop-faction.invariant
