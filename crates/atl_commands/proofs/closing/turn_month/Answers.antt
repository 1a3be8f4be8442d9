use Rattle.std.proofs.Common.{◌≡◌, ◌+◌, refl}
use Rattle.atl_month.specs.Month.{after_month}
use Rattle.atl_commands.proofs.CloseLaws.{active_there, closed_is, own_factions, turned_marked}
use Rattle.atl_commands.proofs.closing.turn_month.Goals as goal

pub close_month-requires-clause-own : goal.close_month-requires-clause-own
close_month-requires-clause-own c =
    own_factions c.args.world.now c.args.campaign.now.value c.in_ok-mailings.field-0.mailings.items c.requires.good
    c.in_ok-mailings.ensures.readings_are

pub returns-clause-outcome : goal.returns-clause-outcome
returns-clause-outcome c =
    let after = c.in_ok-after.after.value in
    let done : c.clear_mail.new.self.value ≡ after_month after = rw (c.clear_mail.ensures.what, c.set_month.ensures.what, c.month.ensures) refl in
    rw (done, c.in_ok-factions.ensures)
    (closed_is c.args.world.now c.args.campaign.now.value after c.in_ok-after.events.items c.args.words.now c.in_ok-mailings.field-0.faults (rw (← c.in_ok-mailings.ensures.readings_are, ← c.replace-before.ensures.value) c.in_ok-after.ensures.definition) c.in_ok-mailings.ensures.faults)

pub returns-clause-there : goal.returns-clause-there
returns-clause-there c =
    let after = c.in_ok-after.after.value in
    let done : c.clear_mail.new.self.value ≡ after_month after = rw (c.clear_mail.ensures.what, c.set_month.ensures.what, c.month.ensures) refl in
    rw (done, c.in_ok-factions.ensures)
    (active_there c.args.campaign.now.value after (rw (← c.replace-before.ensures.value) c.in_ok-after.ensures.factions))

pub returns-clause-marks : goal.returns-clause-marks
returns-clause-marks c =
    rw (← c.replace-before.ensures.value)
    (turned_marked c.replace-before.result c.in_ok-after.after c.set_month.new.self c.clear_mail.new.self (c.month.result + 1) c.in_ok-after.ensures.marks c.set_month.ensures.what c.set_month.ensures.marks c.clear_mail.ensures.what c.clear_mail.ensures.marks)
