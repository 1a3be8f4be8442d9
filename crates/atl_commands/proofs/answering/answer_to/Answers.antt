use Rattle.std.proofs.Common.{sym, subst}
use Rattle.atl_commands.specs.declared.command.Command.{Command}
use Rattle.atl_commands.specs.Answering.{AnswersOrFails}
use Rattle.atl_commands.proofs.answering.answer_to.Goals as goal

pub returns-in-Join : goal.returns-in-Join
returns-in-Join g c =
    subst (λ (command : Command). AnswersOrFails g.S.Store c.args.world.now c.args.campaign.now c.args.conn.now command c.join.result c.join.new.campaign c.join.new.conn) (sym c.in-Join.is) c.join.ensures

pub returns-in-Mail : goal.returns-in-Mail
returns-in-Mail g c =
    subst (λ (command : Command). AnswersOrFails g.S.Store c.args.world.now c.args.campaign.now c.args.conn.now command c.mail.result c.mail.new.campaign c.mail.new.conn) (sym c.in-Mail.is) c.mail.ensures

pub returns-in-Close : goal.returns-in-Close
returns-in-Close g c =
    subst (λ (command : Command). AnswersOrFails g.S.Store c.args.world.now c.args.campaign.now c.args.conn.now command c.close.result c.close.new.campaign c.close.new.conn) (sym c.in-Close.is) c.close.ensures
