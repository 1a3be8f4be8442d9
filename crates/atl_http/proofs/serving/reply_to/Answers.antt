use Rattle.atl_http.proofs.ServingLaws as laws
use Rattle.atl_http.proofs.serving.reply_to.Goals as goal

pub returns-in-Refused : goal.returns-in-Refused
returns-in-Refused g c =
    laws.replies_to_problem g.S.Store c.args.dice c.args.service.now c.args.outcome c.in-Refused.problem
    c.problem_message.result c.in-Refused.is c.problem_message.ensures

pub returns-in_ok-answer-in-Asks : goal.returns-in_ok-answer-in-Asks
returns-in_ok-answer-in-Asks g c =
    laws.replies_to_request g.S.Store c.args.dice c.args.service.now c.run_request.new.service c.args.outcome
    c.in-Asks.request c.in_ok-answer-in-Asks.answer c.answer_message.result c.in-Asks.is
    c.in_ok-answer-in-Asks.ensures.ok c.answer_message.ensures
