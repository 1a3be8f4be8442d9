use Rattle.std.proofs.Common.{◌≡◌, ◌≤◌, ◌++◌, List, IfSome, length, drop, vec_len, vec_capacity}
use Rattle.atl_commands.specs.declared.command.Answer.{Answer}
use Rattle.atl_campaign.specs.Totals.{Balances}
use Rattle.atl_keeping.specs.Keeps.{HoldsCampaign}
use Rattle.atl_commands.specs.Service.{ServiceValue, text_in}
use Rattle.atl_commands.specs.Runs.{RunsAll}
use Rattle.atl_commands.proofs.service.Service.run_all.Given as goal

-- The answers so far, followed by answers that the rest of the commands gets from here on (`RunsAll`),
-- are answers that the whole list gets from the start.
abbrev pub invariant-loop-command : goal.invariant-loop-command
invariant-loop-command g l = record {
  whole : (rs : List Answer) (new : ServiceValue g.row.S.Denot)
      → RunsAll g.S.Store l.self (drop l.command-index l.commands) rs new
      → RunsAll g.S.Store l.fn.self l.commands (l.answers.items ++ rs) new;
  tables : IfSome l.self.campaign (λ c. HoldsCampaign g.S.Store l.self.conn (text_in g.S.Store l.self.conn) c);
  balances : IfSome l.self.campaign Balances;
  count : vec_len l.answers ≡ l.command-index;
  room : length l.commands ≤ vec_capacity l.answers;
}
