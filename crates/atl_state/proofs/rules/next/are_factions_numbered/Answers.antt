use Rattle.std.proofs.Common.{◌≡◌, false, sym, ◌∙◌, rules}
use Rattle.std.proofs.lemmas.Bool.{false≢true}
use Rattle.atl_campaign.proofs.RuleLaws.{numbered, each_numbered}
use Rattle.atl_state.proofs.rules.next.are_factions_numbered.Goals as goal

pub returns-then-are_between : goal.returns-then-are_between
returns-then-are_between c =
    let what = c.args.campaign.now.value in
    let within = rw (c.factions.ensures, c.next_faction-next.ensures) at c.are_between.ensures in
    let after = rw (c.faction_count.ensures, c.next_faction-next.ensures) at c.is_next_above.ensures in
    (λ r. numbered what.factions what.next_faction (within.0 (search rules)) (after.0 r), λ is. after.1 is.count)

pub returns-else-are_between : goal.returns-else-are_between
returns-else-are_between c =
    let what = c.args.campaign.now.value in
    let within = rw (c.factions.ensures, c.next_faction-next.ensures) at c.are_between.ensures in
    let fails : c.are_between.result ≡ false = search rules in
    (λ r. absurd (false≢true (sym fails ∙ r)), λ is. within.1 (each_numbered what.factions what.next_faction is))
