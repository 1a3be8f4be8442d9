-- Laws on a command Join: what `step` returns for each result of `join_of`, and that the store can write the result.
-- `w` is the world, and `c` the campaign before the command, which has a name, a pass text and a word of the dice. `d`
-- is the campaign in which faction `n` with its unit `m` has joined, before its first report is stored.
use Rattle.std.proofs.Common.{◌≡◌, ◌+◌, ◌-◌, ℕ, pos, List, [], Bool, true, false, cond, not, Option, Some, is_some, IsSome, Ok, Err, refl, sym, ap, ◌∙◌, subst, arith}
use Rattle.std.specs.FinMap.{get, insert}
use Rattle.atl_world.specs.Names.{name_ok, pass_ok}
use Rattle.atl_world.specs.Worlds.{WorldValue}
use Rattle.atl_records.specs.declared.records.JoinFault.TheVariants.{NameTaken, Full}
use Rattle.atl_campaign.specs.Campaign.{CampaignValue, with_report}
use Rattle.atl_campaign.specs.Good.{IsGood}
use Rattle.atl_campaign.specs.Joining.{join_of, after_join, name_taken, is_full, new_faction, first_unit}
use Rattle.atl_report.specs.Report.{report_of}
use Rattle.atl_report.specs.Sight.{view_of}
use Rattle.atl_keeping.specs.Keeps.{IsJoining}
use Rattle.atl_writing.specs.Arriving.{HasArrival}
use Rattle.atl_commands.specs.declared.command.Command.TheVariants.{Join}
use Rattle.atl_commands.specs.declared.command.Answer.TheVariants.{Joined, Refused}
use Rattle.atl_commands.specs.declared.command.Refusal.TheVariants as why
use Rattle.atl_commands.specs.Step.{step, reported}
use Rattle.atl_world.proofs.TrackLaws.{get_inserted}

module _ (w : WorldValue) (c : CampaignValue) (name pass : List ℕ) (word : ℕ) where
  -- `step` refuses a join whose name breaks the rule of names with BadName
  pub bad_name : not (name_ok name) ≡ true → step w c (Join name pass word) ≡ (c, Refused why.BadName)
  unfolding step
  bad_name e = rw e refl

  -- `step` refuses a join whose name keeps its rule, and whose pass text breaks its own, with BadPassText
  pub bad_pass : name_ok name ≡ true → not (pass_ok pass) ≡ true
      → step w c (Join name pass word) ≡ (c, Refused why.BadPassText)
  unfolding step
  bad_pass a e = rw (a, e) refl

  -- if name and pass text keep their rules, `step` refuses a join with NameTaken where `join_of` does
  pub is_taken : name_ok name ≡ true → pass_ok pass ≡ true → join_of w name pass word c ≡ Err NameTaken
      → step w c (Join name pass word) ≡ (c, Refused why.NameTaken)
  unfolding step
  is_taken a b e = rw (a, b, e) refl

  -- if name and pass text keep their rules, `step` refuses a join with Full where `join_of` does
  pub is_too_full : name_ok name ≡ true → pass_ok pass ≡ true → join_of w name pass word c ≡ Err Full
      → step w c (Join name pass word) ≡ (c, Refused why.Full)
  unfolding step
  is_too_full a b e = rw (a, b, e) refl

  -- if name and pass text keep their rules, and `join_of` lets faction `n` join with unit `m`, `step` stores its first
  -- report and answers Joined
  pub steps_on : (d : CampaignValue) (n m : ℕ) → name_ok name ≡ true → pass_ok pass ≡ true
      → join_of w name pass word c ≡ Ok (d, (n, m)) → step w c (Join name pass word) ≡ (reported w d n, Joined n m)
  unfolding step
  steps_on d n m a b e = rw (a, b, e) refl

-- the result `y` of a join that succeeds is the joined campaign `x`, since a join gives an error if the name is taken
-- or the campaign is full
join_result_is_joined : {S : Type 0} (taken full : Bool) (x y : S)
    → cond taken (Err NameTaken) (cond full (Err Full) (Ok x)) ≡ Ok y → x ≡ y
join_result_is_joined true full x y e = cc
join_result_is_joined false true x y e = cc
join_result_is_joined false false x y e = cc

is_there : {V : Type 0} (o : Option V) (v : V) → o ≡ Some v → IsSome o
is_there o v is = ap is_some is

-- the campaign that `after_join` makes of a good one, with the first report, has what a write of the join needs
-- (`HasArrival`): the faction, its unit, which came last, and its report
arrival : (w : WorldValue) (name pass : List ℕ) (word : ℕ) (c : CampaignValue) → IsGood w c
    → HasArrival (reported w (after_join w name pass word c) c.next_faction) c.next_faction
unfolding after_join
arrival w name pass word c good =
    let member = new_faction c.next_faction name pass in
    let band = first_unit w word c in
    let start = pos w.rules.start_money in
    let back : c.next_unit + 1 - 1 ≡ c.next_unit = omega arith in
    let report = report_of w (view_of w (after_join w name pass word c) c.next_faction) [] [] in
    record {
      next = omega arith;
      things = omega (arith, good.sound.steady.numbers.books.count);
      faction = is_there _ member (get_inserted c.factions c.next_faction member);
      unit = is_there _ band (ap (get (insert c.units c.next_unit band)) back ∙ get_inserted c.units c.next_unit band);
      report = is_there _ report (get_inserted c.reports c.next_faction report);
    }

-- After a join into a good campaign `c`, the campaign with the first report of the faction `n` that joined has what a
-- write needs (`HasArrival`). That is the faction, its report, the last unit, and books with money and people.
pub arrives : (w : WorldValue) (name pass : List ℕ) (word : ℕ) (c d : CampaignValue) (n m : ℕ) → IsGood w c
    → join_of w name pass word c ≡ Ok (d, (n, m)) → HasArrival (reported w d n) n
unfolding join_of
arrives w name pass word c d n m good e =
    let is : (after_join w name pass word c, (c.next_faction, c.next_unit)) ≡ (d, (n, m)) = join_result_is_joined (name_taken c name) (is_full c) _ _ e in
    let same : after_join w name pass word c ≡ d = ap (λ p. p.0) is in
    let number : c.next_faction ≡ n = ap (λ p. p.1.0) is in
    subst (λ (s : CampaignValue). HasArrival (reported w s n) n) same (subst (λ k. HasArrival (reported w (after_join w name pass word c) k) k) number (arrival w name pass word c good))

-- the campaign after a join into a good one, with the first report of the faction `n` that joined, is what some join
-- and some report of `n` make of it (`IsJoining`)
pub joining_is : (w : WorldValue) (name pass : List ℕ) (word : ℕ) (c d : CampaignValue) (n m : ℕ) → IsGood w c
    → join_of w name pass word c ≡ Ok (d, (n, m)) → IsJoining c n (reported w d n)
unfolding join_of
joining_is w name pass word c d n m good e =
    let is : (after_join w name pass word c, (c.next_faction, c.next_unit)) ≡ (d, (n, m)) = join_result_is_joined (name_taken c name) (is_full c) _ _ e in
    let same : after_join w name pass word c ≡ d = ap (λ p. p.0) is in
    let number : c.next_faction ≡ n = ap (λ p. p.1.0) is in
    (w, name, pass, word, report_of w (view_of w d n) [] [], good, sym number, ap (λ (s : CampaignValue). with_report s n (report_of w (view_of w d n) [] [])) (sym same))
