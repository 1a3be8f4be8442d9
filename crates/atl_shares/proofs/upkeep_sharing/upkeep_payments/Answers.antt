use Rattle.std.proofs.Common.{rules, ◌≡◌, ◌+◌, ◌∷◌, [], ◌++◌, get_or, List, map, sym, ap, ◌∙◌, take}
use Rattle.std.proofs.lemmas.List.{map_more, take_more}
use Rattle.atl_shares.specs.declared.upkeep_sharing.UpkeepInput.{UpkeepInput}
use Rattle.atl_shares.specs.declared.upkeep_sharing.UpkeepResult.{UpkeepResult}
use Rattle.atl_shares.specs.Accounts.{account_after, account_at, with_if_short}
use Rattle.atl_shares.specs.UpkeepSharing.{peers_of, upkeep_result_among}
use Rattle.atl_shares.proofs.UpkeepSharingLaws.{lower_first, upkeep_result_is, upkeep_result_more}
use Rattle.atl_shares.proofs.upkeep_sharing.upkeep_payments.Goals as goal

pub loop-input-preserved : goal.loop-input-preserved
loop-input-preserved c =
    let m = c.args.maintenance in
    let inputs = c.args.inputs.now in
    let i = c.loop-input.input-index in
    let none : UpkeepInput = record { unit = 0; region = 0; faction = 0; men = 0; money = 0 } in
    let p : UpkeepInput = get_or inputs i none in
    let upkeep_result = λ (q : UpkeepInput). upkeep_result_among m (peers_of q.region q.faction inputs) q in
    let old = c.loop-input.accounts in
    let account = c.payment_of-upkeep_result.new.account in
    let more : take (i + 1) inputs ≡ take i inputs ++ p ∷ [] = take_more inputs i _ c.loop-input-test.true in
    let put : c.put_if_short.new.accounts ≡ with_if_short old p.region p.faction account = search rules in
    let is : account ≡ account_after m (account_at old p.region p.faction) p = search rules in
    let first = lower_first inputs i none c.requires.order c.loop-input-test.true in
    let one : c.payment_of-upkeep_result.result ≡ upkeep_result_among m (peers_of p.region p.faction inputs) p =
    search (rules, upkeep_result_is m inputs (take i inputs) p old c.loop-input.invariant.each first) in
    let pushed : c.push.new.self.items ≡ c.loop-input.list.items ++ c.payment_of-upkeep_result.result ∷ [] = search rules in
    record {
      each = λ s g. rw (put, more) (upkeep_result_more m inputs (take i inputs) p old c.loop-input.invariant.each account is s g);
      list =
          pushed
          ∙ ap (λ (xs : List UpkeepResult). xs ++ c.payment_of-upkeep_result.result ∷ []) c.loop-input.invariant.list
          ∙ ap (λ (s : UpkeepResult). map upkeep_result (take i inputs) ++ s ∷ []) one ∙ sym (map_more upkeep_result inputs i none c.loop-input-test.true);
    }
