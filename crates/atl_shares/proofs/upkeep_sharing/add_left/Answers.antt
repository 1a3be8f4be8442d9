use Rattle.std.proofs.Common.{rules, arith, ◌≡◌, ◌+◌, ◌≤◌, ◌∷◌, [], ◌++◌, ◌∙◌, get_or, take, ap}
use Rattle.std.proofs.lemmas.List.{take_more}
use Rattle.atl_records.specs.Limits.{holding_limit}
use Rattle.atl_shares.specs.declared.accounts.Account.{Account}
use Rattle.atl_shares.specs.declared.upkeep_sharing.UpkeepInput.{UpkeepInput}
use Rattle.atl_shares.specs.Accounts.{account_at, short_among, with_if_short}
use Rattle.atl_shares.specs.UpkeepSharing.{left_of}
use Rattle.atl_shares.proofs.UpkeepSharingLaws.{few_left, left_more, nothing_left}
use Rattle.atl_shares.proofs.upkeep_sharing.add_left.Goals as goal

pub loop-input-init : goal.loop-input-init
loop-input-init c = record {
  each = c.requires.accounts;
  few = λ s g. omega (arith, ap (λ (a : Account). a.left) (c.requires.accounts s g) ∙ nothing_left (short_among c.args.maintenance s g c.args.inputs.now));
}

pub loop-input-preserved : goal.loop-input-preserved
loop-input-preserved c =
    let m = c.args.maintenance in
    let inputs = c.args.inputs.now in
    let i = c.loop-input.input-index in
    let p : UpkeepInput = get_or inputs i (record { unit = 0; region = 0; faction = 0; men = 0; money = 0 }) in
    let old = c.loop-input.accounts in
    let old_account = c.account_of-account.result in
    let account : Account = record old_account { left = old_account.left + c.left_and_short-left.result.0 } in
    let more : take (i + 1) inputs ≡ take i inputs ++ p ∷ [] = take_more inputs i _ c.loop-input-test.true in
    let put : c.put_if_short.new.accounts ≡ with_if_short old p.region p.faction account = search rules in
    let is : account ≡ record (account_at old p.region p.faction) { left = (account_at old p.region p.faction).left + left_of m p } = search rules in
    let left : left_of m p ≤ holding_limit = search rules in
    record {
      each = λ s g. rw (put, more) (left_more m (take i inputs) p old account inputs c.loop-input.invariant.each is s g);
      few = λ s g. rw put (few_left m i old p account left c.loop-input.invariant.few is s g);
    }
