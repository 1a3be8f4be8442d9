use Rattle.std.proofs.Common.{rules, ◌≡◌, ◌+◌, ◌*◌, ◌≤◌, ◌∷◌, [], ◌++◌, get_or, take}
use Rattle.std.proofs.lemmas.List.{take_more}
use Rattle.atl_world.specs.Limits.{most_per_head}
use Rattle.atl_records.specs.Limits.{men_limit}
use Rattle.atl_shares.specs.declared.accounts.Account.{Account}
use Rattle.atl_shares.specs.declared.upkeep_sharing.UpkeepInput.{UpkeepInput}
use Rattle.atl_shares.specs.Accounts.{account_at, with_if_short}
use Rattle.atl_shares.specs.UpkeepSharing.{short_of}
use Rattle.atl_shares.proofs.UpkeepSharingLaws.{few_short, no_accounts, none_short, short_more}
use Rattle.atl_shares.proofs.upkeep_sharing.short_accounts.Goals as goal

pub loop-input-init : goal.loop-input-init
loop-input-init c = record {
  each = λ s g. rw c.new-accounts.ensures (no_accounts c.args.maintenance s g);
  few = λ s g. rw c.new-accounts.ensures (none_short c.args.maintenance s g);
}

pub loop-input-preserved : goal.loop-input-preserved
loop-input-preserved c =
    let m = c.args.maintenance in
    let inputs = c.args.inputs.now in
    let i = c.loop-input.input-index in
    let p : UpkeepInput = get_or inputs i (record { unit = 0; region = 0; faction = 0; men = 0; money = 0 }) in
    let old = c.loop-input.accounts in
    let old_account = c.account_of-account.result in
    let account : Account = record old_account { short = old_account.short + c.left_and_short-short.result.1 } in
    let more : take (i + 1) inputs ≡ take i inputs ++ p ∷ [] = take_more inputs i _ c.loop-input-test.true in
    let put : c.put_if_short.new.accounts ≡ with_if_short old p.region p.faction account = search rules in
    let is : account ≡ record (account_at old p.region p.faction) { short = (account_at old p.region p.faction).short + short_of m p } = search rules in
    let short : short_of m p ≤ most_per_head * men_limit = search rules in
    record {
      each = λ s g. rw (put, more) (short_more m (take i inputs) p old account c.loop-input.invariant.each is s g);
      few = λ s g. rw put (few_short m i old p account short c.loop-input.invariant.few is s g);
    }
