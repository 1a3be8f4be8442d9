use Rattle.std.proofs.Common.{rules, sym}
use Rattle.std.proofs.lemmas.Fn.{always_returns_same}
use Rattle.atl_phase.proofs.MonthLaws as laws
use Rattle.atl_phase.proofs.month.Month.new.Goals as goal

pub invariant_of-result : goal.invariant_of-result
invariant_of-result c =
    let sort = c.sort_unstable_by_key in
    record {
      sorted = laws.sorted_by_faction c.args.mailings.items sort.new.self.items c.requires sort.ensures.permutation (sort.ensures.sorted (λ m. m.faction) (always_returns_same _ _ _ (λ a r q k. search rules)));
      gathered = tt;
    }

pub returns : goal.returns
returns c =
    let same = sym (laws.mailings_have_no_order c.args.mailings.items c.sort_unstable_by_key.new.self.items c.requires c.sort_unstable_by_key.ensures.permutation) in
    λ i. record { readings = same i; aliases = c.new.ensures i; words = c.args.words.items; events = c.new-2.ensures.items i }
