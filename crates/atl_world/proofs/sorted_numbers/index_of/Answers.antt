use Rattle.std.proofs.Common.{◌≡◌, ◌-◌, length, get_or, sym, arith}
use Rattle.std.proofs.lemmas.Map.Keys.{non_decreasing_from_sorted}
use Rattle.atl_world.proofs.SortedListLaws.{searched-found, searched-missing}
use Rattle.atl_world.proofs.sorted_numbers.index_of.Goals as goal

pub returns-in-Some-clause-missing : goal.returns-in-Some-clause-missing
returns-in-Some-clause-missing c =
    let numbers = c.args.numbers.now in
    let last : get_or numbers (length numbers - 1) 0 ≡ c.in-Some.last.now = sym (c.in-Some.ensures.item.3.1 0) in
    record {
      within = omega arith;
      before = λ k l.
          let rises = non_decreasing_from_sorted numbers c.requires k (length numbers - 1) 0 (omega (arith, l)) (omega (arith, l)) in
          omega (arith, rises, last, c.if-last-number.true);
      after = λ k l m. absurd (omega (arith, l, m));
    }

pub returns-in_default-clause-found : goal.returns-in_default-clause-found
returns-in_default-clause-found c =
    searched-found c.args.numbers.now c.args.number c.binary_search.result c.requires c.binary_search.ensures.position

pub returns-in_default-clause-missing : goal.returns-in_default-clause-missing
returns-in_default-clause-missing c =
    searched-missing c.args.numbers.now c.args.number c.binary_search.result c.requires c.binary_search.ensures.position
