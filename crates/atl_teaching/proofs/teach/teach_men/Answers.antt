use Rattle.std.proofs.Common.{◌≡◌, ◌≢◌, ◌+◌, ◌-◌, ℕ, [], ◌∷◌, Option, min, drop, get_or, sum_by, ap, sym, subst, ◌∙◌, arith}
use Rattle.std.proofs.Math.Path.{fun_ext}
use Rattle.std.proofs.lemmas.List.{drop_all, drop_more}
use Rattle.std.proofs.lemmas.List.Sums.{sum_by-cons}
use Rattle.std.specs.Prelude.{nat_eq, unwrap_or}
use Rattle.std.specs.List.{IsDistinct}
use Rattle.std.specs.FinMap.{insert}
use Rattle.atl_records.specs.declared.event.Outcome.TheVariants.{Done}
use Rattle.atl_records.specs.Holdings.{amount_of}
use Rattle.atl_world.proofs.EveryLaws.{get-insert_other}
use Rattle.atl_campaign.proofs.RegionLaws.{get-insert_same}
use Rattle.atl_teaching.specs.Teach.{lesson, taught_in_lesson, untaught_men}
use Rattle.atl_teaching.proofs.TeachLaws.{men_so_far, rest_taught, same_sum}
use Rattle.atl_teaching.proofs.teach.teach_men.Goals as goal

pub loop-unit-preserved : goal.loop-unit-preserved
unfolding IsDistinct
loop-unit-preserved c =
    let w = c.args.campaign.now.value in
    let xs = c.args.units.now in
    let i = c.loop-unit.unit-index in
    let n = get_or xs i 0 in
    let rest = drop (i + 1) xs in
    let left = c.loop-unit.left in
    let old = amount_of c.loop-unit.taught in
    let after = amount_of c.insert.new.self in
    let given = c.min-given.result in
    let more : drop i xs ≡ n ∷ rest = drop_more xs i 0 c.loop-unit-test.true in
    let distinct : IsDistinct nat_eq (n ∷ rest) = subst (IsDistinct nat_eq) more c.loop-unit.invariant.distinct in
    let is : given ≡ min left (untaught_men w old n) = c.min-given.ensures ∙ ap (min left) c.untaught_men.ensures.value in
    let put : c.insert.new.self ≡ insert c.loop-unit.taught n (old n + given) = c.in_ok-insert.ensures.ok ∙ ap (λ t. insert c.loop-unit.taught n (t + given)) c.taught_at.ensures in
    let here : after n ≡ old n + given =
    ap (λ m. amount_of m n) put ∙ ap (λ (o : Option ℕ). unwrap_or o 0) (get-insert_same c.loop-unit.taught n (old n + given)) in
    let away : (k : ℕ) → k ≢ n → after k ≡ old k =
    (λ k apart. ap (λ m. amount_of m k) put ∙ ap (λ (o : Option ℕ). unwrap_or o 0) (get-insert_other c.loop-unit.taught n k (old n + given) apart)) in
    record {
      taught = λ k. rest_taught w old after n given here away left rest is distinct.0 k ∙ sym (ap (λ ns. old k + taught_in_lesson w old left ns k) more) ∙ c.loop-unit.invariant.taught k;
      men =
          ap (λ s. (c.args.places - (left - given)) + min s (left - given))
          (same_sum w old after n given here away rest distinct.0)
          ∙ men_so_far c.args.places left given (untaught_men w old n) (sum_by (untaught_men w old) rest) _ c.loop-unit.invariant.left is
          (ap (λ s. (c.args.places - left) + min s left) (sym (sum_by-cons (untaught_men w old) n rest) ∙ sym (ap (sum_by (untaught_men w old)) more)) ∙ c.loop-unit.invariant.men);
      left = omega (arith, c.loop-unit.invariant.left);
      distinct = distinct.1;
    }

pub returns : goal.returns
returns c =
    let w = c.args.campaign.now.value in
    let xs = c.args.units.now in
    let left = c.loop-unit.left in
    let places = c.args.places in
    let old = amount_of c.args.taught.now in
    let after = amount_of c.loop-unit.taught in
    let none : drop c.loop-unit.unit-index xs ≡ [] = drop_all c.loop-unit.unit-index xs (omega (arith, c.loop-unit-test.false)) in
    let nobody : (k : ℕ) → k ≡ k + 0 = (λ k. omega arith) in
    let no_more : (a b : ℕ) → a ≡ a + min 0 b = (λ a b. omega arith) in
    let taught : after ≡ (lesson w old places xs).0 =
    fun_ext (λ k. nobody (after k) ∙ sym (ap (λ ns. after k + taught_in_lesson w after left ns k) none) ∙ c.loop-unit.invariant.taught k) in
    let men : places - left ≡ min (sum_by (untaught_men w old) xs) places =
    no_more (places - left) left ∙ sym (ap (λ ns. (places - left) + min (sum_by (untaught_men w after) ns) left) none) ∙ c.loop-unit.invariant.men in
    ap (λ t. (t, Done (places - left))) taught ∙ ap (λ m. ((lesson w old places xs).0, Done m)) men
