use Rattle.std.proofs.Common.{rules, ◌≡◌, ◌∷◌, ◌≤◌, ℕ, List, [], sym, ap, subst, ◌∙◌}
use Rattle.std.specs.FinMap.{entries}
use Rattle.atl_world.specs.Sums.{numbers_among}
use Rattle.atl_records.specs.declared.records.Unit.{Unit}
use Rattle.atl_world.specs.Every.{EachEntry}
use Rattle.atl_campaign.specs.Owners.{first_or_zero}
use Rattle.atl_world.proofs.EveryLaws.{each-from_every}
use Rattle.atl_upkeep.specs.Receivers.{or_if_zero, receiver_in, with_receiver_of}
use Rattle.atl_upkeep.specs.Sweep.{receives}
use Rattle.atl_upkeep.proofs.ReceiverLaws.{all_noted, noted_goes_on, nothing_noted}
use Rattle.atl_upkeep.proofs.receivers.receivers_of.Goals as goal

pub loop-number-init : goal.loop-number-init
loop-number-init c =
    let what = c.args.campaign.now.value in
    let is : c.into_iter-number-iterator.result ≡ entries what.units = search rules in (
      tt,
      tt,
      (λ r f. rw is (nothing_noted what c.new-receivers.result c.new-receivers.ensures r f)),
      rw is (each-from_every (λ n u. 1 ≤ n) what.units c.requires),
    )

pub loop-number-preserved : goal.loop-number-preserved
loop-number-preserved c =
    let (_, _, rest, low) = c.loop-number.invariant in
    let before = c.loop-number.receivers in
    let n = c.in-Some.number in
    let u = c.in-Some.unit.now in
    let listed : c.loop-number.number-iterator ≡ (n, u) ∷ c.next.new.self = search rules in
    let least : EachEntry (λ n u. 1 ≤ n) ((n, u) ∷ c.next.new.self) = subst (λ (l : List (ℕ × Unit)). EachEntry (λ n u. 1 ≤ n) l) listed low in
    let is : c.note_receiver.new.receivers ≡ with_receiver_of before n u = search rules in (
      tt,
      tt,
      (λ r f. rw is (noted_goes_on before n u c.next.new.self least.0 r f ∙ ap (λ (l : List (ℕ × Unit)). or_if_zero (receiver_in before r f) (first_or_zero (numbers_among (receives r f) l))) (sym listed) ∙ rest r f)),
      least.1,
    )

pub returns : goal.returns
returns c =
    let (_, _, rest, low) = c.loop-number.invariant in
    let none : c.loop-number.number-iterator ≡ [] = search rules in
    all_noted c.args.campaign.now.value c.loop-number.receivers (λ r f. ap (λ (l : List (ℕ × Unit)). or_if_zero (receiver_in c.loop-number.receivers r f) (first_or_zero (numbers_among (receives r f) l))) (sym none) ∙ rest r f)
