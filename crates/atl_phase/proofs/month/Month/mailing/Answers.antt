use Rattle.std.proofs.Common.{◌≡◌, ◌<◌, length, get_or, Some, rules, sym, ap, subst, ◌∙◌}
use Rattle.std.proofs.lemmas.Fn.{always_returns_same}
use Rattle.std.specs.declared.cmp.Ordering.TheVariants.{Equal, Greater, Less}
use Rattle.std.specs.FinMap.{get}
use Rattle.std.specs.List.Sorted.{IsPartitionPoint}
use Rattle.std.specs.Ordering.{nat_cmp}
use Rattle.atl_orders.specs.Mailing.{reading_of}
use Rattle.atl_phase.specs.Month.{MonthValue}
use Rattle.atl_phase.proofs.MonthLaws as laws
use Rattle.atl_phase.proofs.month.Month.mailing.Goals as goal

pub returns-in-Ok : goal.returns-in-Ok
returns-in-Ok c =
    let f = c.args.faction in
    let i = c.in-Ok.index in
    let found = c.index-mailings-index.result in
    let list = c.as_slice-mailings.ensures.value in
    let bound = subst (λ ms. i < length ms) list c.in-Ok.ensures.bound in
    let tie = subst (λ ms. nat_cmp (get_or ms i found).faction f ≡ Equal) list (c.in-Ok.ensures.position (λ m. m.faction) (always_returns_same _ _ _ (λ a r q k. search rules)) found) in
    ap (λ m. Some (reading_of m)) (c.index-mailings-index.is ∙ ap (λ ms. get_or ms i found) list)
    ∙ sym (laws.found_at c.self.inside.mailings.items f i found c.self.invariant.sorted bound tie)
    ∙ ap (λ (m : MonthValue). get m.readings f) c.self.view_is

pub returns-in-Err : goal.returns-in-Err
returns-in-Err c =
    let f = c.args.faction in
    let i = c.in-Err.field-0 in
    let ms = c.self.inside.mailings.items in
    let list = c.as_slice-mailings.ensures.value in
    let gap = c.in-Err.ensures.position (λ m. m.faction) (always_returns_same _ _ _ (λ a r q k. search rules)) (rw list (laws.mailings_are_searchable ms f c.self.invariant.sorted)) in
    sym (laws.no_reading_found ms f i (subst (λ ns. IsPartitionPoint (λ m. nat_cmp m.faction f ≡ Less) (λ m. nat_cmp m.faction f ≡ Greater) ns i) list gap))
    ∙ ap (λ (m : MonthValue). get m.readings f) c.self.view_is
