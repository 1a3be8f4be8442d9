use Rattle.std.proofs.Common.{rules, ◌≡◌, ◌==◌, ◌++◌, ◌∷◌, ℕ, List, sym, ap, ◌∙◌}
use Rattle.std.specs.FinMap.{entries}
use Rattle.atl_world.specs.Sums.{numbers_among}
use Rattle.atl_records.specs.declared.records.Structure.{Structure}
use Rattle.atl_lists.specs.Lists.{list_of}
use Rattle.atl_report.specs.Sites.{with_listed}
use Rattle.atl_report.proofs.SiteLaws.{no_lists, site_goes_on}
use Rattle.atl_report.proofs.sites.sites_of.Goals as goal

pub loop-number-init : goal.loop-number-init
loop-number-init c =
    let what = c.args.campaign.now.value in
    let is : c.into_iter-number-iterator.result ≡ entries what.structures = search rules in (
      tt,
      tt,
      (λ region. ap (λ (l : List ℕ). l ++ numbers_among (λ (s : Structure). s.region == region) c.into_iter-number-iterator.result) (no_lists c.new-sites.result c.new-sites.ensures region)
          ∙ ap (numbers_among (λ (s : Structure). s.region == region)) is),
    )

pub loop-number-preserved : goal.loop-number-preserved
loop-number-preserved c =
    let (_, _, rest) = c.loop-number.invariant in
    let before = c.loop-number.sites in
    let n = c.in-Some.number in
    let s = c.in-Some.structure.now in
    let listed : c.loop-number.number-iterator ≡ (n, s) ∷ c.next.new.self = search rules in
    let is : c.add_listed.new.lists ≡ with_listed before s.region n = search rules in (
      tt,
      tt,
      (λ region. rw is (site_goes_on before n s c.next.new.self region ∙ ap (λ (l : List (ℕ × Structure)). list_of before region ++ numbers_among (λ (t : Structure). t.region == region) l) (sym listed) ∙ rest region)),
    )
