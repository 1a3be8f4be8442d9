use Rattle.std.proofs.Common.{◌≡◌, ◌≤◌, ◌<◌, ◌*◌, ◌&&◌, ℕ, Bool, true, false, Option, Some, None, option_map, length, refl, sym, ap, subst, ◌∙◌, arith, rules}
use Rattle.std.specs.FinMap.{empty, get}
use Rattle.std.proofs.lemmas.Bool.{false≢true}
use Rattle.atl_world.specs.Worlds.{WorldValue}
use Rattle.atl_campaign.specs.Good.{IsEarly, IsSteady}
use Rattle.atl_records.specs.Holdings.{HoldingValue}
use Rattle.atl_campaign.specs.Lending.{with_holding_at, with_holding}
use Rattle.atl_records.specs.Limits.{most_days}
use Rattle.atl_campaign.specs.Campaign.{CampaignValue}
use Rattle.atl_records.specs.declared.records.Unit.{Unit}
use Rattle.atl_world.proofs.EveryLaws.{every-empty}
use Rattle.atl_campaign.proofs.HoldingLaws.{MayHaveWithoutNewGuard, of_one_faction_kept, steady-new_holding}
use Rattle.atl_phase_tests.proofs.settings.empty_unit.Goals as goal

abbrev without_men : HoldingValue → HoldingValue
without_men h = record h { men = 0; days = empty }

and_false_is_not_true : (b : Bool) {P : Type 0} → (b && false) ≡ true → P
and_false_is_not_true true h = absurd (false≢true h)
and_false_is_not_true false h = absurd (false≢true h)

may_lose_men : (w : WorldValue) (c : CampaignValue) (n : ℕ) (u : Unit) → get c.units n ≡ Some u → IsSteady w c → MayHaveWithoutNewGuard w u (without_men u.holding)
may_lose_men w c n u is steady =
    let location = steady.known.units n u is in
    let holding = (steady.numbers.units n u is).1 in
    record {
      limits = record { men = omega arith; money = holding.money; items = holding.items };
      name = steady.names.units n u is;
      items = location.items;
      skills = every-empty (λ s days. s < length w.skills);
      days = every-empty (λ s days. (1 ≤ days) × (days ≤ most_days * 0));
      guard = and_false_is_not_true u.holding.guard;
    }

stays_early_without_men : (w : WorldValue) (c : CampaignValue) (n : ℕ) (before after : HoldingValue) → Some before ≡ option_map (λ (u : Unit). u.holding) (get c.units n) → after ≡ without_men before → IsEarly w c → IsEarly w (with_holding c n after)
stays_early_without_men w c n before after was is early = by_unit (get c.units n) refl was
  where
    by_unit : (o : Option Unit) → get c.units n ≡ o → Some before ≡ option_map (λ (u : Unit). u.holding) o → IsEarly w (with_holding_at c n after o)
    by_unit None there e = early
    by_unit (Some u) there e =
        let same : before ≡ u.holding = cc in
        let held : without_men u.holding ≡ after = sym (is ∙ ap without_men same) in
        record {
          steady = steady-new_holding w c n u after there (subst (MayHaveWithoutNewGuard w u) held (may_lose_men w c n u there early.steady)) early.steady;
          flags = of_one_faction_kept w c n u after there (λ x. x.holding.guard) (λ g. ap (λ (h : HoldingValue). h.guard) held ∙ g) early.flags;
        }

pub returns-in-Some-clause-early : goal.returns-in-Some-clause-early
returns-in-Some-clause-early c =
    let after : c.set_all_days.new.self ≡ without_men c.in-Some.holding.now = search rules in
    stays_early_without_men c.args.world.now c.args.campaign.now.value c.args.number c.in-Some.holding.now c.set_all_days.new.self c.in-Some.ensures.value after c.requires.early
