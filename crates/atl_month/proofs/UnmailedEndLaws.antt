-- Laws of what upkeep, season and sweep leave to units of a faction that sent no mailing, if the phase keeps what its
-- specification says. Such a unit keeps its faction and name, has no less of any item, and has its men less those who
-- starve in upkeep, as its event reports. The sweep removes it if it has no men. The other two keep the mailings, and
-- none takes back a Starved event.
use Rattle.std.proofs.Common.{◌≡◌, ◌≢◌, ◌==◌, ◌+◌, ◌-◌, ◌≤◌, ◌<◌, ℕ, Bool, true, false, not, cond, List, [], ◌∷◌, map, filter, sum_by, Some, refl, sym, ap, subst, ◌∙◌, inl, inr, arith}
use Rattle.std.specs.Prelude.{if◌then◌else◌}
use Rattle.std.specs.Ordering.{nat_cmp}
use Rattle.std.specs.FinMap.{FinMap, entries, find, get, get-entries}
use Rattle.std.specs.List.{AllByRecursion}
use Rattle.std.proofs.lemmas.Option.{same_Some}
use Rattle.std.proofs.lemmas.Bool.{cases_eq, eq-eqb}
use Rattle.std.proofs.lemmas.List.Sums.{sum_by-append, sum_by-cons}
use Rattle.atl_world.specs.Worlds.{WorldValue}
use Rattle.atl_world.proofs.GeneralLaws.{is_equal}
use Rattle.atl_records.specs.declared.event.Event.{Event}
use Rattle.atl_records.specs.declared.records.Unit.{Unit}
use Rattle.atl_campaign.specs.Campaign.{CampaignValue}
use Rattle.atl_world.proofs.EveryLaws.{first, none_some, other_number}
use Rattle.atl_campaign.proofs.ReadBackLaws.{Rise, entries_rise}
use Rattle.atl_phase.specs.Month.{MonthValue}
use Rattle.atl_phase.specs.Unmailed.{IsLessBy, men_starved_by, starved_in}
use Rattle.atl_phase.proofs.UnmailedLaws.{ClosesUnmailed, LeavesUnmailed, men_same, whole_leaves}
use Rattle.atl_pots.proofs.PotLaws.{found_other}
use Rattle.atl_shares.specs.declared.upkeep_sharing.UpkeepInput.{UpkeepInput}
use Rattle.atl_shares.specs.declared.upkeep_sharing.UpkeepResult.{UpkeepResult}
use Rattle.atl_upkeep.specs.Season.{season_keeps, season_meaning}
use Rattle.atl_upkeep.specs.Sweep.{sweep_keeps, sweep_meaning}
use Rattle.atl_upkeep.specs.Upkeep.{starved_event, starves, upkeep_input_of, upkeep_inputs_of, upkeep_keeps, upkeep_meaning, upkeep_results}
use Rattle.atl_shares.specs.UpkeepSharing.{peers_of}
use Rattle.atl_upkeep.proofs.UpkeepLaws.{unit_after_upkeep, upkeep_result_each, upkeep_result_one}
use Rattle.atl_shares.proofs.UpkeepSharingLaws.{can_spare}
use Rattle.std.proofs.lemmas.Bool.Decides.{nat_tests}

-- ---- upkeep

-- after its upkeep a unit has its men less exactly those who starved (`IsLessBy`), if no more starved than it had
fewer_by : (s : UpkeepResult) (u : Unit) → s.starved ≤ u.holding.men → IsLessBy s.starved u (unit_after_upkeep s u)
fewer_by s u few =
    record { faction = refl; name = grind arith; men = grind (arith, nat_tests, few); items = λ i. grind arith }

-- how many men of unit `n` starve by one result of upkeep; 0 where the result is another unit's
abbrev starved_of_n : ℕ → UpkeepResult → ℕ
starved_of_n n s = if s.unit == n then s.starved else 0

-- `m` is the maintenance of each man, `all` are the units of the campaign, as upkeep reads them, and `n` is the number
-- of one unit
module _ (m : ℕ) (all : List UpkeepInput) (n : ℕ) where
  -- how many men of unit `n` starve by the upkeep of some units, where `all` are the units of the campaign
  abbrev starving : List (ℕ × Unit) → ℕ
  starving es = sum_by (starved_of_n n) (upkeep_result_each m all es)

  other_starving : (e : ℕ × Unit) (es : List (ℕ × Unit)) → e.0 ≢ n → starving (e ∷ es) ≡ starving es
  other_starving e es apart =
      let more = sum_by-cons (starved_of_n n) (upkeep_result_one m all (upkeep_input_of e)) (upkeep_result_each m all es) in
      grind (arith, more, other_number e.0 n apart)

  none_starving : (es : List (ℕ × Unit)) → AllByRecursion (λ e. n < e.0) es → starving es ≡ 0
  none_starving [] above = refl
  none_starving (e ∷ es) above = other_starving e es (λ same. omega (arith, above.0, same)) ∙ none_starving es above.1

  -- by the upkeep of units with rising numbers, unit `n` among them, those of `n` starve who starve by its own upkeep
  own_starving : (es : List (ℕ × Unit)) (u : Unit) → Rise es → find nat_cmp n es ≡ Some u
      → starving es ≡ (upkeep_result_one m all (upkeep_input_of (n, u))).starved
  own_starving [] u rise found = none_some u found
  own_starving ((k, v) ∷ es) u rise found = elim (cases_eq n k) [
    | inl own ↦
        let unit : v ≡ u = same_Some v u (sym (first (k, v) es) ∙ ap (λ j. find nat_cmp j ((k, v) ∷ es)) (sym own) ∙ found) in
        let mine : (upkeep_result_one m all (upkeep_input_of (k, v))).starved ≡ (upkeep_result_one m all (upkeep_input_of (n, u))).starved =
        (λ i. (upkeep_result_one m all (upkeep_input_of (sym own i, unit i))).starved) in
        let more = sum_by-cons (starved_of_n n) (upkeep_result_one m all (upkeep_input_of (k, v))) (upkeep_result_each m all es) in
        let rest = none_starving es (subst (λ j. AllByRecursion (λ e. j < e.0) es) (sym own) rise.0) in
        grind (arith, more, rest, mine, eq-eqb k n (sym own))
    | inr apart ↦ other_starving (k, v) es (λ same. apart (sym same)) ∙ own_starving es u rise.1 (sym (found_other (k, v) es n apart) ∙ found)
  ]

abbrev by_event : ℕ → Event → ℕ
by_event n e = if e.unit == n then men_starved_by e.verb e.outcome else 0

abbrev starved_reported : ℕ → List UpkeepResult → ℕ
starved_reported n ss = starved_in (map starved_event ss) n

starved_are_reported : (ss : List UpkeepResult) (n : ℕ)
    → starved_reported n (filter starves ss) ≡ sum_by (starved_of_n n) ss
starved_are_reported [] n = refl
starved_are_reported (s ∷ ss) n =
    by_test (starved_are_reported ss n) (s.starved == 0) refl ∙ sym (sum_by-cons (starved_of_n n) s ss)
  where
    by_test : starved_reported n (filter starves ss) ≡ sum_by (starved_of_n n) ss → (b : Bool) → (s.starved == 0) ≡ b
        → starved_reported n (cond (not b) (s ∷ filter starves ss) (filter starves ss))
        ≡ starved_of_n n s + sum_by (starved_of_n n) ss
    by_test rest true is = let none = is_equal s.starved 0 is in grind (arith, rest, none)
    by_test rest false is =
        sum_by-cons (by_event n) (starved_event s) (map starved_event (filter starves ss))
        ∙ ap (λ x. starved_of_n n s + x) rest

-- upkeep leaves units of factions without a mailing their items, and their men less the starved (`LeavesUnmailed`)
pub upkeep_leaves : LeavesUnmailed upkeep_meaning upkeep_keeps
upkeep_leaves = record {
  readings = λ w c m. refl;
  starved_reported = λ w c m n. omega (arith, starved_add_up w c m n);
  left = λ w c m keeps n u there none.
      let all = upkeep_inputs_of c in
      let p = upkeep_input_of (n, u) in
      let s = upkeep_result_one w.rules.maintenance all p in
      let own = own_starving w.rules.maintenance all n (entries c.units) u (entries_rise c.units) (sym (get-entries c.units n) ∙ there) in
      record {
        unit = unit_after_upkeep s u;
        there = keeps n u there;
        is_unaffected = subst (λ k. IsLessBy k u (unit_after_upkeep s u)) (omega (arith, own, starved_add_up w c m n))
            (fewer_by s u (can_spare w.rules.maintenance (peers_of u.region u.faction all) p).starved);
      };
}
  where
    men_starved : (w : WorldValue) (c : CampaignValue) (n : ℕ) → ℕ
    men_starved w c n = sum_by (starved_of_n n) (upkeep_results w c)

    starved_add_up : (w : WorldValue) (c : CampaignValue) (m : MonthValue) (n : ℕ)
        → starved_in (upkeep_meaning w c m).1.events n ≡ starved_in m.events n + men_starved w c n
    starved_add_up w c m n =
        sum_by-append (by_event n) m.events (map starved_event (filter starves (upkeep_results w c)))
        ∙ ap (λ x. starved_in m.events n + x) (starved_are_reported (upkeep_results w c) n)

-- ---- season and sweep

-- the season leaves units of factions without a mailing their items and all their men (`LeavesUnmailed`)
pub season_leaves : LeavesUnmailed season_meaning season_keeps
season_leaves =
    whole_leaves {meaning = season_meaning} {keeps = season_keeps} (λ w c m. refl) (λ w c m n. refl)
    (λ w c m same n u there none. men_same c (season_meaning w c m).0 same n u there)
    (λ w c m same n u there none. record { unit = u; there = ap (λ (units : FinMap nat_cmp Unit). get units n) same ∙ there; is_unaffected = record { name = refl; items = λ i. omega arith } })

-- the sweep leaves units of factions without a mailing that have men their items and their men, and removes those
-- without men (`ClosesUnmailed`)
pub sweep_leaves : ClosesUnmailed sweep_meaning sweep_keeps
sweep_leaves = record {
  starved_reported = λ w c m n. omega arith;
  left = λ w c m keeps n u there none. record {
    most = omega arith;
    fewer = λ some.
        let (v, after, kept) = (keeps n u there).kept (omega (arith, some)) in
        record { unit = v; there = after; is_unaffected = record { faction = kept.no_worse.faction; name = kept.no_worse.name; men = omega (arith, kept.men); items = kept.no_worse.items } };
    all = λ every. (keeps n u there).removed (omega (arith, every));
  };
}
