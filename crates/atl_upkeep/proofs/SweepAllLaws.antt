-- Laws of the whole sweep: each unit then has men, factions without units are gone, and nothing is taken from units
-- with men. Sweeping a unit removes it if it has no men; sweeping a faction sets it to gone if it has no unit. `c` is
-- the campaign before, and nothing is taken from a unit if it is no worse off and keeps its men and their days
-- (`IsKept`).
use Rattle.std.proofs.Common.{◌≡◌, ◌≢◌, ◌==◌, ℕ, ◌≤◌, not, Bool, true, false, List, [], ◌∷◌, length, filter, Option, Some, None, refl, sym, ap, subst, ◌∙◌, inl, inr, arith}
use Rattle.std.specs.Prelude.{pos, fold, if◌then◌else◌}
use Rattle.std.proofs.lemmas.Bool.Decides.{nat_tests}
use Rattle.std.proofs.lemmas.Bool.{cases_eq, true_from_ne_false}
use Rattle.std.proofs.lemmas.Option.{same_Some}
use Rattle.std.specs.Option.{option_map_or}
use Rattle.std.specs.Ordering.{nat_cmp}
use Rattle.std.specs.FinMap.{FinMap, entries, get, len-entries}
use Rattle.atl_world.specs.Worlds.{WorldValue}
use Rattle.atl_world.specs.Limits.{most_amount}
use Rattle.atl_world.proofs.GeneralLaws.{is_equal, is_unequal}
use Rattle.atl_records.specs.Books.{amount_in}
use Rattle.atl_records.specs.declared.books.BooksEntry.{BooksEntry}
use Rattle.atl_records.specs.declared.books.Thing.{Thing}
use Rattle.atl_records.specs.declared.records.Faction.{Faction}
use Rattle.atl_records.specs.declared.records.Unit.{Unit}
use Rattle.atl_world.specs.Every.{Every}
use Rattle.atl_campaign.specs.Good.{HaveMen, IsSteady, UnitlessAreGone}
use Rattle.atl_campaign.specs.Owners.{without_unit}
use Rattle.atl_campaign.specs.Campaign.{CampaignValue, active, numbers_of_faction, with_gone}
use Rattle.atl_world.proofs.EveryLaws.{none_some}
use Rattle.atl_phase.specs.Meaning.{LeavesWell, both_move, most_moved}
use Rattle.atl_phase.specs.Bounds.{moved_times}
use Rattle.atl_phase.proofs.MeaningLaws.{both_leave_well, fold_leaves_well, near_same, same_month_among, well_unchanged, well_within}
use Rattle.atl_upkeep.specs.Sweep.{IsKept, IsSweptUnit, after_passing_all, after_sweeping_faction, after_sweeping_unit, is_empty, loses_by, menless_units, receiver, sweep, IsSwept}
use Rattle.atl_campaign.proofs.NumberListLaws.{IsListed, passing_listed}
use Rattle.atl_campaign.proofs.GoneFactionLaws.{as_gone, count-gone, get-gone, get-gone_other, known-gone, none-gone, steady-gone, total-gone}
use Rattle.atl_upkeep.proofs.PassingLaws.{kept-refl, kept-trans}
use Rattle.atl_upkeep.proofs.SweepLaws.{others_keep, others_were, swept_leaves_well}
use Rattle.atl_records.specs.Limits.{most_units}
use Rattle.atl_phase.specs.Unbooked.{moves_nothing}
use Rattle.std.proofs.lemmas.List.{length-map}
use Rattle.std.proofs.lemmas.List.Sums.{count_by-le-length, length-filter}

-- ---- one unit

-- `n` is the number of the unit that is swept
module _ (c : CampaignValue) (n : ℕ) where
  -- P holds of the campaign after sweeping unit `n`, if it holds in each case. Where no unit `n` without men is there,
  -- nothing changes; else unit `n` passes on what it has and is removed.
  by_sweeping : (P : CampaignValue → Type 0) → (((u : Unit) → get c.units n ≡ Some u → u.holding.men ≢ 0) → P c)
      → ((u : Unit) → get c.units n ≡ Some u → u.holding.men ≡ 0 → P (without_unit (after_passing_all c (receiver c u.region u.faction) u) n))
      → P (after_sweeping_unit c n)
  unfolding after_sweeping_unit
  by_sweeping P stays swept = by_unit (get c.units n) refl
    where
      by_men : (u : Unit) → get c.units n ≡ Some u → (b : Bool) → (u.holding.men == 0) ≡ b
          → P (if b then without_unit (after_passing_all c (receiver c u.region u.faction) u) n else c)
      by_men u is true t = swept u is (is_equal u.holding.men 0 t)
      by_men u is false t =
          stays
          (λ v there none. is_unequal u.holding.men 0 t (ap (λ (x : Unit). x.holding.men) (same_Some u v (sym is ∙ there)) ∙ none))

      by_unit : (o : Option Unit) → get c.units n ≡ o
          → P (option_map_or (λ u. if u.holding.men == 0 then without_unit (after_passing_all c (receiver c u.region u.faction) u) n else c) o c)
      by_unit None is = stays (λ v there. none_some v (sym is ∙ there))
      by_unit (Some u) is = by_men u is (u.holding.men == 0) refl

-- `n` is the number of the unit that is swept, and `c` is the steady campaign before that
module _ (w : WorldValue) (c : CampaignValue) (n : ℕ) (steady : IsSteady w c) where
  -- Sweeping unit `n` keeps a steady campaign steady and of the same month, and its books balanced (`LeavesWell`). It
  -- books at most 999,999,999 of money and of each item as lost, and nothing else.
  pub swept_at_leaves_well : LeavesWell IsSteady (loses_by most_amount) w c (after_sweeping_unit c n)
  swept_at_leaves_well =
      by_sweeping c n (LeavesWell IsSteady (loses_by most_amount) w c) (λ some. well_unchanged (loses_by most_amount) w c steady)
      (λ u is none. swept_leaves_well w c n u is none steady)

  -- each unit that had men before is in campaign `d`, and nothing is taken from it
  abbrev UnitsWithMenAreKept : CampaignValue → Type 0
  UnitsWithMenAreKept d = Every (λ m x. 1 ≤ x.holding.men → (v : Unit) × (get d.units m ≡ Some v) × IsKept x v) c.units

  -- after sweeping unit `n` each unit with men is there, and nothing is taken from it
  pub swept_at_keeps : UnitsWithMenAreKept (after_sweeping_unit c n)
  swept_at_keeps =
      by_sweeping c n UnitsWithMenAreKept (λ stays m x there some. (x, there, kept-refl x))
      (λ u is none m x there some.
      others_keep w c n u is none steady m x there (λ own.
      let men = ap (λ (y : Unit). y.holding.men) (same_Some x u (sym there ∙ ap (get c.units) own ∙ is)) in
      absurd (omega (arith, men, none, some))))

  -- each unit of campaign `d` was there before, and nothing was taken from it; if it has no men, it isn't unit `n`
  abbrev WereThere : CampaignValue → Type 0
  WereThere d =
      Every (λ m v. (v.holding.men ≡ 0 → m ≢ n) × ((x : Unit) × (get c.units m ≡ Some x) × IsKept x v)) d.units

  -- each unit that is left after sweeping unit `n` was there before, and nothing was taken from it; if it has no men,
  -- it isn't unit `n`
  pub units_left_were_there : WereThere (after_sweeping_unit c n)
  units_left_were_there =
      by_sweeping c n WereThere (λ some m v there. (λ none own. some v (ap (get c.units) (sym own) ∙ there) none, (v, there, kept-refl v)))
      (λ u is none m v there. let (apart, was) = others_were w c n u is none steady m v there in (λ bare. apart, was))

-- ---- all units

abbrev AreMenlessListed : List ℕ → CampaignValue → Type 0
AreMenlessListed ns c = Every (λ m v. v.holding.men ≡ 0 → IsListed m ns) c.units

listed_later : (m n : ℕ) (ns : List ℕ) → m ≢ n → IsListed m (n ∷ ns) → IsListed m ns
listed_later m n ns apart (inl same) = absurd (apart same)
listed_later m n ns apart (inr rest) = rest

-- below, `ns` are the numbers of the units that are swept, in turn, and `c` is the campaign before that
module _ (w : WorldValue) where
  -- in a steady campaign, once the listed units were swept, among them all units without men, each unit has men
  pub all_have_men : (ns : List ℕ) (c : CampaignValue) → IsSteady w c → AreMenlessListed ns c
      → HaveMen (fold after_sweeping_unit c ns)
  all_have_men [] c steady listed = λ m v there. let some : v.holding.men ≢ 0 = listed m v there in omega arith
  all_have_men (n ∷ ns) c steady listed =
      all_have_men ns (after_sweeping_unit c n) (swept_at_leaves_well w c n steady).leaves_it (λ m v there none.
      let (apart, (x, was, kept)) = units_left_were_there w c n steady m v there in
      listed_later m n ns (apart none) (listed m x was (sym kept.men ∙ none)))

  -- in a steady campaign, after several units were swept, each unit that had men is there, and nothing is taken from it
  pub all_keep : (ns : List ℕ) (c : CampaignValue) → IsSteady w c
      → Every (λ m x. 1 ≤ x.holding.men → (v : Unit) × (get (fold after_sweeping_unit c ns).units m ≡ Some v) × IsKept x v) c.units
  all_keep [] c steady m x there some = (x, there, kept-refl x)
  all_keep (n ∷ ns) c steady m x there some =
      let (v, here, kept) = swept_at_keeps w c n steady m x there some in
      let (y, after, more) = all_keep ns (after_sweeping_unit c n) (swept_at_leaves_well w c n steady).leaves_it m v here (omega (arith, kept.men, some)) in
      (y, after, kept-trans x v y kept more)

  -- in a steady campaign, after several units were swept each unit that is left was there, and nothing was taken from
  -- it (`IsKept`)
  pub all_were : (ns : List ℕ) (c : CampaignValue) → IsSteady w c
      → Every (λ m v. (x : Unit) × (get c.units m ≡ Some x) × IsKept x v) (fold after_sweeping_unit c ns).units
  all_were [] c steady m v there = (v, there, kept-refl v)
  all_were (n ∷ ns) c steady m v there =
      let (y, here, more) = all_were ns (after_sweeping_unit c n) (swept_at_leaves_well w c n steady).leaves_it m v there in
      let (apart, (x, was, kept)) = units_left_were_there w c n steady m y here in
      (x, was, kept-trans x y v kept more)

-- ---- factions

-- `n` is the number of the faction that is swept
module _ (c : CampaignValue) (n : ℕ) where
  -- P holds of the campaign after sweeping faction `n`, if it holds in each case. Where the faction isn't there or has
  -- a unit, nothing changes; else the faction is gone.
  by_gone : (P : CampaignValue → Type 0)
      → (((f : Faction) → get c.factions n ≡ Some f → numbers_of_faction n c.units ≢ []) → P c)
      → ((f : Faction) → get c.factions n ≡ Some f → numbers_of_faction n c.units ≡ [] → P (with_gone c n))
      → P (after_sweeping_faction c n)
  by_gone P stays gone = by_units (numbers_of_faction n c.units) refl
    where
      by_faction : numbers_of_faction n c.units ≡ [] → (o : Option Faction) → get c.factions n ≡ o → P (with_gone c n)
      by_faction none None is = subst P (sym (none-gone c n is)) (stays (λ f there. none_some f (sym is ∙ there)))
      by_faction none (Some f) is = gone f is none

      by_units : (ns : List ℕ) → numbers_of_faction n c.units ≡ ns → P (if is_empty ns then with_gone c n else c)
      by_units [] is = by_faction is (get c.factions n) refl
      by_units (k ∷ ns) is = stays (λ f there none. let one : k ∷ ns ≡ [] = sym is ∙ none in cc)

  -- sweeping a faction changes no unit
  pub gone_at_units : (after_sweeping_faction c n).units ≡ c.units
  gone_at_units = by_gone (λ d. d.units ≡ c.units) (λ some. refl) (λ f is none. refl)

  -- sweeping a faction keeps a steady campaign steady, its month and its balance, and books nothing (`LeavesWell`)
  pub gone_at_leaves_well : (w : WorldValue) → IsSteady w c
      → LeavesWell IsSteady moves_nothing w c (after_sweeping_faction c n)
  gone_at_leaves_well w steady = by_gone (LeavesWell IsSteady moves_nothing w c) (λ some. well_unchanged moves_nothing w c steady) (λ f is none. record {
    leaves_it = steady-gone c n f is w none steady;
    same_month = same_month_among refl (count-gone c n f is) (known-gone c n f is);
    balances = λ old t. ap pos (total-gone c n t) ∙ old t;
    near = λ e t. near_same 0 (amount_in c.books e t);
  })

  -- each faction of campaign `d` that has no unit, and isn't gone, was there before as it is now, and isn't faction `n`
  abbrev OthersRemain : CampaignValue → Type 0
  OthersRemain d =
      Every (λ m f. numbers_of_faction m c.units ≡ [] → f.gone ≡ false → (m ≢ n) × (get c.factions m ≡ Some f))
      d.factions

  -- after faction `n` was swept, each faction that has no unit and isn't gone is another one, and is as it was before
  pub gone_at_remains : OthersRemain (after_sweeping_faction c n)
  gone_at_remains =
      by_gone OthersRemain
      (λ some m f there none stays. (λ own. some f (ap (get c.factions) (sym own) ∙ there) (ap (λ k. numbers_of_faction k c.units) (sym own) ∙ none), there))
      (λ x is bare m f there none stays. elim (cases_eq m n) [
        | inl own ↦
            let one : Some (as_gone x) ≡ Some f = sym (get-gone c n x is) ∙ ap (get (with_gone c n).factions) (sym own) ∙ there in
            let gone : true ≡ false = ap (λ (y : Faction). y.gone) (same_Some (as_gone x) f one) ∙ stays in
            absurd (cc)
        | inr apart ↦ (apart, sym (get-gone_other c n x is m apart) ∙ there)
      ])

abbrev AreUnitlessListed : List ℕ → CampaignValue → Type 0
AreUnitlessListed ns c = Every (λ m f. numbers_of_faction m c.units ≡ [] → f.gone ≡ false → IsListed m ns) c.factions

all_are_gone : (ns : List ℕ) (c : CampaignValue) → AreUnitlessListed ns c
    → UnitlessAreGone (fold after_sweeping_faction c ns)
all_are_gone [] c listed = λ m f there none. true_from_ne_false f.gone (listed m f there none)
all_are_gone (n ∷ ns) c listed =
    all_are_gone ns (after_sweeping_faction c n) (λ m f there none stays.
    let here : numbers_of_faction m c.units ≡ [] = ap (numbers_of_faction m) (sym (gone_at_units c n)) ∙ none in
    let (apart, was) = gone_at_remains c n m f there here stays in
    listed_later m n ns apart (listed m f was here stays))

units_stay : (ns : List ℕ) (c : CampaignValue) → (fold after_sweeping_faction c ns).units ≡ c.units
units_stay [] c = refl
units_stay (n ∷ ns) c = units_stay ns (after_sweeping_faction c n) ∙ gone_at_units c n

-- ---- the phase

-- the sweeps of `k` units, at most 100,000, lose less than 10^14 of money and of each item, and book nothing else
pub loses_little : (k : ℕ) → k ≤ most_units → (e : BooksEntry) (t : Thing)
    → moved_times k (loses_by most_amount) e t ≤ loses_by most_moved e t
loses_little k few e t = grind arith

-- a steady campaign has at most 100,000 units without men
pub few_menless : (w : WorldValue) (c : CampaignValue) → IsSteady w c → length (menless_units c) ≤ most_units
few_menless w c steady =
    let menless = λ (e : ℕ × Unit). e.1.holding.men == 0 in
    let es = entries c.units in
    omega (arith, length-map (filter menless es) (λ (e : ℕ × Unit). e.0), length-filter menless es, count_by-le-length menless es, len-entries c.units, steady.numbers.few_units)

-- `c` is the steady campaign as the phase begins
module _ (w : WorldValue) (c : CampaignValue) (steady : IsSteady w c) where
  abbrev units_swept : CampaignValue
  units_swept = fold after_sweeping_unit c (menless_units c)

  units_well : LeavesWell IsSteady (loses_by most_moved) w c units_swept
  units_well =
      well_within (moved_times (length (menless_units c)) (loses_by most_amount)) (loses_by most_moved) w c units_swept (loses_little (length (menless_units c)) (few_menless w c steady))
      (fold_leaves_well (loses_by most_amount) w after_sweeping_unit (λ d n. swept_at_leaves_well w d n) c (menless_units c) steady)

  factions_well : LeavesWell IsSteady moves_nothing w units_swept (sweep c)
  factions_well =
      well_within (moved_times (length (active units_swept)) moves_nothing) moves_nothing w units_swept (sweep c) (λ e t. omega arith)
      (fold_leaves_well moves_nothing w after_sweeping_faction (λ d n. gone_at_leaves_well d n w) units_swept (active units_swept) units_well.leaves_it)

  both_well : LeavesWell IsSteady (loses_by most_moved) w c (sweep c)
  both_well =
      well_within (both_move (loses_by most_moved) moves_nothing) (loses_by most_moved) w c (sweep c) (λ e t. omega arith)
      (both_leave_well (loses_by most_moved) moves_nothing w c units_swept (sweep c) units_well factions_well)

  have_men : HaveMen (sweep c)
  have_men =
      subst (λ (units : FinMap nat_cmp Unit). Every (λ n u. 1 ≤ u.holding.men) units) (sym (units_stay (active units_swept) units_swept))
      (all_have_men w (menless_units c) c steady (λ m v there none. passing_listed (λ (u : Unit). u.holding.men == 0) c.units m v there (let t : (v.holding.men == 0) ≡ true = grind (arith, nat_tests) in t)))

  are_gone : UnitlessAreGone (sweep c)
  are_gone =
      all_are_gone (active units_swept) units_swept
      (λ m f there none stays. passing_listed (λ (x : Faction). not x.gone) units_swept.factions m f there (ap not stays))

  -- After the sweep of a steady campaign it is steady, each unit has men, and each faction without units is gone
  -- (`IsSwept`). The month stays, books that balanced still do, and Lost of money and of each item moves by less than
  -- 10^14, and nothing else (`LeavesWell`).
  pub sweep_leaves_well : LeavesWell IsSwept (loses_by most_moved) w c (sweep c)
  sweep_leaves_well = record {
    leaves_it = record { steady = both_well.leaves_it; men = have_men; gone = are_gone };
    same_month = both_well.same_month;
    balances = both_well.balances;
    near = both_well.near;
  }

  -- the units after the sweep are those that are left once the units without men were swept
  swept_at : (n : ℕ) → get (sweep c).units n ≡ get units_swept.units n
  swept_at n = ap (λ (units : FinMap nat_cmp Unit). get units n) (units_stay (active units_swept) units_swept)

  -- after the sweep each unit that had men is there, and nothing is taken from it; each unit without men is removed
  pub sweep_keeps_all : Every (IsSweptUnit (sweep c)) c.units
  sweep_keeps_all n u is = record {
    kept = λ some. let (v, there, kept) = all_keep w (menless_units c) c steady n u is some in (v, swept_at n ∙ there, kept);
    removed = λ none. by_unit none (get (sweep c).units n) refl;
  }
    where
      -- for `sweep_keeps_all`: a unit that had no men isn't there, since each unit that is there has men, which it had
      by_unit : u.holding.men ≡ 0 → (o : Option Unit) → get (sweep c).units n ≡ o → o ≡ None
      by_unit none None there = refl
      by_unit none (Some v) there =
          let (x, was, kept) = all_were w (menless_units c) c steady n v (sym (swept_at n) ∙ there) in
          let men = ap (λ (y : Unit). y.holding.men) (same_Some x u (sym was ∙ is)) in
          absurd (omega (arith, have_men n v there, kept.men, men, none))
