-- Laws that in a phase with pots a unit for which its own faction wrote no order gets nothing, and stays as it is. So
-- it is no worse off: it has the same faction, region, structure, name and guard flag, and no less men, money, items or
-- days. `p` is the phase, which begins in campaign `c` with the orders `os`, and `n` is the number of unit `u`.
use Rattle.std.proofs.Common.{◌≡◌, ◌≢◌, ◌==◌, ◌&&◌, ℕ, Bool, true, false, List, [], ◌∷◌, Some, refl, sym, ap, subst, ◌∙◌, arith}
use Rattle.std.specs.Prelude.{Result, Ok, Err, fold, option_map}
use Rattle.std.specs.List.{AllByRecursion, filter_map}
use Rattle.std.specs.Result.{result_ok}
use Rattle.std.specs.Ordering.{nat_cmp}
use Rattle.std.specs.FinMap.{FinMap, empty, entries, get, get-empty}
use Rattle.std.proofs.lemmas.Bool.{false≢true, or_parts}
use Rattle.std.proofs.lemmas.Bool.Decides.{nat_tests}
use Rattle.atl_world.specs.Worlds.{WorldValue}
use Rattle.atl_records.specs.declared.event.EventFault.{EventFault}
use Rattle.atl_records.specs.declared.records.Unit.{Unit}
use Rattle.atl_campaign.specs.Campaign.{CampaignValue}
use Rattle.atl_world.proofs.EveryLaws.{each-from_every, get-insert_other, none_some}
use Rattle.atl_phase.specs.PhaseOrders.{Task}
use Rattle.atl_phase.proofs.NoWorseLaws.{no_worse}
use Rattle.atl_pots.specs.Puts.{with_entry_if_some, with_entries}
use Rattle.atl_pots.proofs.PotLaws.{put_in_turn}
use Rattle.atl_market.specs.PotPhase.{PotMeaning, after_sharing, given_by, items_by, unit_for, want_by, wants_by}
use Rattle.atl_market.specs.Unordered.{OthersAreNoWorse, has_own_order}
use Rattle.atl_market.proofs.DrawLaws.{all_pairs}
use Rattle.atl_market.proofs.WantLaws.{GivesToWants, optional_entry_first, carries_out}

-- ---- units without an order want nothing

module _ (p : PotMeaning) (w : WorldValue) (c : CampaignValue) (n : ℕ) (u : Unit) (there : get c.units n ≡ Some u) where
  abbrev own : Task → Bool
  own o = o.unit == n && o.faction == u.faction

  no_order : (o : Task) → o.unit ≡ n → (u.faction == o.faction) ≡ true → own o ≡ false → ⊥
  no_order o unit faction is = false≢true (sym (clash o.unit n o.faction u.faction unit faction is))
    where
      clash : (a b f g : ℕ) → a ≡ b → (g == f) ≡ true → (a == b && f == g) ≡ false → true ≡ false
      clash a b f g same one none = grind (arith, nat_tests)

  unwanted_by : (m : FinMap nat_cmp ℕ) (o : Task) (r : Result Unit EventFault) → unit_for p w c o ≡ r → own o ≡ false
      → get (with_entry_if_some m (option_map (λ v. (o.unit, p.want w v o)) (result_ok r))) n ≡ get m n
  unwanted_by m o (Err f) is none = refl
  unwanted_by m o (Ok v) is none =
      let of = carries_out p w c o v is in
      get-insert_other m o.unit n (p.want w v o) (λ same.
      let one : Some v ≡ Some u = sym of.there ∙ ap (get c.units) (sym same) ∙ there in
      let unit : v ≡ u = cc in
      no_order o (sym same) (subst (λ (x : Unit). (x.faction == o.faction) ≡ true) unit of.own) none)

  unwanted : (m : FinMap nat_cmp ℕ) (os : List Task) → has_own_order os n u ≡ false
      → get (with_entries m (filter_map (want_by p w c) os)) n ≡ get m n
  unwanted m [] none = refl
  unwanted m (o ∷ os) none =
      let (first, rest) = or_parts _ _ none in
      ap (λ (k : FinMap nat_cmp ℕ). get k n) (optional_entry_first m (want_by p w c o) (filter_map (want_by p w c) os))
      ∙ unwanted (with_entry_if_some m (want_by p w c o)) os rest
      ∙ unwanted_by m o (unit_for p w c o) refl first

  not_given : GivesToWants p w c → (os : List Task) → has_own_order os n u ≡ false → (share : ℕ)
      → get (given_by p w c os) n ≡ Some share → ⊥
  not_given gives os none share is =
      let (want, wanted, low) = gives (items_by p w c os) (wants_by p w c os) n share is in
      none_some want (sym (get-empty nat_cmp n) ∙ sym (unwanted empty os none) ∙ ap (λ (m : FinMap nat_cmp ℕ). get m n) (put_in_turn (filter_map (want_by p w c) os)) ∙ wanted)

-- ---- units without an order stay as they are

-- `step` is for the unit of a pair (unit, share), and leaves every other unit as it is (`others`)
module _ (step : CampaignValue → ℕ × ℕ → CampaignValue) (others : (c : CampaignValue) (e : ℕ × ℕ) (k : ℕ) → k ≢ e.0 → get (step c e).units k ≡ get c.units k) where
  -- steps that each change their own unit alone leave a unit that none of them is for as it is
  pub passed_over : (c : CampaignValue) (es : List (ℕ × ℕ)) (n : ℕ) → AllByRecursion (λ e. n ≢ e.0) es
      → get (fold step c es).units n ≡ get c.units n
  passed_over c [] n apart = refl
  passed_over c (e ∷ es) n apart = passed_over (step c e) es n apart.1 ∙ others c e n apart.0

-- A phase with pots leaves a unit without an order of its own faction as it was. This supposes that it gives only to
-- units with a want, at most the want (`GivesToWants`), and that each payment changes its own unit alone.
pub without_order_stays : (p : PotMeaning) (w : WorldValue)
    → ((items : FinMap nat_cmp ℕ) (c : CampaignValue) (e : ℕ × ℕ) (k : ℕ) → k ≢ e.0 → get (p.paid items w c e).units k ≡ get c.units k)
    → (c : CampaignValue) → GivesToWants p w c → (os : List Task) (n : ℕ) (u : Unit) → get c.units n ≡ Some u
    → has_own_order os n u ≡ false → get (after_sharing p w c os).units n ≡ get c.units n
unfolding after_sharing
without_order_stays p w others c gives os n u there none =
    let given = given_by p w c os in
    let apart = each-from_every (λ k share. n ≢ k) given (λ k share is same. not_given p w c n u there gives os none share (ap (get given) same ∙ is)) in
    passed_over (p.paid (items_by p w c os) w) (others (items_by p w c os)) c (entries given) n (all_pairs (λ e. n ≢ e.0) (entries given) apart)

-- A phase with pots leaves units without an order of their own faction no worse off. This supposes that it gives only
-- to units with a want, at most the want (`GivesToWants`), and that each payment changes its own unit alone.
pub others_no_worse : (p : PotMeaning) (w : WorldValue)
    → ((items : FinMap nat_cmp ℕ) (c : CampaignValue) (e : ℕ × ℕ) (k : ℕ) → k ≢ e.0 → get (p.paid items w c e).units k ≡ get c.units k)
    → (c : CampaignValue) → GivesToWants p w c → (os : List Task) → OthersAreNoWorse os c (after_sharing p w c os)
others_no_worse p w others c gives os n u there none =
    (u, without_order_stays p w others c gives os n u there none ∙ there, no_worse u)
