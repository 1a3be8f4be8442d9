-- Laws that each unit which gets something of a pot has an order without a fault, and gets at most what it wants by the
-- order. `n` is the number of a unit, `want` how much it wants, `share` how much it gets, and `items` has by unit the
-- item that its order names. `m` is a map, and `es` are entries, pairs (number, value), that are put into it.
use Rattle.std.proofs.Common.{◌≡◌, ◌≢◌, ℕ, ◌==◌, ◌<◌, ◌≤◌, Bool, true, false, cond, List, [], ◌∷◌, ◌++◌, length, Option, Some, None, is_some, refl, sym, ap, subst, ◌∙◌, inl, inr, arith}
use Rattle.std.specs.Prelude.{Result, Ok, Err, is_ok, option_map}
use Rattle.std.specs.List.{AllByRecursion, IsDistinct, cons_option, filter_map}
use Rattle.std.specs.Result.{result_ok}
use Rattle.std.specs.Map.{keys_of}
use Rattle.std.specs.Ordering.{nat_cmp, eq_by_cmp}
use Rattle.std.specs.Cmp.{nat_cmp_total, eq_by_cmp_equiv, unsigned_ties}
use Rattle.std.specs.FinMap.{FinMap, contains_key-keys, empty, entries, get, get-entries, insert, len, len-entries, nat_cmp-IsAntisymmetric}
use Rattle.std.proofs.lemmas.Bool.{cases_eq, false≢true}
use Rattle.std.proofs.lemmas.Option.{same_Some}
use Rattle.std.proofs.lemmas.List.Sums.{fold-append}
use Rattle.std.proofs.lemmas.Bool.Decides.{nat_tests}
use Rattle.std.proofs.lemmas.Map.Entries.{length-keys_of}
use Rattle.std.proofs.lemmas.Map.Steps.{length-le_from_keys}
use Rattle.atl_world.specs.Limits.{most_amount}
use Rattle.atl_world.specs.Worlds.{WorldValue}
use Rattle.atl_records.specs.declared.event.EventFault.{EventFault}
use Rattle.atl_records.specs.declared.records.Unit.{Unit}
use Rattle.atl_world.specs.Every.{Every}
use Rattle.atl_campaign.specs.Campaign.{CampaignValue}
use Rattle.atl_campaign.proofs.ReadBackLaws.{Rise, entries_rise}
use Rattle.atl_world.proofs.EveryLaws.{every-empty, every-insert, get-insert_other, none_some}
use Rattle.atl_campaign.proofs.RegionLaws.{get-insert_same}
use Rattle.atl_phase.specs.PhaseOrders.{Task}
use Rattle.atl_phase.specs.OrderEffects.{of_faction}
use Rattle.atl_phase.proofs.MapOfListLaws.{find_is}
use Rattle.atl_pots.proofs.PotLaws.{put_in_turn}
use Rattle.atl_pots.specs.Pots.{AreWants}
use Rattle.atl_pots.specs.Puts.{with_entry_if_some, with_entries}
use Rattle.atl_market.specs.PotPhase.{PotMeaning, carrier_of, given_by, item_by, item_in, items_by, unit_for, unless_fault, want_by, wants_by}

-- a phase gives only to units with a want, and to none more than it wants
abbrev pub GivesToWants : PotMeaning → WorldValue → CampaignValue → Type 0
GivesToWants p w c =
    (items wants : FinMap nat_cmp ℕ) (n share : ℕ) → get (p.grants items w c wants) n ≡ Some share
    → (want : ℕ) × (get wants n ≡ Some want) × (share ≤ want)

pub appended_entries : {V : Type 0} (m : FinMap nat_cmp V) (es fs : List (ℕ × V))
    → with_entries m (es ++ fs) ≡ with_entries (with_entries m es) fs
appended_entries m es fs = fold-append (λ so_far entry. insert so_far entry.0 entry.1) m es fs

-- putting in a list with an optional entry ahead is putting in the entry, if there is one, and then the list
pub optional_entry_first : {V : Type 0} (m : FinMap nat_cmp V) (o : Option (ℕ × V)) (es : List (ℕ × V))
    → with_entries m (cons_option o es) ≡ with_entries (with_entry_if_some m o) es
optional_entry_first m None es = refl
optional_entry_first m (Some e) es = refl

-- what holds of each entry of a map, and of each of some entries, holds after these are put into the map
pub every-with_each : (P : ℕ → ℕ → Type 0) (m : FinMap nat_cmp ℕ) (es : List (ℕ × ℕ))
    → AllByRecursion (λ e. P e.0 e.1) es → Every P m → Every P (with_entries m es)
every-with_each P m [] each old = old
every-with_each P m (e ∷ es) each old =
    every-with_each P (insert m e.0 e.1) es each.1 (every-insert P m e.0 e.1 each.0 old)

-- wants stay at most 999,999,999 if one more of at most that is put in
pub one_want : (m : FinMap nat_cmp ℕ) (n want : ℕ) → want ≤ most_amount → AreWants m → AreWants (insert m n want)
one_want m n want low old = every-insert (λ number want. want ≤ most_amount) m n want low old

differs : (k n : ℕ) → k < n → eq_by_cmp nat_cmp k n ≡ false
differs k n l = sym (unsigned_ties k n) ∙ (let t : (k == n) ≡ false = grind (arith, nat_tests) in t)

rise_apart : (es : List (ℕ × ℕ)) → Rise es → IsDistinct (eq_by_cmp nat_cmp) (keys_of es)
unfolding IsDistinct
rise_apart [] h = tt
rise_apart (e ∷ es) h = (others e.0 es h.0, rise_apart es h.1)
  where
    others : (k : ℕ) (es : List (ℕ × ℕ)) → AllByRecursion (λ f. k < f.0) es
        → AllByRecursion (λ n. eq_by_cmp nat_cmp k n ≡ false) (keys_of es)
    others k [] h = tt
    others k (f ∷ es) h = (differs k f.0 h.0, others k es h.1)

-- `p` is a phase with pots that begins in campaign `c`
module _ (p : PotMeaning) (w : WorldValue) (c : CampaignValue) where
  -- Some order for unit `n` has no fault and wants `want`, and the item that it names, if any, is `n`'s in `items`.
  abbrev IsWanted : FinMap nat_cmp ℕ → ℕ → ℕ → Type 0
  IsWanted items n want =
      (u : Unit) × (t : Task) × (get c.units n ≡ Some u) × (t.unit ≡ n) × (want ≡ p.want w u t) × (p.fault w u t ≡ None) × ((i : ℕ) → item_in t.order_value.operands ≡ Some i → get items n ≡ Some i)

  -- unit `u` carries order `t` out: it is there, its own faction wrote the order, and there is no fault
  pub record CarriesOut (t : Task) (u : Unit) : Type 0 where
    pub there : get c.units t.unit ≡ Some u
    pub own : (u.faction == t.faction) ≡ true
    pub no_fault : p.fault w u t ≡ None

  -- the unit that is found for an order (`unit_for`) carries it out
  pub carries_out : (t : Task) (u : Unit) → unit_for p w c t ≡ Ok u → CarriesOut t u
  unfolding unit_for
  carries_out t u is = by_unit (get c.units t.unit) refl is
    where
      by_fault : (v : Unit) → get c.units t.unit ≡ Some v → (v.faction == t.faction) ≡ true → (f : Option EventFault)
          → p.fault w v t ≡ f → unless_fault f v ≡ Ok u → CarriesOut t u
      by_fault v at own (Some f) fault h = none_some u (ap result_ok h)
      by_fault v at own None fault h =
          subst (CarriesOut t) (same_Some _ _ (ap result_ok h)) (record { there = at; own = own; no_fault = fault })

      by_test : (v : Unit) → get c.units t.unit ≡ Some v → (b : Bool) → (v.faction == t.faction) ≡ b
          → carrier_of p w c t (cond b (Some v) None) ≡ Ok u → CarriesOut t u
      by_test v at true own h = by_fault v at own (p.fault w v t) refl h
      by_test v at false own h = none_some u (ap result_ok h)

      -- for `carries_out`: the unit `u` that `carrier_of` returns for the unit with the order's number (`o`) carries
      by_unit : (o : Option Unit) → get c.units t.unit ≡ o → carrier_of p w c t (of_faction t.faction o) ≡ Ok u
          → CarriesOut t u
      by_unit None at h = none_some u (ap result_ok h)
      by_unit (Some v) at h = by_test v at (v.faction == t.faction) refl h

  -- by unit, `m` has the wants and `items` the items that the orders ahead of order `t` put in
  module _ (m items : FinMap nat_cmp ℕ) (t : Task) where
    abbrev wanting : Result Unit EventFault → Option (ℕ × ℕ)
    wanting r = option_map (λ u. (t.unit, p.want w u t)) (result_ok r)

    abbrev named : Option ℕ → Option (ℕ × ℕ)
    named s = option_map (λ i. (t.unit, i)) s

    item_put : (s : Option ℕ) (i : ℕ) → s ≡ Some i → get (with_entry_if_some items (named s)) t.unit ≡ Some i
    item_put s i is = ap (λ o. get (with_entry_if_some items (named o)) t.unit) is ∙ get-insert_same items t.unit i

    item_elsewhere : (s : Option ℕ) (n : ℕ) → n ≢ t.unit → get (with_entry_if_some items (named s)) n ≡ get items n
    item_elsewhere None n apart = refl
    item_elsewhere (Some i) n apart = get-insert_other items t.unit n i apart

    -- if each want in map `m` is of an order without a fault (`IsWanted`), so is each once order `t` put its want and
    -- item into the maps
    wanted_by : (r : Result Unit EventFault) → unit_for p w c t ≡ r → Every (IsWanted items) m
        → Every (IsWanted (with_entry_if_some items (cond (is_ok r) (named (item_in t.order_value.operands)) None))) (with_entry_if_some m (wanting r))
    wanted_by (Err f) is old = old
    wanted_by (Ok u) is old = λ n want there. elim (cases_eq n t.unit) [
      | inl same ↦
          let of = carries_out t u is in
          let mine : Some (p.want w u t) ≡ Some want = sym (get-insert_same m t.unit (p.want w u t)) ∙ ap (get (insert m t.unit (p.want w u t))) (sym same) ∙ there in (
            u,
            t,
            ap (get c.units) same ∙ of.there,
            sym same,
            sym (same_Some _ _ mine),
            of.no_fault,
            λ i is_i. ap (get (with_entry_if_some items (named (item_in t.order_value.operands)))) same ∙ item_put (item_in t.order_value.operands) i is_i,
          )
      | inr apart ↦
          let (v, o, here, own, wanted, fine, names) = old n want (sym (get-insert_other m t.unit n (p.want w u t) apart) ∙ there) in
          (v, o, here, own, wanted, fine, λ i is_i. item_elsewhere (item_in t.order_value.operands) n apart ∙ names i is_i)
    ]

  all_wanted : (m items : FinMap nat_cmp ℕ) (ts : List Task) → Every (IsWanted items) m
      → Every (IsWanted (with_entries items (filter_map (item_by p w c) ts))) (with_entries m (filter_map (want_by p w c) ts))
  all_wanted m items [] old = old
  all_wanted m items (t ∷ ts) old =
      subst (λ k. Every (IsWanted k) (with_entries m (filter_map (want_by p w c) (t ∷ ts)))) (sym (optional_entry_first items (item_by p w c t) (filter_map (item_by p w c) ts)))
      (subst (Every (IsWanted (with_entries (with_entry_if_some items (item_by p w c t)) (filter_map (item_by p w c) ts)))) (sym (optional_entry_first m (want_by p w c t) (filter_map (want_by p w c) ts)))
      (all_wanted (with_entry_if_some m (want_by p w c t)) (with_entry_if_some items (item_by p w c t)) ts (wanted_by m items t (unit_for p w c t) refl old)))

  wants_are_wanted : (ts : List Task) → Every (IsWanted (items_by p w c ts)) (wants_by p w c ts)
  wants_are_wanted ts =
      subst (Every (IsWanted (items_by p w c ts))) (put_in_turn (filter_map (want_by p w c) ts))
      (subst (λ k. Every (IsWanted k) (with_entries empty (filter_map (want_by p w c) ts))) (put_in_turn (filter_map (item_by p w c) ts)) (all_wanted empty empty ts (every-empty (IsWanted empty))))

  -- the phase gives only to units with a want, and to none more than it wants
  module _ (gives : GivesToWants p w c) where
    -- Each unit that gets something is there, and wants at least as much by some order without a fault that is for it.
    -- If that order names an item, this is the item listed for the unit (`items_by`).
    pub given_is_named : (ts : List Task) →
        Every (λ n share. (u : Unit) × (t : Task) × (get c.units n ≡ Some u) × (t.unit ≡ n) × (share ≤ p.want w u t) × (p.fault w u t ≡ None) × ((i : ℕ) → item_in t.order_value.operands ≡ Some i → get (items_by p w c ts) n ≡ Some i)) (given_by p w c ts)
    given_is_named ts n share is =
        let (want, wanted, low) = gives (items_by p w c ts) (wants_by p w c ts) n share is in
        let (u, t, there, own, same, fine, named) = wants_are_wanted ts n want wanted in
        (u, t, there, own, subst (λ k. share ≤ k) same low, fine, named)

    -- each unit that gets something is there, and gets at most what it wants by some order that is for it
    pub given_is_wanted : (ts : List Task)
        → Every (λ n share. (u : Unit) × (t : Task) × (get c.units n ≡ Some u) × (t.unit ≡ n) × (share ≤ p.want w u t)) (given_by p w c ts)
    given_is_wanted ts n share is = let (u, t, there, own, low, fine, named) = given_is_named ts n share is in (u, t, there, own, low)

    in_units : (os : List Task) (n : ℕ) → is_some (get (given_by p w c os) n) ≡ true → is_some (get c.units n) ≡ true
    in_units os n got = by_share (get (given_by p w c os) n) refl got
      where
        by_share : (o : Option ℕ) → get (given_by p w c os) n ≡ o → is_some o ≡ true → is_some (get c.units n) ≡ true
        by_share None is h = absurd (false≢true h)
        by_share (Some share) is h = let (u, o, there, own, low) = given_is_wanted os n share is in ap is_some there

    -- no more units get something than the campaign has
    pub few_given : (os : List Task) → length (entries (given_by p w c os)) ≤ len c.units
    few_given os =
        let m = given_by p w c os in
        let few = length-le_from_keys (eq_by_cmp_equiv nat_cmp_total) (keys_of (entries m)) (entries c.units) (rise_apart (entries m) (entries_rise m)) (λ q h.
        ap is_some (sym (find_is nat_cmp_total nat_cmp-IsAntisymmetric q (entries c.units)) ∙ sym (get-entries c.units q)) ∙ in_units os q (contains_key-keys m q ∙ h)) in
        omega (arith, few, length-keys_of (entries m), len-entries c.units)
