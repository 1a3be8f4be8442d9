-- Laws of wants that are grouped by pots: the group of a pot has the wants of those units that ask for it, and the
-- shares of the groups of all regions are those of the definition. A group (`WantGroups`) has the wants of the units
-- that ask for one pot, by unit. In the laws n is a unit's number, s its share, and r a region's number.
use Rattle.std.proofs.Common.{◌≡◌, ℕ, ◌<◌, ◌==◌, Bool, true, false, cond, List, [], ◌∷◌, ◌++◌, map, filter, Option, Some, None, is_some, refl, sym, ap, subst, ◌∙◌, inl, inr}
use Rattle.std.specs.Prelude.{fold, unwrap_or}
use Rattle.std.specs.List.{AllByRecursion, flat_map, list_any}
use Rattle.std.specs.Option.{option_map_or}
use Rattle.std.specs.Ordering.{nat_cmp, eq_by_cmp}
use Rattle.std.specs.Cmp.{nat_cmp_total}
use Rattle.std.specs.FinMap.Entries.{find-where_key}
use Rattle.std.specs.FinMap.{FinMap, contains_key-keys, empty, entries, find, get, get-empty, get-entries, insert, keys, nat_cmp-IsAntisymmetric, same_map}
use Rattle.std.proofs.lemmas.Bool.{cases_eq}
use Rattle.atl_world.specs.Groups.{group_of}
use Rattle.atl_world.specs.Every.{EachEntry}
use Rattle.atl_records.specs.declared.records.Region.{Region}
use Rattle.atl_world.proofs.EveryLaws.{each-from_every, get-insert_other, none_some, other_number, same_number}
use Rattle.atl_campaign.specs.Campaign.{CampaignValue}
use Rattle.atl_campaign.proofs.GroupLaws.{filter_each}
use Rattle.atl_campaign.proofs.ReadBackLaws.{Rise, entries_rise}
use Rattle.atl_campaign.proofs.RegionLaws.{get-insert_same}
use Rattle.atl_pots.specs.Pots.{AreWants, asks_for, pot_shares, region_of_unit, share_of, shares_in, wants_at, wants_for}
use Rattle.atl_pots.specs.Puts.{with_entries}
use Rattle.atl_pots.specs.WantGroups.{WantGroups, all_region_shares, grouped, region_shares, with_want}
use Rattle.atl_pots.proofs.PotLaws.{AgreeWith, Entries, agreeing_put, asking, each_flat, found_among, found_is, found_put, given_takes, region_agrees, rise_apart, somewhere, taker_wants, want_at}

pub each_if_all : {A : Type 0} (P : A → Type 0) → ((x : A) → P x) → (xs : List A) → AllByRecursion P xs
each_if_all P h [] = tt
each_if_all P h (x ∷ xs) = (h x, each_if_all P h xs)

kept_in_order : (p : ℕ × ℕ → Bool) (es : Entries) → Rise es → Rise (filter p es)
kept_in_order p [] rise = tt
kept_in_order p (e ∷ es) rise = by_test (p e) (kept_in_order p es rise.1)
  where
    by_test : (b : Bool) → Rise (filter p es) → Rise (cond b (e ∷ filter p es) (filter p es))
    by_test true rest = (filter_each p (λ f. e.0 < f.0) es rise.0, rest)
    by_test false rest = rest

-- ---- the group of a pot

-- `asked_by` gives, by a unit's number, the number of the pot that it asks for, if any
module _ (asked_by : ℕ → Option ℕ) where
  one_put : (groups : WantGroups) (e : ℕ × ℕ) (rest : Entries) (pot : ℕ)
      → with_entries (group_of (with_want asked_by groups e) pot) rest
      ≡ with_entries (group_of groups pot) (cond (asks_for pot (asked_by e.0)) (e ∷ rest) rest)
  one_put groups e rest pot = by_pot (asked_by e.0)
    where
      by_pot : (o : Option ℕ)
          → with_entries (group_of (option_map_or (λ j. insert groups j (insert (group_of groups j) e.0 e.1)) o groups) pot) rest
          ≡ with_entries (group_of groups pot) (cond (asks_for pot o) (e ∷ rest) rest)
      by_pot None = refl
      by_pot (Some j) =
          let group = insert (group_of groups j) e.0 e.1 in
          elim (cases_eq j pot) [
            | inl same ↦
                let here : group_of (insert groups j group) pot ≡ insert (group_of groups pot) e.0 e.1 =
                ap (group_of (insert groups j group)) (sym same) ∙ ap (λ o. unwrap_or o empty) (get-insert_same groups j group) ∙ ap (λ k. insert (group_of groups k) e.0 e.1) same in
                ap (λ m. with_entries m rest) here
                ∙ sym (ap (λ b. with_entries (group_of groups pot) (cond b (e ∷ rest) rest)) (ap (λ k. j == k) (sym same) ∙ same_number j))
            | inr apart ↦
                ap (λ m. with_entries m rest) (ap (λ o. unwrap_or o empty) (get-insert_other groups j pot group (λ is. apart (sym is))))
                ∙ sym (ap (λ b. with_entries (group_of groups pot) (cond b (e ∷ rest) rest)) (other_number j pot apart))
          ]

  group_put : (groups : WantGroups) (es : Entries) (pot : ℕ)
      → group_of (fold (with_want asked_by) groups es) pot
      ≡ with_entries (group_of groups pot) (filter (λ e. asks_for pot (asked_by e.0)) es)
  group_put groups [] pot = refl
  group_put groups (e ∷ es) pot =
      group_put (with_want asked_by groups e) es pot
      ∙ one_put groups e (filter (λ f. asks_for pot (asked_by f.0)) es) pot

  -- `wants` has by unit how much it wants of its pot
  module _ (wants : FinMap nat_cmp ℕ) where
    abbrev groups_made : WantGroups
    groups_made = grouped asked_by wants

    -- the group of a pot has the wants of the units that ask for the pot
    pub group_is : (pot : ℕ) → group_of groups_made pot ≡ wants_for asked_by wants pot
    group_is pot =
        let asks = λ (k : ℕ). asks_for pot (asked_by k) in
        let theirs : Entries = filter (λ e. asks e.0) (entries wants) in
        let made : group_of groups_made pot ≡ with_entries empty theirs = group_put empty (entries wants) pot ∙ ap (λ o. with_entries (unwrap_or o empty) theirs) (get-empty nat_cmp pot) in
        let apart = rise_apart theirs (kept_in_order (λ e. asks e.0) (entries wants) (entries_rise wants)) in
        same_map nat_cmp_total nat_cmp-IsAntisymmetric _ _
        (λ n. ap (λ (m : FinMap nat_cmp ℕ). get m n) made ∙ found_put theirs apart n
        ∙ find-where_key nat_cmp asks n (λ k tie. ap asks (sym (nat_cmp-IsAntisymmetric n k tie))) (entries wants)
        ∙ ap (λ o. cond (asks n) o None) (sym (get-entries wants n))
        ∙ sym (want_at asked_by wants pot n))

    group_found : (pot : ℕ) (group : FinMap nat_cmp ℕ) → get groups_made pot ≡ Some group
        → group ≡ wants_for asked_by wants pot
    group_found pot group is = sym (ap (λ o. unwrap_or o empty) is) ∙ group_is pot

    -- a pot that some unit with a want asks for has a group
    pub group_listed : (pot n want : ℕ) → get (wants_for asked_by wants pot) n ≡ Some want
        → list_any (eq_by_cmp nat_cmp pot) (keys groups_made) ≡ true
    group_listed pot n want is = sym (contains_key-keys groups_made pot) ∙ by_group (get groups_made pot) refl
      where
        by_group : (o : Option (FinMap nat_cmp ℕ)) → get groups_made pot ≡ o → is_some o ≡ true
        by_group (Some group) at = refl
        by_group None at =
            let nothing : empty ≡ wants_for asked_by wants pot = sym (ap (λ o. unwrap_or o empty) at) ∙ group_is pot in
            none_some want (sym (get-empty nat_cmp n) ∙ ap (λ (m : FinMap nat_cmp ℕ). get m n) nothing ∙ is)

    -- if each want is at most 999,999,999, so is each in a group (`AreWants`)
    pub groups_are_wants : AreWants wants → EachEntry (λ pot group. AreWants group) (entries groups_made)
    groups_are_wants low = each-from_every (λ pot group. AreWants group) groups_made (λ pot group is n want there.
        let mine = ap (λ (m : FinMap nat_cmp ℕ). get m n) (sym (group_found pot group is)) ∙ there in
        low n want (asking asked_by wants pot n want mine).1)

    -- `f`, applied to each pot that has a group, gives the same with the pot's group as with the wants for the pot
    pub from_groups : (f : ℕ → FinMap nat_cmp ℕ → Entries)
        → flat_map (λ g. f g.0 g.1) (entries groups_made)
        ≡ flat_map (λ pot. f pot (wants_for asked_by wants pot)) (keys groups_made)
    from_groups f =
        by_entries (entries groups_made)
        (each-from_every (λ pot group. get groups_made pot ≡ Some group) groups_made (λ pot group is. is))
      where
        by_entries : (gs : List (ℕ × FinMap nat_cmp ℕ)) → EachEntry (λ pot group. get groups_made pot ≡ Some group) gs
            → flat_map (λ g. f g.0 g.1) gs ≡ flat_map (λ pot. f pot (wants_for asked_by wants pot)) (map (λ g. g.0) gs)
        by_entries [] all = refl
        by_entries (g ∷ gs) all =
            ap (λ m. f g.0 m ++ flat_map (λ h. f h.0 h.1) gs) (group_found g.0 g.1 all.0)
            ∙ ap (λ es. f g.0 (wants_for asked_by wants g.0) ++ es) (by_entries gs all.1)

-- ---- the shares of all regions

-- `pot_of` gives the pot of a region by its number; `wants` has by unit how much it wants of its region's pot
module _ (pot_of : ℕ → ℕ) (wants : FinMap nat_cmp ℕ) (c : CampaignValue) where
  abbrev regions_listed : List ℕ
  regions_listed = keys (grouped (region_of_unit c.units) wants)

  abbrev shares_there : ℕ → Entries
  shares_there r = region_shares c pot_of (r, wants_at wants c.units r)

  all_are : all_region_shares c pot_of wants ≡ flat_map shares_there regions_listed
  all_are = from_groups (region_of_unit c.units) wants (λ r group. region_shares c pot_of (r, group))

  -- each share in the list of all regions is the one that `pot_shares` has for the unit (`share_of`)
  pub region_shares_agree : AgreeWith (share_of pot_of wants c) (all_region_shares c pot_of wants)
  region_shares_agree =
      subst (AgreeWith (share_of pot_of wants c)) (sym all_are)
      (each_flat (λ e. share_of pot_of wants c e.0 ≡ Some e.1) shares_there regions_listed (each_if_all _ (λ r. one r (get c.regions r) refl) regions_listed))
    where
      one : (r : ℕ) (o : Option Region) → get c.regions r ≡ o
          → AgreeWith (share_of pot_of wants c) (cond (is_some o) (shares_in pot_of wants c.units r) [])
      one r None at = tt
      one r (Some q) at = region_agrees pot_of wants c r (q, at)

  -- each unit that has a share is listed among the shares of all regions
  pub region_shares_whole : (n s : ℕ) → share_of pot_of wants c n ≡ Some s
      → is_some (find nat_cmp n (all_region_shares c pot_of wants)) ≡ true
  region_shares_whole n s is =
      let (r, among, found) = somewhere (shares_in pot_of wants c.units) n s (keys c.regions) (sym (found_is pot_of wants c n) ∙ is) in
      let there : is_some (get c.regions r) ≡ true = contains_key-keys c.regions r ∙ among in
      let ((u, at, here), (want, wanted)) = given_takes pot_of wants c.units r n s found in
      let wants_it = subst (λ k. get (wants_at wants c.units k) n ≡ Some want) here (taker_wants wants c.units n want u wanted at) in
      let mine : is_some (find nat_cmp n (shares_there r)) ≡ true = ap (λ b. is_some (find nat_cmp n (cond b (shares_in pot_of wants c.units r) []))) there ∙ ap is_some found in
      subst (λ (es : Entries). is_some (find nat_cmp n es) ≡ true) (sym all_are)
      (found_among shares_there n regions_listed r (group_listed (region_of_unit c.units) wants r n want wants_it) mine)

  -- the shares of all regions, put into the empty map, make the map of the definition
  pub all_put : with_entries empty (all_region_shares c pot_of wants) ≡ pot_shares pot_of wants c
  all_put =
      same_map nat_cmp_total nat_cmp-IsAntisymmetric _ _
      (agreeing_put (share_of pot_of wants c) (all_region_shares c pot_of wants) region_shares_agree region_shares_whole)
