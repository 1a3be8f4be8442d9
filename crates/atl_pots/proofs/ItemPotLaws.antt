-- Laws of pots of items: the shares that the code puts in item by item and region by region are those of the
-- definition. In the laws n is a unit's number, and s its share.
use Rattle.std.proofs.Common.{◌≡◌, ℕ, ◌≤◌, Bool, true, false, cond, List, [], ◌∷◌, Option, Some, None, is_some, refl, sym, ap, subst, ◌∙◌, inl, inr}
use Rattle.std.specs.Prelude.{option_map}
use Rattle.std.specs.List.{cons_option, filter_map, flat_map}
use Rattle.std.specs.Ordering.{nat_cmp}
use Rattle.std.specs.Cmp.{nat_cmp_total}
use Rattle.std.specs.FinMap.{FinMap, empty, entries, find, get, get-entries, get-from_entries, keys, nat_cmp-IsAntisymmetric, same_map}
use Rattle.std.proofs.lemmas.Bool.{cases_eq}
use Rattle.atl_world.proofs.EveryLaws.{first, none_some}
use Rattle.atl_campaign.specs.Campaign.{CampaignValue}
use Rattle.atl_pots.specs.ItemPots.{item_share, item_shares, share_for}
use Rattle.atl_pots.specs.Pots.{share_of, wants_for}
use Rattle.atl_pots.specs.Puts.{with_entries}
use Rattle.atl_pots.specs.WantGroups.{all_region_shares, grouped, shares_of_item}
use Rattle.atl_pots.proofs.PotLaws.{AgreeWith, Entries, agreeing_put, asking, each_flat, found_among, found_other, pots_give}
use Rattle.atl_pots.proofs.WantGroupLaws.{each_if_all, from_groups, group_listed, region_shares_agree, region_shares_whole}
use Rattle.atl_world.proofs.GeneralLaws.{each_follows}

choice_of_equals : (b : Bool) (o : Option ℕ) → cond b o o ≡ o
choice_of_equals true o = refl
choice_of_equals false o = refl

-- `asked_item` gives, by a unit's number, the item that it asks for, if any. `pot_of` gives how much of an item a
-- region has to share. `wants` has by unit how much it wants of its item.
module _ (asked_item : ℕ → Option ℕ) (pot_of : (item region : ℕ) → ℕ) (wants : FinMap nat_cmp ℕ) (c : CampaignValue) where
  -- what a unit, by its number, gets by the definition of the pot of its item in its region (`item_share`)
  abbrev gets : ℕ → Option ℕ
  gets n = item_share asked_item pot_of wants c n

  -- a unit with a share of an item has a want, and the share is at most its want
  pub items_give : (n s : ℕ) → gets n ≡ Some s → (want : ℕ) × (get wants n ≡ Some want) × (s ≤ want)
  items_give n s is = by_item (asked_item n) is
    where
      by_item : (o : Option ℕ) → share_for asked_item pot_of wants c n o ≡ Some s
          → (want : ℕ) × (get wants n ≡ Some want) × (s ≤ want)
      by_item None is = none_some s is
      by_item (Some i) is =
          let (want, wanted, low) = pots_give (pot_of i) c (wants_for asked_item wants i) n s is in
          (want, (asking asked_item wants i n want wanted).1, low)

  abbrev share_at : ℕ → Option ℕ → Option (ℕ × ℕ)
  share_at n o = option_map (λ s. (n, s)) o

  abbrev of_wants : Entries → Entries
  of_wants es = filter_map (λ e. share_at e.0 (gets e.0)) es

  found_listed : (es : Entries) (n : ℕ)
      → find nat_cmp n (of_wants es) ≡ cond (is_some (find nat_cmp n es)) (gets n) None
  found_listed [] n = refl
  found_listed (e ∷ es) n = elim (cases_eq n e.0) [
    | inl same ↦
        let mine : find nat_cmp n (e ∷ es) ≡ Some e.1 = ap (λ k. find nat_cmp k (e ∷ es)) same ∙ first e es in
        here same (gets e.0) refl (found_listed es n)
        ∙ sym (ap (λ o. cond (is_some o) (gets n) None) mine ∙ ap gets same)
    | inr apart ↦ other apart (gets e.0) ∙ found_listed es n ∙ sym (ap (λ o. cond (is_some o) (gets n) None) (found_other e es n apart))
  ]
    where
      here : n ≡ e.0 → (o : Option ℕ) → gets e.0 ≡ o
          → find nat_cmp n (of_wants es) ≡ cond (is_some (find nat_cmp n es)) (gets n) None
          → find nat_cmp n (cons_option (share_at e.0 o) (of_wants es)) ≡ o
      here same None is rest =
          rest ∙ ap (λ o. cond (is_some (find nat_cmp n es)) o None) (ap gets same ∙ is)
          ∙ choice_of_equals (is_some (find nat_cmp n es)) None
      here same (Some s) is rest = ap (λ k. find nat_cmp k ((e.0, s) ∷ of_wants es)) same ∙ first (e.0, s) (of_wants es)

      other : (n ≡ e.0 → ⊥) → (o : Option ℕ)
          → find nat_cmp n (cons_option (share_at e.0 o) (of_wants es)) ≡ find nat_cmp n (of_wants es)
      other apart None = refl
      other apart (Some s) = found_other (e.0, s) (of_wants es) n apart

  -- the definition's map of all shares (`item_shares`) has under each number that unit's share (`item_share`), if any
  pub shares_at : (n : ℕ) → get (item_shares asked_item pot_of wants c) n ≡ gets n
  shares_at n =
      get-from_entries nat_cmp_total (of_wants (entries wants)) n ∙ found_listed (entries wants) n
      ∙ by_share (gets n) refl
    where
      by_share : (o : Option ℕ) → gets n ≡ o → cond (is_some (find nat_cmp n (entries wants))) o None ≡ o
      by_share None is = choice_of_equals (is_some (find nat_cmp n (entries wants))) None
      by_share (Some s) is =
          let (want, wanted, low) = items_give n s is in
          ap (λ o. cond (is_some o) (Some s) None) (sym (get-entries wants n) ∙ wanted)

  -- the shares that the code puts in, item by item and region by region
  abbrev all_shares : Entries
  all_shares = flat_map (shares_of_item c pot_of) (entries (grouped asked_item wants))

  abbrev items_listed : List ℕ
  items_listed = keys (grouped asked_item wants)

  abbrev of_item : ℕ → Entries
  of_item i = all_region_shares c (pot_of i) (wants_for asked_item wants i)

  all_are : all_shares ≡ flat_map of_item items_listed
  all_are = from_groups asked_item wants (λ i group. all_region_shares c (pot_of i) group)

  all_agree : AgreeWith gets all_shares
  all_agree =
      subst (AgreeWith gets) (sym all_are)
      (each_flat (λ e. gets e.0 ≡ Some e.1) of_item items_listed (each_if_all _ one items_listed))
    where
      one : (i : ℕ) → AgreeWith gets (of_item i)
      one i =
          each_follows (λ e. share_of (pot_of i) (wants_for asked_item wants i) c e.0 ≡ Some e.1) (λ e. gets e.0 ≡ Some e.1) (λ e is.
          let (want, wanted, low) = pots_give (pot_of i) c (wants_for asked_item wants i) e.0 e.1 is in
          ap (share_for asked_item pot_of wants c e.0) (asking asked_item wants i e.0 want wanted).0 ∙ is) (of_item i) (region_shares_agree (pot_of i) (wants_for asked_item wants i) c)

  none_missing : (n s : ℕ) → gets n ≡ Some s → is_some (find nat_cmp n all_shares) ≡ true
  none_missing n s is =
      subst (λ (es : Entries). is_some (find nat_cmp n es) ≡ true) (sym all_are) (by_item (asked_item n) is)
    where
      by_item : (o : Option ℕ) → share_for asked_item pot_of wants c n o ≡ Some s
          → is_some (find nat_cmp n (flat_map of_item items_listed)) ≡ true
      by_item None is = none_some s is
      by_item (Some i) is =
          let (want, wanted, low) = pots_give (pot_of i) c (wants_for asked_item wants i) n s is in
          found_among of_item n items_listed i (group_listed asked_item wants i n want wanted)
          (region_shares_whole (pot_of i) (wants_for asked_item wants i) c n s is)

  -- the map into which all shares were put is the one of the definition
  pub all_items_put : with_entries empty all_shares ≡ item_shares asked_item pot_of wants c
  all_items_put =
      same_map nat_cmp_total nat_cmp-IsAntisymmetric _ _
      (λ n. agreeing_put gets all_shares all_agree none_missing n ∙ sym (shares_at n))
