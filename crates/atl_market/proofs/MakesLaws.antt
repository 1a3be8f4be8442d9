-- Laws of what units make in PRODUCE: the code's map is the one that is defined, and no unit makes more than it wants.
-- Entries (`es`) are pairs of a unit's number and an amount; `c` is the campaign when the phase begins.
use Rattle.std.proofs.Common.{◌≡◌, ℕ, ◌<◌, ◌≤◌, Bool, true, false, cond, List, [], ◌∷◌, map, Option, Some, None, refl, sym, ap, subst, ◌∙◌, inl, inr, arith}
use Rattle.std.specs.Prelude.{unwrap_or}
use Rattle.std.specs.List.{AllByRecursion}
use Rattle.std.specs.Cmp.{nat_cmp_total}
use Rattle.std.specs.Ordering.{nat_cmp}
use Rattle.std.specs.FinMap.{FinMap, empty, entries, find, get, get-entries, get-from_entries}
use Rattle.std.proofs.lemmas.Bool.{cases_eq}
use Rattle.atl_world.specs.Worlds.{WorldValue}
use Rattle.atl_campaign.specs.Campaign.{CampaignValue}
use Rattle.atl_campaign.proofs.ReadBackLaws.{Rise, entries_rise}
use Rattle.atl_world.proofs.EveryLaws.{first, none_some}
use Rattle.atl_pots.specs.Puts.{with_entries}
use Rattle.atl_pots.proofs.ItemPotLaws.{items_give}
use Rattle.atl_pots.proofs.PotLaws.{found_other, risen_put}
use Rattle.atl_market.specs.Produce.{made_amounts, amount_made, output_at, output_item, output_share, produce_pots, takes_raw}
use Rattle.atl_market.proofs.WantLaws.{GivesToWants}

-- ---- entries with other amounts under the same numbers

module _ (f : ℕ × ℕ → ℕ) where
  abbrev instead : List (ℕ × ℕ) → List (ℕ × ℕ)
  instead es = map (λ e. (e.0, f e)) es

  above_instead : (k : ℕ) (es : List (ℕ × ℕ)) → AllByRecursion (λ e. k < e.0) es
      → AllByRecursion (λ e. k < e.0) (instead es)
  above_instead k [] above = tt
  above_instead k (e ∷ es) above = (above.0, above_instead k es above.1)

  rise_instead : (es : List (ℕ × ℕ)) → Rise es → Rise (instead es)
  rise_instead [] rise = tt
  rise_instead (e ∷ es) rise = (above_instead e.0 es rise.0, rise_instead es rise.1)

  found_instead : (es : List (ℕ × ℕ)) (n a : ℕ) → find nat_cmp n (instead es) ≡ Some a
      → (b : ℕ) × (find nat_cmp n es ≡ Some b) × (a ≡ f (n, b))
  found_instead [] n a is = none_some a is
  found_instead (e ∷ es) n a is = elim (cases_eq n e.0) [
    | inl same ↦
        let mine : Some (f e) ≡ Some a = sym (first (e.0, f e) (instead es)) ∙ ap (λ k. find nat_cmp k (instead (e ∷ es))) (sym same) ∙ is in
        let amount : f e ≡ a = cc in
        (e.1, ap (λ k. find nat_cmp k (e ∷ es)) same ∙ first e es, sym amount ∙ ap (λ k. f (k, e.1)) (sym same))
    | inr apart ↦
        let (b, found, by) = found_instead es n a (sym (found_other (e.0, f e) (instead es) n apart) ∙ is) in
        (b, found_other e es n apart ∙ found, by)
  ]

-- ---- what is made

-- `asked` has by unit the item that its order names, and `wants` how many pieces of it the unit wants to make
module _ (asked : FinMap nat_cmp ℕ) (w : WorldValue) (c : CampaignValue) (wants : FinMap nat_cmp ℕ) where
  -- what each unit makes, put into the empty map unit by unit, is the map of the definition
  pub makes_are : with_entries empty (map (λ e. (e.0, amount_made w asked c wants e)) (entries wants))
      ≡ made_amounts asked w c wants
  makes_are =
      risen_put (instead (amount_made w asked c wants) (entries wants))
      (rise_instead (amount_made w asked c wants) (entries wants) (entries_rise wants))

  least : (n want : ℕ) → get wants n ≡ Some want → amount_made w asked c wants (n, want) ≤ want
  least n want wanted = by_item (takes_raw w (get asked n))
    where
      by_share : (o : Option ℕ) → output_share w asked c wants n ≡ o → unwrap_or o 0 ≤ want
      by_share None is = omega arith
      by_share (Some share) is =
          let (most, also, low) = items_give (output_item w asked) (output_at w) wants c n share is in
          let same : most ≡ want = cc in
          subst (λ k. share ≤ k) same low

      -- a unit makes at most its want, whether out of what its region gives (`b`) or out of raw items
      by_item : (b : Bool) → cond b want (unwrap_or (output_share w asked c wants n) 0) ≤ want
      by_item false = by_share (output_share w asked c wants n) refl
      by_item true = omega arith

-- PRODUCE gives only to units with a want, and to none more than it wants
pub produce_gives_to_wants : (w : WorldValue) (c : CampaignValue) → GivesToWants produce_pots w c
produce_gives_to_wants w c asked wants n share is =
    let all = entries wants in
    let (want, wanted, made) = found_instead (amount_made w asked c wants) all n share (sym (get-from_entries nat_cmp_total (instead (amount_made w asked c wants) all) n) ∙ is) in
    let there : get wants n ≡ Some want = get-entries wants n ∙ wanted in
    (want, there, subst (λ k. k ≤ want) (sym made) (least asked w c wants n want there))
