-- Laws of BUILD: moving a unit into another structure of its region, or on land out of its structure, keeps what BUILD
-- needs (`CanBuild`), the month, the balance of the books, and what BUILD may still book. `c` is the campaign before
-- the move, which has what BUILD needs (`can`).
use Rattle.std.proofs.Common.{◌≡◌, ◌≢◌, ℕ, ◌+◌, false, true, Some, refl, sym, subst, arith}
use Rattle.std.specs.FinMap.{get}
use Rattle.atl_world.specs.Worlds.{WorldValue}
use Rattle.atl_world.proofs.SumLaws.{sum_over-insert_known}
use Rattle.atl_world.specs.ByNumber.{is_land_at}
use Rattle.atl_records.specs.declared.books.BooksEntry.{BooksEntry}
use Rattle.atl_records.specs.declared.books.Thing.{Thing}
use Rattle.atl_records.specs.declared.records.Structure.{Structure}
use Rattle.atl_records.specs.declared.records.Unit.{Unit}
use Rattle.atl_campaign.specs.Good.{is_ship}
use Rattle.atl_campaign.specs.Owners.{with_place}
use Rattle.atl_campaign.specs.Campaign.{CampaignValue}
use Rattle.atl_phase.specs.Bounds.{StepsWell}
use Rattle.atl_phase.proofs.MeaningLaws.{same_month_by}
use Rattle.atl_phase.proofs.PlacingLaws.{placed_campaign, place_is, placed_steady, placed_total}
use Rattle.atl_market.specs.Bounds.{CanBuild, build_remaining, still_bookable}
use Rattle.atl_market.proofs.BuildBegunLaws.{unbooked_change_steps_well}

equal_addends_cancel : (a b h g : ℕ) → a + h ≡ b + g → g ≡ h → a ≡ b
equal_addends_cancel a b h g e f = omega (arith, e, f)

-- Unit `n`, which is `u`, moves into structure `s`, another than the one that it is inside (`apart`). The number 0
-- stands for the place outside of all structures.
module _ (w : WorldValue) (c : CampaignValue) (n : ℕ) (u : Unit) (s : ℕ) (is : get c.units n ≡ Some u) (can : CanBuild w c) (apart : u.structure ≢ s) where
  abbrev placed : CampaignValue
  placed = placed_campaign w c n u s is can.steady apart

  remaining_stays : (e : BooksEntry) (t : Thing) → build_remaining placed e t ≡ build_remaining c e t
  remaining_stays e t =
      let f = λ (x : Unit). still_bookable e t x.holding in
      let moved : Unit = record u { structure = s } in
      equal_addends_cancel (build_remaining placed e t) (build_remaining c e t) (f u) (f moved) (sum_over-insert_known f c.units n u moved is) refl

  -- moving a unit into another structure of its region (on water a ship), or on land out of its structure, is a change
  -- that BUILD may make (`StepsWell`)
  pub place_well : (s ≢ 0 → (x : Structure) × (get c.structures s ≡ Some x) × (x.region ≡ u.region))
      → (is_land_at w u.region ≡ false → (x : Structure) × (get c.structures s ≡ Some x) × (is_ship w x ≡ true))
      → StepsWell CanBuild build_remaining w c (with_place c n u.region s)
  place_well inside afloat =
      subst (StepsWell CanBuild build_remaining w c) (sym (place_is w c n u s is can.steady apart))
      (unbooked_change_steps_well w c placed (record { steady = placed_steady w c n u s is can.steady apart inside afloat; kinds = can.kinds })
      (same_month_by refl) refl (placed_total w c n u s is can.steady apart inside afloat) remaining_stays)
