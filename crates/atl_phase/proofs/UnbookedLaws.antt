-- Laws of steps that book nothing, and that change no unit but that of the order. In the laws a step makes campaign d
-- of c. Order t is for unit x, and k is the number of any unit v. A step leaves the month if month, reports and set of
-- factions stay (`IsSameMonth`). A total is how much of a thing all units and regions have (`total`).
use Rattle.std.proofs.Common.{◌≡◌, ◌≢◌, ◌+◌, ℕ, Option, Some, None, refl, sym, ap, ◌∙◌}
use Rattle.std.proofs.lemmas.Option.{same_Some}
use Rattle.std.specs.Prelude.{IfSome, pos}
use Rattle.std.specs.FinMap.{get}
use Rattle.atl_world.specs.Worlds.{WorldValue}
use Rattle.atl_world.specs.Sums.{sum_over}
use Rattle.atl_records.specs.declared.books.Thing.{Thing}
use Rattle.atl_records.specs.declared.records.Region.{Region}
use Rattle.atl_records.specs.declared.records.Unit.{Unit}
use Rattle.atl_records.specs.Books.{amount_in, booked}
use Rattle.atl_campaign.specs.Good.{IsEarly}
use Rattle.atl_campaign.specs.Campaign.{CampaignValue}
use Rattle.atl_records.specs.Amounts.{region_amount, unit_amount}
use Rattle.atl_campaign.specs.Totals.{total}
use Rattle.atl_phase.specs.Meaning.{Condition, IsSameMonth}
use Rattle.atl_phase.specs.PhaseOrders.{Task}
use Rattle.atl_phase.specs.NoWorse.{IsNoWorse}
use Rattle.atl_phase.specs.OrderEffects.{IsOwnOrder, IsStillThere, OrderEffect}
use Rattle.atl_phase.specs.Bounds.{IsUnitOf, StepsWell, nothing_remaining}
use Rattle.atl_phase.proofs.NoWorseLaws.{no_worse}
use Rattle.atl_phase.proofs.OrderEffectLaws.{bound_unused_by}

-- a step that leaves month, books and totals as they are keeps the books in balance within a remaining bound of 0
-- (`StepsWell`), if `holds` is true of the campaign after it
pub stays_well : (holds : Condition) (w : WorldValue) (c d : CampaignValue) → holds w d → IsSameMonth c d
    → d.books ≡ c.books → ((t : Thing) → total d t ≡ total c t) → StepsWell holds nothing_remaining w c d
stays_well holds w c d still same books totals = record {
  holds_still = still;
  same_month = same;
  balances = λ old t. ap pos (totals t) ∙ old t ∙ ap (λ b. booked b t) (sym books);
  uses_bound = λ e t. bound_unused_by 0 0 (amount_in c.books e t) (amount_in d.books e t) refl (ap (λ b. amount_in b e t) books);
}

-- Let a step from c to d leave month, books and totals as they are, and let d be early. Then the step is as `StepsWell`
-- says: the books balance if they did before, and no amount of the books moves.
pub unbooked_well : (w : WorldValue) (c d : CampaignValue) → IsEarly w d → IsSameMonth c d → d.books ≡ c.books
    → ((t : Thing) → total d t ≡ total c t) → StepsWell IsEarly nothing_remaining w c d
unbooked_well = stays_well IsEarly

-- campaigns with the same units and the same regions have the same total of each thing
pub same_total_of : (c d : CampaignValue) → d.units ≡ c.units → d.regions ≡ c.regions → (t : Thing)
    → total d t ≡ total c t
unfolding total
same_total_of c d units regions t =
    let stock = λ (x : Unit). unit_amount t x.holding in
    let keep = λ (r : Region). region_amount t r in
    ap (λ m. sum_over stock m + sum_over keep d.regions) units
    ∙ ap (λ m. sum_over stock c.units + sum_over keep m) regions

-- a unit isn't the one that an order is for, if its own faction didn't write the order for it (`IsOwnOrder`), and the
-- order is for a unit of its writer's faction
pub other_unit : (c : CampaignValue) (t : Task) (x : Unit) (k : ℕ) (v : Unit) → IsUnitOf c t x → get c.units k ≡ Some v
    → (IsOwnOrder t k v.faction → ⊥) → k ≢ t.unit
other_unit c t x k v own there apart same =
    let unit : x ≡ v = same_Some _ _ (sym own.there ∙ ap (get c.units) (sym same) ∙ there) in
    apart (record { unit = sym same; faction = sym own.faction ∙ ap (λ (y : Unit). y.faction) unit })

-- Order t is for a unit of its writer's faction, and no other unit changes from campaign c to d. Then each unit for
-- which its own faction didn't write the order is there in d, and is no worse off (`IsNoWorse`).
pub other_is_no_worse : (c d : CampaignValue) (t : Task) (x : Unit)
    → ((k : ℕ) → k ≢ t.unit → get d.units k ≡ get c.units k) → IsUnitOf c t x → (k : ℕ) (v : Unit)
    → get c.units k ≡ Some v → (IsOwnOrder t k v.faction → ⊥) → IsStillThere IsNoWorse d k v
other_is_no_worse c d t x stay own k v there apart =
    record { unit = v; there = stay k (other_unit c t x k v own there apart) ∙ there; is_unaffected = no_worse v }

-- The effect of order t (`step`), if there is one, changes no unit but the one that the order is for. Then each unit
-- for which its own faction didn't write the order is there after the effect, and is no worse off (`IsNoWorse`).
pub unchanged_is_no_worse : (step : Option OrderEffect) (c : CampaignValue) (t : Task) (x : Unit) → IsUnitOf c t x
    → (k : ℕ) (v : Unit) → get c.units k ≡ Some v → (IsOwnOrder t k v.faction → ⊥)
    → ((j : ℕ) → j ≢ t.unit → IfSome step (λ effect. get (effect c x).0.units j ≡ get c.units j))
    → IfSome step (λ effect. IsStillThere IsNoWorse (effect c x).0 k v)
unchanged_is_no_worse None c t x own k v there apart stay = tt
unchanged_is_no_worse (Some effect) c t x own k v there apart stay =
    other_is_no_worse c (effect c x).0 t x stay own k v there apart
