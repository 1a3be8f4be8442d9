-- Laws of a changed region and of changed amounts of the books: the campaign stays steady, and how totals change.
-- c is the campaign before the change. In the laws on one region, f changes region n of c, which is r before.
use Rattle.std.proofs.Common.{◌≡◌, ◌≢◌, ◌↔◌, ℕ, ◌+◌, ◌≤◌, ◌<◌, cond, Some, refl, sym, ap, subst, ◌∙◌, inl, inr, arith}
use Rattle.std.specs.Prelude.{ℤ, ◌+ℤ◌, is_some}
use Rattle.std.specs.Ordering.{nat_cmp, is_eq}
use Rattle.std.specs.Cmp.{nat_cmp_total, ranked}
use Rattle.std.specs.declared.cmp.Ordering.TheVariants.{Less, Equal, Greater}
use Rattle.std.specs.FinMap.{FinMap, get, insert, len, get-insert, len-insert, nat_cmp-IsAntisymmetric}
use Rattle.atl_world.specs.Worlds.{WorldValue}
use Rattle.atl_world.specs.Limits.{most_amount}
use Rattle.atl_world.specs.Sums.{sum_over, with_changed_value, with_changed_option}
use Rattle.atl_world.proofs.SumLaws.{sum_over-insert_known}
use Rattle.atl_records.specs.declared.books.BooksEntry.{BooksEntry}
use Rattle.atl_records.specs.declared.books.Thing.{Thing}
use Rattle.atl_records.specs.declared.records.Region.{Region}
use Rattle.atl_records.specs.declared.records.Unit.{Unit}
use Rattle.atl_records.specs.Books.{Account, AreBooks, BooksValue, amount_in, thing_index, after_booking, amount_number}
use Rattle.atl_campaign.specs.Founding.{thing_count}
use Rattle.atl_world.specs.Every.{Every, HasValue}
use Rattle.atl_campaign.specs.Good.{IsRegion, AreInRange, AreKnown, AreOfMarkets, IsSteady}
use Rattle.atl_campaign.specs.Campaign.{CampaignValue, region_changed, with_booking}
use Rattle.atl_records.specs.Amounts.{region_amount, unit_amount}
use Rattle.atl_campaign.specs.Totals.{total}
use Rattle.atl_records.proofs.AccountLaws.{cases_account}
use Rattle.atl_records.proofs.BookLaws.{AreBooks-after_booking, other_amount}
use Rattle.atl_world.proofs.EveryLaws.{every-insert, there-insert}

-- ---- other regions, other books

module _ (w : WorldValue) (c : CampaignValue) (regions : FinMap nat_cmp Region) (books : BooksValue) where
  abbrev stocked : CampaignValue
  stocked = record c { regions = regions; books = books }

  module _ (few : len regions ≡ len c.regions) (there : (n : ℕ) → HasValue c.regions n ↔ HasValue regions n)
      (within : Every (λ n r. IsRegion w n r) regions) (marketed : Every (λ n r. AreOfMarkets w n r.stocks) regions) (booked : AreBooks (thing_count w) books) where
    stocked-numbers : AreInRange w c → AreInRange w stocked
    stocked-numbers old = record {
      month = old.month;
      few_factions = old.few_factions;
      few_regions = omega (arith, few, old.few_regions);
      few_units = old.few_units;
      few_structures = old.few_structures;
      next_unit_least = old.next_unit_least;
      next_unit_most = old.next_unit_most;
      factions = old.factions;
      regions = within;
      units = old.units;
      structures = old.structures;
      books = booked;
    }

    stocked-known : AreKnown w c → AreKnown w stocked
    stocked-known old = record {
      regions = λ n. (λ h. (old.regions n).0 ((there n).1 h), λ h. (there n).0 ((old.regions n).1 h));
      markets = marketed;
      units = λ n u is. let p = old.units n u is in record { faction = p.faction; region = (there u.region).0 p.region; structure = p.structure; items = p.items; skills = p.skills };
      structures = λ n s is. let b = old.structures n s is in record { kind = b.kind; region = (there s.region).0 b.region; owner = b.owner };
      posts = old.posts;
    }

    -- the campaign stays steady with the given regions, which have the same numbers, are in range and have stocks of
    -- their markets only, and with the given books of the world's things
    stocked-steady : IsSteady w c → IsSteady w stocked
    stocked-steady old = record {
      numbers = stocked-numbers old.numbers;
      names = record { pass = old.names.pass; factions = old.names.factions; joined = old.names.joined; units = old.names.units; structures = old.names.structures };
      known = stocked-known old.known;
      next = record { factions = old.next.factions; structures = old.next.structures; units = old.next.units };
      days = old.days;
      gone = old.gone;
      owners = old.owners;
      water = record { units = old.water.units; structures = old.water.structures };
      guarded = old.guarded;
    }

-- ---- a region

module _ {V : Type 0} where
  pub same_len : (m : FinMap nat_cmp V) (n : ℕ) (u v : V) → get m n ≡ Some u → len (insert m n v) ≡ len m
  same_len m n u v is = len-insert nat_cmp_total m n v ∙ ap (λ o. cond (is_some o) (len m) (len m + 1)) is

  there_again : (m : FinMap nat_cmp V) (k n : ℕ) (u v : V) → get m k ≡ Some u → HasValue (insert m k v) n → HasValue m n
  there_again m k n u v is (x, put) =
      elim (nat_cmp n k) as (λ o. nat_cmp n k ≡ o → cond (is_eq o) (Some v) (get m n) ≡ Some x → HasValue m n) [
        | Less ↦ λ _ e. (x, e)
        | Equal ↦ λ o e. (u, ap (get m) (nat_cmp-IsAntisymmetric n k o) ∙ is)
        | Greater ↦ λ _ e. (x, e)
      ] refl (sym (get-insert nat_cmp_total m k v n) ∙ put)

  pub get-insert_same : (m : FinMap nat_cmp V) (k : ℕ) (v : V) → get (insert m k v) k ≡ Some v
  get-insert_same m k v =
      get-insert nat_cmp_total m k v k
      ∙ elim (nat_cmp k k) as (λ o. nat_cmp k k ≡ o → cond (is_eq o) (Some v) (get m k) ≡ Some v) [
        | Less ↦ λ o. let l = ranked k k Less (sym o) in absurd (omega arith)
        | Equal ↦ λ _. refl
        | Greater ↦ λ o. let l = ranked k k Greater (sym o) in absurd (omega arith)
      ] refl

  -- changing the value under n by f is putting f v there, if v is that value
  pub changed-known : (f : V → V) (m : FinMap nat_cmp V) (n : ℕ) (v : V) → get m n ≡ Some v
      → with_changed_value f m n ≡ insert m n (f v)
  changed-known f m n v is = ap (with_changed_option f m n) is

-- a region stays in range (IsRegion) with other peasants up to most_amount
pub IsRegion-peasants : {w : WorldValue} {n : ℕ} (r : Region) (peasants : ℕ) → peasants ≤ most_amount → IsRegion w n r
    → IsRegion w n (record r { peasants = peasants })
IsRegion-peasants r peasants few old = record { peasants = few; money = old.money; stocks = old.stocks }

-- a region stays in range (IsRegion) with other money up to most_amount
pub IsRegion-money : {w : WorldValue} {n : ℕ} (r : Region) (money : ℕ) → money ≤ most_amount → IsRegion w n r
    → IsRegion w n (record r { money = money })
IsRegion-money r money few old = record { peasants = old.peasants; money = few; stocks = old.stocks }

module _ (f : Region → Region) (c : CampaignValue) (n : ℕ) (r : Region) (is : get c.regions n ≡ Some r) where
  pub region-changed : get (region_changed f c n).regions n ≡ Some (f r)
  region-changed = ap (λ m. get m n) (changed-known f c.regions n r is) ∙ get-insert_same c.regions n (f r)

  -- the campaign stays steady when f changes region n, if f r is in range (IsRegion), with stocks of its markets only
  pub steady-region : (w : WorldValue) → IsRegion w n (f r) → AreOfMarkets w n (f r).stocks → IsSteady w c
      → IsSteady w (region_changed f c n)
  steady-region w within marketed old =
      subst (λ (m : FinMap nat_cmp Region). IsSteady w (record c { regions = m })) (sym (changed-known f c.regions n r is))
      (stocked-steady w c (insert c.regions n (f r)) c.books (same_len c.regions n r (f r) is)
      (λ k. (there-insert c.regions n k (f r), there_again c.regions n k r (f r) is))
      (every-insert (λ k q. IsRegion w k q) c.regions n (f r) within old.numbers.regions)
      (every-insert (λ k q. AreOfMarkets w k q.stocks) c.regions n (f r) marketed old.known.markets) old.numbers.books old)

  regrouped : (u a b p q : ℕ) → a + p ≡ b + q → (u + a) + p ≡ (u + b) + q
  regrouped u a b p q h = omega arith

  -- changing region n changes the total of each thing by what the region then has more or less of it
  pub total-region : (t : Thing)
      → total (region_changed f c n) t + region_amount t r ≡ total c t + region_amount t (f r)
  unfolding total
  total-region t =
      let units = sum_over (λ (u : Unit). unit_amount t u.holding) c.units in
      let stock = λ (q : Region). region_amount t q in
      ap (λ m. (units + sum_over stock m) + region_amount t r) (changed-known f c.regions n r is)
      ∙ regrouped units (sum_over stock (insert c.regions n (f r))) (sum_over stock c.regions) (region_amount t r) (region_amount t (f r)) (sum_over-insert_known stock c.regions n r (f r) is)

-- ---- the books

-- the campaign stays steady when any amount of one of the world's things is booked
pub steady-amount : (w : WorldValue) (c : CampaignValue) (e : BooksEntry) (t : Thing) (n : ℤ)
    → thing_index t < thing_count w → IsSteady w c → IsSteady w (with_booking c e t n)
steady-amount w c e t n there old =
    stocked-steady w c c.regions (after_booking c.books e t n) refl (λ k. (λ h. h, λ h. h)) old.numbers.regions old.known.markets (AreBooks-after_booking (thing_count w) c.books e t n old.numbers.books there) old

-- booking of a thing u changes the total of no thing t: units and regions stay as they are
pub total-booking : (c : CampaignValue) (e : BooksEntry) (u t : Thing) (n : ℤ)
    → total (with_booking c e u n) t ≡ total c t
unfolding total
total-booking c e u t n = refl

-- booking n under entry f and thing u leaves each amount of another number (`amount_number`) as it is
pub booking-other_amount : (books : BooksValue) (e f : BooksEntry) (t u : Thing) (n : ℤ)
    → amount_number e t ≢ amount_number f u → amount_in (after_booking books f u n) e t ≡ amount_in books e t
booking-other_amount books e f t u n apart =
    elim (cases_account (e, t) (f, u)) [
      | inl same ↦ absurd (apart (ap (λ (a : Account). amount_number a.0 a.1) same))
      | inr other ↦ other_amount books f u (amount_in books f u +ℤ n) e t other
    ]
