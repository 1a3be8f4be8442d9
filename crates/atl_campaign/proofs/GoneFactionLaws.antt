-- Laws of a faction that is set gone: the campaign stays steady, totals stay, and the change is marked.
-- Faction n of the campaign c is x; `with_gone c n` is the campaign in which the faction is gone, and c itself where it
-- has no faction n. Both have factions under the same numbers k. `MarksChanges` also says that no mark is lost.
use Rattle.std.proofs.Common.{◌≡◌, ◌≢◌, ℕ, ◌+◌, true, [], Some, None, refl, sym, ap, subst, ◌∙◌, arith}
use Rattle.std.specs.Prelude.{IsTrue}
use Rattle.std.specs.Ordering.{nat_cmp}
use Rattle.std.specs.FinMap.{FinMap, get, insert, len}
use Rattle.atl_world.specs.Names.{name_ok, pass_ok}
use Rattle.atl_world.specs.Worlds.{WorldValue}
use Rattle.atl_world.specs.Sums.{with_changed_option}
use Rattle.atl_campaign.specs.Covers.{MarksChanges}
use Rattle.atl_records.specs.declared.books.Thing.{Thing}
use Rattle.atl_records.specs.declared.records.Faction.{Faction}
use Rattle.atl_world.specs.Every.{Every, HasValue}
use Rattle.atl_campaign.proofs.GoodLaws.{posted-there}
use Rattle.atl_campaign.specs.Good.{AreInRange, AreKnown, AreNamed, AreNumbered, IsSteady}
use Rattle.atl_campaign.specs.Marking.{mark_faction}
use Rattle.atl_campaign.specs.Campaign.{MarkedCampaign, CampaignValue, numbers_of_faction, with_gone}
use Rattle.atl_campaign.specs.Totals.{total}
use Rattle.atl_campaign.proofs.CoverLaws.{marks-faction}
use Rattle.atl_world.proofs.EveryLaws.{every-insert, get-insert_other, none_some, there-insert}
use Rattle.atl_campaign.proofs.RegionLaws.{changed-known, get-insert_same, same_len}

-- the faction with its flag `gone` set
abbrev pub as_gone : Faction → Faction
as_gone f = record f { gone = true }

module _ (c : CampaignValue) (n : ℕ) (x : Faction) (is : get c.factions n ≡ Some x) where
  abbrev factions : FinMap nat_cmp Faction
  factions = insert c.factions n (as_gone x)

  abbrev left : CampaignValue
  left = record c { factions = factions }

  free_apart : (k : ℕ) → get c.factions k ≡ None → k ≢ n
  free_apart k free same = none_some x (sym free ∙ ap (get c.factions) same ∙ is)

  none_kept : (k : ℕ) → get c.factions k ≡ None → get factions k ≡ None
  none_kept k none = get-insert_other c.factions n k (as_gone x) (free_apart k none) ∙ none

  there : (k : ℕ) → HasValue c.factions k → HasValue factions k
  there k h = there-insert c.factions n k (as_gone x) h

  numbers_kept : (w : WorldValue) → AreInRange w c → AreInRange w left
  numbers_kept w old = record {
    month = old.month;
    few_factions = omega (arith, same_len c.factions n x (as_gone x) is, old.few_factions);
    few_regions = old.few_regions;
    few_units = old.few_units;
    few_structures = old.few_structures;
    next_unit_least = old.next_unit_least;
    next_unit_most = old.next_unit_most;
    factions = every-insert (λ k f. f.number ≡ k) c.factions n (as_gone x) (old.factions n x is) old.factions;
    regions = old.regions;
    units = old.units;
    structures = old.structures;
    books = old.books;
  }

  -- if faction f of number k and faction g of number m joined under the same name, k is m
  abbrev JoinedOnce : ℕ → Faction → ℕ → Faction → Type 0
  JoinedOnce k f m g = f.joined_as ≡ g.joined_as → k ≡ m

  names_kept : AreNamed c → AreNamed left
  names_kept old = record {
    pass = old.pass;
    factions = every-insert (λ k f. IsTrue (name_ok f.joined_as) × IsTrue (name_ok f.name) × IsTrue (pass_ok f.pass)) c.factions n (as_gone x) (old.factions n x is) old.factions;
    joined = every-insert (λ k f. Every (λ m g. JoinedOnce k f m g) factions) c.factions n (as_gone x)
        (every-insert (λ m g. JoinedOnce n (as_gone x) m g) c.factions n (as_gone x) (λ same. refl) (old.joined n x is))
        (λ k f here. every-insert (λ m g. JoinedOnce k f m g) c.factions n (as_gone x) (old.joined k f here n x is) (old.joined k f here));
    units = old.units;
    structures = old.structures;
  }

  known_kept : (w : WorldValue) → AreKnown w c → AreKnown w left
  known_kept w old = record {
    regions = old.regions;
    markets = old.markets;
    units = λ k u here. let p = old.units k u here in record { faction = there u.faction p.faction; region = p.region; structure = p.structure; items = p.items; skills = p.skills };
    structures = old.structures;
    posts = posted-there there old.posts;
  }

  next_kept : AreNumbered c → AreNumbered left
  next_kept old = record {
    factions = record { first = none_kept 0 old.factions.first; count = old.factions.count ∙ ap (λ l. l + 1) (sym (same_len c.factions n x (as_gone x) is)); free = λ k l. none_kept k (old.factions.free k l) };
    structures = old.structures;
    units = old.units;
  }

  steady_gone : (w : WorldValue) → numbers_of_faction n c.units ≡ [] → IsSteady w c → IsSteady w left
  steady_gone w none old = record {
    numbers = numbers_kept w old.numbers;
    names = names_kept old.names;
    known = known_kept w old.known;
    next = next_kept old.next;
    days = old.days;
    gone = every-insert (λ k f. f.gone ≡ true → numbers_of_faction k c.units ≡ []) c.factions n (as_gone x) (λ gone. none) old.gone;
    owners = old.owners;
    water = record { units = old.water.units; structures = old.water.structures };
    guarded = old.guarded;
  }

  gone-known : with_gone c n ≡ left
  gone-known = ap (λ m. record c { factions = m }) (changed-known as_gone c.factions n x is)

  -- the campaign stays steady when a faction without units is set gone
  pub steady-gone : (w : WorldValue) → numbers_of_faction n c.units ≡ [] → IsSteady w c → IsSteady w (with_gone c n)
  steady-gone w none old = subst (IsSteady w) (sym gone-known) (steady_gone w none old)

  pub count-gone : len (with_gone c n).factions ≡ len c.factions
  count-gone = ap (λ (d : CampaignValue). len d.factions) gone-known ∙ same_len c.factions n x (as_gone x) is

  was_there : (k : ℕ) → HasValue factions k → HasValue c.factions k
  was_there k (f, here) =
      every-insert (λ k f. HasValue c.factions k) c.factions n (as_gone x) (x, is) (λ k f here. (f, here)) k f here

  pub known-gone : (k : ℕ) → HasValue (with_gone c n).factions k → HasValue c.factions k
  known-gone k h = was_there k (subst (λ (d : CampaignValue). HasValue d.factions k) gone-known h)

  pub get-gone : get (with_gone c n).factions n ≡ Some (as_gone x)
  get-gone = ap (λ (d : CampaignValue). get d.factions n) gone-known ∙ get-insert_same c.factions n (as_gone x)

  pub get-gone_other : (k : ℕ) → k ≢ n → get (with_gone c n).factions k ≡ get c.factions k
  get-gone_other k apart =
      ap (λ (d : CampaignValue). get d.factions k) gone-known ∙ get-insert_other c.factions n k (as_gone x) apart

pub none-gone : (c : CampaignValue) (n : ℕ) → get c.factions n ≡ None → with_gone c n ≡ c
none-gone c n is = ap (λ o. record c { factions = with_changed_option as_gone c.factions n o }) is

pub total-gone : (c : CampaignValue) (n : ℕ) (t : Thing) → total (with_gone c n) t ≡ total c t
unfolding total
total-gone c n t = refl

-- setting a faction gone, with the faction marked, marks all that changes
pub marks-gone_faction : (c : MarkedCampaign) (n : ℕ)
    → MarksChanges c (record { value = with_gone c.value n; marks = mark_faction c n })
marks-gone_faction = marks-faction as_gone
