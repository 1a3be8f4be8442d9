-- Laws of a faction that shows another name: the campaign stays steady, and no faction is added. In the laws k is the
-- number of any faction.
use Rattle.std.proofs.Common.{◌≡◌, ℕ, ◌+◌, List, Some, None, refl, sym, ap, subst, ◌∙◌, arith}
use Rattle.std.specs.Prelude.{IsTrue, true, []}
use Rattle.std.specs.Ordering.{nat_cmp}
use Rattle.std.specs.FinMap.{FinMap, get, insert, len}
use Rattle.atl_world.specs.Names.{name_ok, pass_ok}
use Rattle.atl_world.specs.Worlds.{WorldValue}
use Rattle.atl_records.specs.declared.records.Faction.{Faction}
use Rattle.atl_world.specs.Every.{Every, HasValue}
use Rattle.atl_campaign.proofs.GoodLaws.{posted-there}
use Rattle.atl_campaign.specs.Good.{AreInRange, AreKnown, AreNamed, AreNumbered, IsSteady}
use Rattle.atl_campaign.specs.Campaign.{CampaignValue, numbers_of_faction, with_faction_name}
use Rattle.atl_world.proofs.EveryLaws.{every-insert, get-insert_other, none_some, there-insert}
use Rattle.atl_campaign.proofs.RegionLaws.{changed-known, same_len}

-- faction n (x) of campaign c shows another name, given by its bytes (`name`)
module _ (c : CampaignValue) (n : ℕ) (x : Faction) (name : List ℕ) (is : get c.factions n ≡ Some x) where
  abbrev renamed : Faction
  renamed = record x { name = name }

  abbrev factions : FinMap nat_cmp Faction
  factions = insert c.factions n renamed

  abbrev shown : CampaignValue
  shown = record c { factions = factions }

  none_kept : (k : ℕ) → get c.factions k ≡ None → get factions k ≡ None
  none_kept k none =
      get-insert_other c.factions n k renamed (λ same. none_some x (sym none ∙ ap (get c.factions) same ∙ is)) ∙ none

  there : (k : ℕ) → HasValue c.factions k → HasValue factions k
  there k h = there-insert c.factions n k renamed h

  same_count : len factions ≡ len c.factions
  same_count = same_len c.factions n x renamed is

  numbers_kept : (w : WorldValue) → AreInRange w c → AreInRange w shown
  numbers_kept w old = record {
    month = old.month;
    few_factions = omega (arith, same_count, old.few_factions);
    few_regions = old.few_regions;
    few_units = old.few_units;
    few_structures = old.few_structures;
    next_unit_least = old.next_unit_least;
    next_unit_most = old.next_unit_most;
    factions = every-insert (λ k f. f.number ≡ k) c.factions n renamed (old.factions n x is) old.factions;
    regions = old.regions;
    units = old.units;
    structures = old.structures;
    books = old.books;
  }

  -- two factions that joined under the same name, byte for byte, have the same number, so they are one
  abbrev JoinedOnce : ℕ → Faction → ℕ → Faction → Type 0
  JoinedOnce k f m g = f.joined_as ≡ g.joined_as → k ≡ m

  names_kept : IsTrue (name_ok name) → AreNamed c → AreNamed shown
  names_kept named old =
      let (joined, was, pass) = old.factions n x is in
      record {
        pass = old.pass;
        factions = every-insert (λ k f. IsTrue (name_ok f.joined_as) × IsTrue (name_ok f.name) × IsTrue (pass_ok f.pass)) c.factions n renamed (joined, named, pass) old.factions;
        joined = every-insert (λ k f. Every (λ m g. JoinedOnce k f m g) factions) c.factions n renamed
            (every-insert (λ m g. JoinedOnce n renamed m g) c.factions n renamed (λ same. refl) (old.joined n x is))
            (λ k f here. every-insert (λ m g. JoinedOnce k f m g) c.factions n renamed (old.joined k f here n x is) (old.joined k f here));
        units = old.units;
        structures = old.structures;
      }

  known_kept : (w : WorldValue) → AreKnown w c → AreKnown w shown
  known_kept w old = record {
    regions = old.regions;
    markets = old.markets;
    units = λ k u here. let p = old.units k u here in record { faction = there u.faction p.faction; region = p.region; structure = p.structure; items = p.items; skills = p.skills };
    structures = old.structures;
    posts = posted-there there old.posts;
  }

  next_kept : AreNumbered c → AreNumbered shown
  next_kept old = record {
    factions = record { first = none_kept 0 old.factions.first; count = old.factions.count ∙ ap (λ l. l + 1) (sym same_count); free = λ k l. none_kept k (old.factions.free k l) };
    structures = old.structures;
    units = old.units;
  }

  steady_shown : (w : WorldValue) → IsTrue (name_ok name) → IsSteady w c → IsSteady w shown
  steady_shown w named old = record {
    numbers = numbers_kept w old.numbers;
    names = names_kept named old.names;
    known = known_kept w old.known;
    next = next_kept old.next;
    days = old.days;
    gone = every-insert (λ k f. f.gone ≡ true → numbers_of_faction k c.units ≡ []) c.factions n renamed (old.gone n x is) old.gone;
    owners = old.owners;
    water = record { units = old.water.units; structures = old.water.structures };
    guarded = old.guarded;
  }

  shown_is : with_faction_name c n name ≡ shown
  shown_is = ap (λ m. record c { factions = m }) (changed-known (λ f. record f { name = name }) c.factions n x is)

  -- a campaign stays steady when a faction shows another name that follows the name rule
  pub steady-faction_name : (w : WorldValue) → IsTrue (name_ok name) → IsSteady w c
      → IsSteady w (with_faction_name c n name)
  steady-faction_name w named old = subst (IsSteady w) (sym shown_is) (steady_shown w named old)

  -- there are as many factions after a faction shows another name as before
  pub count-faction_name : len (with_faction_name c n name).factions ≡ len c.factions
  count-faction_name = ap (λ (d : CampaignValue). len d.factions) shown_is ∙ same_count

  was_there : (k : ℕ) → HasValue factions k → HasValue c.factions k
  was_there k (f, here) =
      every-insert (λ k f. HasValue c.factions k) c.factions n renamed (x, is) (λ k f here. (f, here)) k f here

  -- each faction that is there after faction n shows another name was there before
  pub known-faction_name : (k : ℕ) → HasValue (with_faction_name c n name).factions k → HasValue c.factions k
  known-faction_name k h = was_there k (subst (λ (d : CampaignValue). HasValue d.factions k) shown_is h)
