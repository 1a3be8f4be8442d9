-- Laws of good campaigns: reports and mail keep them good, and good ones are early.
-- c is a campaign of the world w. `mail` and `reports` are texts by the numbers of their factions. A faction joins with
-- name `name`, pass text `pass` and a word of the dice, `word`; `faction` and `unit` are its number and its unit's.
use Rattle.std.proofs.Common.{◌≡◌, ◌≤◌, ◌&&◌, ℕ, Bool, true, false, cond, nat_lt, List, Result, Ok, Err, subst, arith}
use Rattle.std.proofs.lemmas.Bool.Decides.{nat_tests}
use Rattle.std.specs.Cmp.Derive.{both_true}
use Rattle.std.specs.Ordering.{nat_cmp}
use Rattle.std.specs.FinMap.{FinMap, empty, insert}
use Rattle.atl_world.specs.Worlds.{WorldValue}
use Rattle.atl_words.specs.Header.{IsMailingOf}
use Rattle.atl_records.specs.declared.records.JoinFault.{JoinFault}
use Rattle.atl_records.specs.declared.records.JoinFault.TheVariants.{NameTaken, Full}
use Rattle.atl_records.specs.declared.records.Faction.{Faction}
use Rattle.atl_records.specs.Limits.{last_month}
use Rattle.atl_campaign.specs.Campaign.{CampaignValue, with_mail, with_report}
use Rattle.atl_campaign.specs.Totals.{total}
use Rattle.atl_world.specs.Every.{Every, HasValue}
use Rattle.atl_campaign.specs.Early.{GoodAreEarly, SoundAreEarly}
use Rattle.atl_campaign.specs.Good.{IsActive, AreInRange, AreNamed, AreOfFactions, AreKnown, IsSteady, IsSound, IsGood}
use Rattle.atl_campaign.specs.Joining.{after_join, join_of, name_taken, is_full, new_faction}
use Rattle.atl_world.proofs.EveryLaws.{every-empty, every-insert, there-new, there-insert}

-- ---- mail and reports

-- mail and reports of some factions are also of the factions `later`, if each number of the first has a faction there
pub posted-there : {factions later : FinMap nat_cmp Faction} {mail reports : FinMap nat_cmp (List ℕ)}
    → ((n : ℕ) → HasValue factions n → HasValue later n) → AreOfFactions factions mail reports
    → AreOfFactions later mail reports
posted-there stays posts =
    record { mail = λ n text is. stays n (posts.mail n text is); reports = λ n text is. stays n (posts.reports n text is) }

-- reports stay of factions that exist when all mail is removed
pub posted-unsent : {factions : FinMap nat_cmp Faction} {mail reports : FinMap nat_cmp (List ℕ)}
    → AreOfFactions factions mail reports → AreOfFactions factions empty reports
posted-unsent posts = record { mail = every-empty _; reports = posts.reports }

pub AreOfFactions-empty : {factions : FinMap nat_cmp Faction} → AreOfFactions factions empty empty
AreOfFactions-empty = record { mail = every-empty _; reports = every-empty _ }

module _ (w : WorldValue) (c : CampaignValue) (month : ℕ) (mail reports : FinMap nat_cmp (List ℕ)) where
  -- the campaign with the given month, mail and reports
  abbrev posted : CampaignValue
  posted = record c { month = month; mail = mail; reports = reports }

  posted-numbers : month ≤ last_month → AreInRange w c → AreInRange w posted
  posted-numbers early old = record {
    month = early;
    few_factions = old.few_factions;
    few_regions = old.few_regions;
    few_units = old.few_units;
    few_structures = old.few_structures;
    next_unit_least = old.next_unit_least;
    next_unit_most = old.next_unit_most;
    factions = old.factions;
    regions = old.regions;
    units = old.units;
    structures = old.structures;
    books = old.books;
  }

  posted-names : AreNamed c → AreNamed posted
  posted-names old =
      record { pass = old.pass; factions = old.factions; joined = old.joined; units = old.units; structures = old.structures }

  module _ (early : month ≤ last_month) (posts : AreOfFactions c.factions mail reports) where
    posted-known : AreKnown w c → AreKnown w posted
    posted-known old =
        record { regions = old.regions; markets = old.markets; units = old.units; structures = old.structures; posts = posts }

    -- the campaign stays steady with the given month, up to last_month, and the given mail and reports of its factions
    pub posted-steady : IsSteady w c → IsSteady w posted
    posted-steady old = record {
      numbers = posted-numbers early old.numbers;
      names = posted-names old.names;
      known = posted-known old.known;
      next = record { factions = old.next.factions; structures = old.next.structures; units = old.next.units };
      days = old.days;
      gone = old.gone;
      owners = old.owners;
      water = record { units = old.water.units; structures = old.water.structures };
      guarded = old.guarded;
    }

posted-sound : (w : WorldValue) (c : CampaignValue) (mail reports : FinMap nat_cmp (List ℕ))
    → AreOfFactions c.factions mail reports
    → Every (λ n text. IsMailingOf n text × IsActive c n) mail → IsSound w c → IsSound w (record c { mail = mail; reports = reports })
unfolding total
posted-sound w c mail reports posts sent old = record {
  steady = posted-steady w c c.month mail reports old.steady.numbers.month posts old.steady;
  men = old.men;
  amounts = old.amounts;
  gone = old.gone;
  balances = old.balances;
  mail = sent;
}

-- a sound campaign stays sound when a report of one of its factions is stored
pub IsSound-with_report : (w : WorldValue) (c : CampaignValue) (faction : ℕ) (text : List ℕ)
    → HasValue c.factions faction → IsSound w c → IsSound w (with_report c faction text)
IsSound-with_report w c faction text there old =
    let posts = old.steady.known.posts in
    posted-sound w c c.mail (insert c.reports faction text) (record { mail = posts.mail; reports = every-insert (λ n text. HasValue c.factions n) c.reports faction text there posts.reports }) old.mail old

-- a good campaign stays good when a report of one of its factions is stored
pub IsGood-with_report : (w : WorldValue) (c : CampaignValue) (faction : ℕ) (text : List ℕ)
    → HasValue c.factions faction → IsGood w c → IsGood w (with_report c faction text)
IsGood-with_report w c faction text there good = record {
  sound = IsSound-with_report w c faction text there good.sound;
  reported = λ n f is. there-insert c.reports faction n text (good.reported n f is);
}

-- a good campaign stays good when a mailing (IsMailingOf) of a faction that is there and not gone is stored for it
pub IsGood-with_mail : (w : WorldValue) (c : CampaignValue) (faction : ℕ) (text : List ℕ) → IsMailingOf faction text
    → IsActive c faction → IsGood w c → IsGood w (with_mail c faction text)
IsGood-with_mail w c faction text sent active good =
    let posts = good.sound.steady.known.posts in
    let (f, there, stays) = active in
    record {
      sound =
          posted-sound w c (insert c.mail faction text) c.reports
          (record { mail = every-insert (λ n text. HasValue c.factions n) c.mail faction text (f, there) posts.mail; reports = posts.reports })
          (every-insert (λ n text. IsMailingOf n text × IsActive c n) c.mail faction text (sent, active) good.sound.mail) good.sound;
      reported = good.reported;
    }

-- for IsGood-joined: if a join answers Ok y, it was not refused, so y is x, the joined campaign with the new numbers
joined_answer : (taken full : Bool) (x y : CampaignValue × (ℕ × ℕ))
    → ◌≡◌ {A = Result (CampaignValue × (ℕ × ℕ)) JoinFault} (cond taken (Err NameTaken) (cond full (Err Full) (Ok x))) (Ok y)
    → x ≡ y
joined_answer true full x y e = cc
joined_answer false true x y e = cc
joined_answer false false x y e = cc

-- if c is good, and d is the campaign after a faction joined c and is sound, d is good once a report of that faction is
-- stored
pub IsGood-joined : (w : WorldValue) (name pass : List ℕ) (word : ℕ) (c d : CampaignValue) (faction unit : ℕ) (text : List ℕ)
    → join_of w name pass word c ≡ Ok (d, (faction, unit)) → IsGood w c → IsSound w d
    → IsGood w (with_report d faction text)
unfolding join_of after_join
IsGood-joined w name pass word c d faction unit text is good sound =
    let same = joined_answer (name_taken c name) (is_full c) (after_join w name pass word c, (c.next_faction, c.next_unit)) (d, (faction, unit)) is in
    let member = new_faction c.next_faction name pass in
    let whole : IsSound w d → IsGood w (with_report d faction text) = subst (λ (p : CampaignValue × (ℕ × ℕ)). IsSound w p.0 → IsGood w (with_report p.0 p.1.0 text)) same (λ new. record {
      sound = IsSound-with_report w (after_join w name pass word c) c.next_faction text (there-new c.factions c.next_faction member) new;
      reported = every-insert (λ n f. HasValue (insert c.reports c.next_faction text) n) c.factions c.next_faction member (there-new c.reports c.next_faction text) (λ n f is. there-insert c.reports c.next_faction n text (good.reported n f is));
    }) in
    whole sound

set_guards : (flag : Bool) (men : ℕ) → 1 ≤ men → flag ≡ true → (flag && nat_lt 0 men) ≡ true
set_guards flag men h set = let some : nat_lt 0 men ≡ true = grind (arith, nat_tests) in both_true set some

pub sound_early : SoundAreEarly
sound_early w c sound = record {
  steady = sound.steady;
  flags = λ n u is m v there e f. sound.steady.guarded n u is m v there (set_guards u.holding.guard u.holding.men (sound.men n u is) e) (set_guards v.holding.guard v.holding.men (sound.men m v there) f);
}

pub IsEarly-good : GoodAreEarly
IsEarly-good w c good = sound_early w c good.sound
