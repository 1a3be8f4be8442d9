-- Laws of a whole month: with the month counted and the mail removed the campaign is good again, mail order doesn't
-- count, and what is left to units of a faction that sent no mailing. `c` is the campaign before the phases of the
-- month, and `d` the one after them. `m` is what the month carries as its first phase begins (`new_month`), and `n`
-- what it carries after the last one. `ms` are the mailings, `readings` what was read of them, and `words` the words
-- of the dice.
use Rattle.std.proofs.Common.{◌≡◌, ℕ, ◌+◌, ◌*◌, ◌≤◌, ◌<◌, List, ap, ◌∙◌, arith, ◌≢◌, ◌-◌, cond, [], ◌∷◌, map, Some, None, refl, sym, subst}
use Rattle.std.specs.Prelude.{ℤ}
use Rattle.std.specs.FinMap.{FinMap, empty, get, len, find, get-from_entries, nat_cmp-IsAntisymmetric}
use Rattle.std.specs.Ordering.{nat_cmp, is_eq}
use Rattle.std.proofs.lemmas.Int.{ints}
use Rattle.atl_world.specs.Worlds.{WorldValue}
use Rattle.atl_records.specs.declared.event.Event.{Event}
use Rattle.atl_records.specs.Books.{IsWithin, amount_in}
use Rattle.atl_world.specs.Every.{HasValue, Every}
use Rattle.atl_campaign.specs.Good.{AreAmountsWithin, IsGood, IsSound, IsSteady, amount_bound}
use Rattle.atl_records.specs.Limits.{last_month}
use Rattle.atl_campaign.specs.Campaign.{CampaignValue}
use Rattle.atl_campaign.specs.Totals.{Balances, total}
use Rattle.atl_orders.specs.Mailing.{Reading, reading_of}
use Rattle.atl_world.proofs.EveryLaws.{every-empty}
use Rattle.atl_campaign.proofs.GoodLaws.{posted-steady, posted-unsent}
use Rattle.atl_phase.specs.Month.{MonthValue, by_faction}
use Rattle.atl_phase.specs.Meaning.{BookBound, Condition, IsNear, IsSameMonth, LeavesWell, Meaning, Frame}
use Rattle.atl_phase.specs.Bounds.{HaveRoom}
use Rattle.atl_phase.proofs.MonthLaws.{mailings_have_no_order}
use Rattle.atl_phase.proofs.MeaningLaws.{IsBoundWithin, near_more, room_when_sound}
use Rattle.atl_month.specs.Month.{BooksAreNear, MailOrderDoesNotCount, after_month, month_meaning, month_moves, month_of, new_month, phases_bound, early_phases, last_phases, later_phases, month_keeps}
use Rattle.atl_upkeep.specs.Sweep.{IsSwept}
use Rattle.atl_month.proofs.CountLaws.{has_all_back}
use Rattle.atl_month.proofs.MoveLaws.{month_within, moves_in_month, phases_little}
use Rattle.std.specs.List.{AllByRecursion}
use Rattle.std.specs.Cmp.{nat_cmp_total}
use Rattle.std.specs.declared.cmp.Ordering.TheVariants.{Less, Equal, Greater}
use Rattle.std.proofs.lemmas.List.Elements.{recursion_from_All}
use Rattle.atl_orders.specs.declared.mailing.Mailing.{Mailing}
use Rattle.atl_phase.specs.Unmailed.{IsLeft, starved_in}
use Rattle.atl_phase.proofs.UnmailedLaws.{ClosesUnmailed, both_leave, then_closes}
use Rattle.atl_phase.proofs.PhaseSpecLaws.{closed_together, each_also, leave_together}
use Rattle.atl_month.proofs.PhaseLaws.{KeepsPhaseLaws, early_are, last_leave, later_are}
use Rattle.atl_month.specs.Unmailed.{SentNone, UnmailedAreLeft}

-- `d` is the campaign after the phases, before the month is counted and the mail removed (`after_month`)
module _ (w : WorldValue) (d : CampaignValue) where
  finished_steady : d.month < last_month → IsSteady w d → IsSteady w (after_month d)
  finished_steady early old =
      posted-steady w d (d.month + 1) empty d.reports (omega (arith, early)) (posted-unsent old.known.posts) old

  finished_balances : Balances d → Balances (after_month d)
  unfolding total
  finished_balances old t = old t

-- `d` is campaign `c` after the phases, which leave it swept (`IsSwept`) and move each amount of the books by at most
-- `book_bound`, itself at most 2*10^14 (`moves_in_month`). A month is left to close (`early`).
module _ (w : WorldValue) (c d : CampaignValue) (book_bound : BookBound) (little : IsBoundWithin book_bound moves_in_month) (early : c.month < last_month) (well : LeavesWell IsSwept book_bound w c d) where
  abbrev same : IsSameMonth c d
  same = well.same_month

  -- An amount within a bound (`more`) is, once moved by at most `m`, which is at most 2*10^14, within a bound (`most`)
  -- that is greater by at least 2*10^14.
  near_within : (a b : ℤ) (m more most : ℕ) → m ≤ 200000000000000 → more + 200000000000000 ≤ most → IsNear m a b
      → IsWithin more a → IsWithin most b
  near_within a b m more most l fits near within =
      record { most = omega (arith, ints, near.above, within.most); least = omega (arith, ints, near.below, within.least) }

  -- the bound on the books, 2*10^14 for each month (`a`, `b`) and 10^9 for each faction (`f`, `g`), grows by 2*10^14
  -- with one month more
  bound_grows : (a b f g : ℕ) → b ≡ a → g ≡ f
      → (200000000000000 * (a + 1) + 1000000000 * f) + 200000000000000
      ≤ 200000000000000 * ((b + 1) + 1) + 1000000000 * g
  bound_grows a b f g month count = omega (arith, month, count)

  amounts_within : AreAmountsWithin c → AreAmountsWithin (after_month d)
  amounts_within old e t =
      near_within (amount_in c.books e t) (amount_in d.books e t) (book_bound e t) (amount_bound c) (amount_bound (after_month d)) (little e t)
      (bound_grows c.month d.month (len c.factions) (len d.factions) same.month same.count) (well.near e t) (old e t)

  finished_sound : IsSound w c → IsSound w (after_month d)
  finished_sound old = record {
    steady = finished_steady w d (omega (arith, same.month, early)) well.leaves_it.steady;
    men = well.leaves_it.men;
    amounts = amounts_within old.amounts;
    gone = well.leaves_it.gone;
    balances = finished_balances w d (well.balances old.balances);
    mail = every-empty _;
  }

  -- once the phases ran, the month is counted and the mail is removed, a good campaign is good again
  pub finished_good : IsGood w c → IsGood w (after_month d)
  finished_good old = record {
    sound = finished_sound old.sound;
    reported = λ n f is. let there = same.factions n (f, is) in let report = old.reported n there.0 there.1 in (report.0, ap (λ reports. get reports n) same.reports ∙ report.1);
  }

-- ---- what a month leaves of the books and of the factions

-- `d` is campaign `c` after the phases, which move each amount of the books by at most `phases_bound`; `leaves` is what
-- else holds of `d`
module _ {leaves : Condition} (w : WorldValue) (c d : CampaignValue) (well : LeavesWell leaves phases_bound w c d) where
  -- the phases of a month move each amount of the books by at most 10^14 - 1 for each phase that may move it
  pub books_near : BooksAreNear month_moves c d
  books_near e t =
      near_more (phases_bound e t) (month_moves e t) (amount_in c.books e t) (amount_in d.books e t) (month_within e t)
      (well.near e t)

  -- each faction that was there before the phases of a month is there after them
  pub factions_stay : (n : ℕ) → HasValue c.factions n → HasValue d.factions n
  factions_stay = has_all_back c.factions d.factions well.same_month.count well.same_month.factions

-- the books of a sound campaign have room for all phases of a month together
pub phases_room : (w : WorldValue) (c : CampaignValue) → IsSound w c → HaveRoom phases_bound c
phases_room w c sound = room_when_sound w c phases_bound (λ e t. omega (arith, phases_little e t)) sound

-- If some phases, run on month `m`, made campaign `d` and some events, they make the same when run on month `begin`,
-- which is equal to `m`.
phases_result : (phases : Meaning) (w : WorldValue) (c d : CampaignValue) (m n : MonthValue) (begin : MonthValue) (events : List Event)
    → (d, n) ≡ phases w c m → m ≡ begin → events ≡ n.events
    → ◌≡◌ {A = CampaignValue × List Event} (d, events) ((phases w c begin).0, (phases w c begin).1.events)
phases_result phases w c d m n begin events meaning begins events_are =
    ap (λ (es : List Event). (d, es)) events_are
    ∙ ap (λ (p : CampaignValue × MonthValue). (p.0, p.1.events)) (meaning ∙ ap (phases w c) begins)

-- if the phases make campaign d and month n of c and a new month m, d and the events of n are those of `month_of`
pub month_is : (w : WorldValue) (c d : CampaignValue) (m n : MonthValue) (readings : FinMap nat_cmp Reading) (words : List ℕ) (events : List Event)
    → (d, n) ≡ month_meaning w c m → m ≡ new_month readings words → events ≡ n.events
    → (d, events) ≡ month_of w c readings words
unfolding month_of
month_is w c d m n readings words events meaning begins events_are =
    phases_result month_meaning w c d m n (new_month readings words) events meaning begins events_are

-- the mailings of a month, at most one of each faction, make the same campaign and events in another order
pub mail_order_does_not_count : MailOrderDoesNotCount
mail_order_does_not_count w c words mailings others own same =
    ap (λ readings. month_of w c readings words) (mailings_have_no_order mailings others own same)

-- ---- the month

-- a month that keeps what `month_keeps` says removes a unit of a faction without a mailing only if all its men starve,
-- and else leaves it its items and its other men (`IsLeft`)
month_leaves : ClosesUnmailed month_meaning month_keeps
month_leaves =
    then_closes (both_leave (leave_together early_phases (each_also (λ phase (is : KeepsPhaseLaws phase). is.leaves) early_phases early_are)) (leave_together later_phases (each_also (λ phase (is : KeepsPhaseLaws phase). is.leaves) later_phases later_are)))
    (closed_together last_phases last_leave)

none_read : (f : ℕ) (ms : List Mailing) → SentNone ms f → get (by_faction (map reading_of ms)) f ≡ None
none_read f ms none =
    get-from_entries nat_cmp_total (map (λ r. (r.faction, r)) (map reading_of ms)) f
    ∙ not_found ms (recursion_from_All (λ m. m.faction ≢ f) ms none)
  where
    not_found : (ms : List Mailing) → AllByRecursion (λ m. m.faction ≢ f) ms
        → find nat_cmp f (map (λ r. (r.faction, r)) (map reading_of ms)) ≡ None
    not_found [] none = refl
    not_found (m ∷ ms) none =
        elim (nat_cmp f m.faction) as (λ o. nat_cmp f m.faction ≡ o → cond (is_eq o) (Some (reading_of m)) (find nat_cmp f (map (λ r. (r.faction, r)) (map reading_of ms))) ≡ None) [
          | Less ↦ λ o. not_found ms none.1
          | Equal ↦ λ o. absurd (none.0 (sym (nat_cmp-IsAntisymmetric f m.faction o)))
          | Greater ↦ λ o. not_found ms none.1
        ] refl

-- Phases that do as `ClosesUnmailed` says leave units of factions without a mailing their items, and their men less the
-- starved. If the month begins without events, its events report these men. A unit all of whose men starved is removed
-- (`IsLeft`).
phases_leave_unmailed : (phases : Meaning) (keeps : Frame) → ClosesUnmailed phases keeps
    → (w : WorldValue) (c d : CampaignValue) (m : MonthValue) (events : List Event) → m.events ≡ []
    → ◌≡◌ {A = CampaignValue × List Event} (d, events) ((phases w c m).0, (phases w c m).1.events) → keeps w m c d
    → Every (λ n u. get m.readings u.faction ≡ None → IsLeft (starved_in events n) d n u) c.units
phases_leave_unmailed phases keeps closes w c d m events begins is kept n u there none =
    let state : d ≡ (phases w c m).0 = ap (λ (p : CampaignValue × List Event). p.0) is in
    let events_are : events ≡ (phases w c m).1.events = ap (λ (p : CampaignValue × List Event). p.1) is in
    let from_none : starved_in m.events n ≡ 0 = ap (λ es. starved_in es n) begins in
    let so_many : starved_in (phases w c m).1.events n - starved_in m.events n ≡ starved_in events n = omega (arith, from_none, ap (λ es. starved_in es n) events_are) in
    subst (λ k. IsLeft k d n u) so_many (subst (λ s. IsLeft (starved_in (phases w c m).1.events n - starved_in m.events n) s n u) (sym state)
    (closes.left w c m (subst (keeps w m c) state kept) n u there none))

-- After a month each unit of a faction without a mailing has its faction and name, no less of any item, and all men who
-- didn't starve. It is removed where all its men starved (`UnmailedAreLeft`). For this d and `events` are what the
-- month makes of c (`month_of`), and the phases keep what `month_keeps` says from c to d.
pub unmailed_left : (w : WorldValue) (c d : CampaignValue) (ms : List Mailing) (words : List ℕ) (events : List Event)
    → (d, events) ≡ month_of w c (by_faction (map reading_of ms)) words
    → month_keeps w (new_month (by_faction (map reading_of ms)) words) c d → UnmailedAreLeft ms events c d
unfolding month_of
unmailed_left w c d ms words events is kept n u there none =
    phases_leave_unmailed month_meaning month_keeps month_leaves w c d (new_month (by_faction (map reading_of ms)) words) events refl is kept n u there (none_read u.faction ms none)
