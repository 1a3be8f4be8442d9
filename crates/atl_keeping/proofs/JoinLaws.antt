-- Laws on `write_join` and `write_mail`: tables that held the campaign before hold the one after.
-- The faction `f` with the number `n` joins, with its unit `u` under the number `m`; `after` is the campaign then.
-- `world` is the world text with which the campaign row is put; a row that is there keeps its own.
-- `start` is the state before the steps of a law, and `one`, `two` and `three` are those after the first, the second
-- and the third. Each step is on tables of a campaign, and keeps all other tables (`DoesInside HasTables`).
use Rattle.std.proofs.Common.{◌≡◌, ◌≢◌, ◌⊎◌, ◌+◌, ℕ, ℤ, pos, List, [], ◌∷◌, map, Some, None, false, refl, sym, ap, ◌∙◌, subst, inl, inr, take, arith}
use Rattle.std.specs.Prelude.{◌+ℤ◌}
use Rattle.std.specs.Ordering.{nat_cmp}
use Rattle.std.specs.FinMap.{FinMap, get, insert, empty}
use Rattle.std.proofs.lemmas.Option.{same_Some}
use Rattle.sqlite.specs.Order.{Row}
use Rattle.sqlite.specs.Table.{Table}
use Rattle.sqlite.specs.Effect.{Database}
use Rattle.sqlite.specs.State.{State}
use Rattle.sqlite_rules.specs.Lists.{Has}
use Rattle.atl_campaign.specs.Campaign.{CampaignValue, with_mail}
use Rattle.atl_records.specs.Books.{BooksValue, amount_in, after_booking, entry_index, thing_index}
use Rattle.atl_records.proofs.AccountLaws.{apart_entries, apart_things}
use Rattle.atl_records.proofs.BookLaws.{other_amount}
use Rattle.atl_campaign.specs.Joining.{after_join, new_faction, first_unit}
use Rattle.atl_records.specs.declared.books.BooksEntry.{BooksEntry}
use Rattle.atl_records.specs.declared.books.BooksEntry.TheVariants.{Joining}
use Rattle.atl_records.specs.declared.books.Thing.{Thing}
use Rattle.atl_records.specs.declared.books.Thing.TheVariants.{Money, People}
use Rattle.atl_records.specs.declared.records.Faction.{Faction}
use Rattle.atl_records.specs.declared.records.Unit.{Unit}
use Rattle.atl_sql.specs.declared.rows.has.ThingKind.{ThingKind}
use Rattle.atl_sql.specs.declared.rows.has.ThingKind.TheVariants.{Item, Skill}
use Rattle.atl_descriptions.specs.Sets.{HasExactly, Set, put, visible_row, rows_in}
use Rattle.atl_descriptions.specs.Tables.{Part, Own, Factions, Units, Goods, Mail, Reports, Books, table_of, campaign_table, faction_table, unit_table, has_table, mail_table, report_table, books_table, all_tables}
use Rattle.atl_sql.specs.Shown.{CampaignRowValue, campaign_row, mail_row, report_row}
use Rattle.atl_writing.specs.Rows.{campaign_row_of, row_of_campaign, row_of_faction, row_of_unit, RowsOf, HasRowsOf, rows_for, things_of, Holds}
use Rattle.atl_sql.specs.PutsCampaignRow.{PutsCampaignRow}
use Rattle.atl_sql.specs.Inside.{DoesInside, HasTables, DoesBoth, Puts}
use Rattle.atl_keeping.specs.Keeps.{IsJoining}
use Rattle.atl_writing.specs.Arriving.{HasArrivalWith, AddsJoin, rows_with_amount, WritesAmount, HasPut, WritesJoin, WritesMail}
use Rattle.atl_sql.proofs.PartLaws.{listed, same_part, is_among, not_among}
use Rattle.atl_writing.proofs.TurnLaws.{stays_is}
use Rattle.atl_writing.proofs.ArriveLaws.{put_rows, no_goods, written_amount_changes_books}
use Rattle.atl_writing.proofs.WholeLaws.{inside_then, inside_weaker}
use Rattle.atl_world.proofs.TrackLaws.{get_inserted}

others_booked : (books : BooksValue) (e : BooksEntry) (t : Thing) (n : ℤ) (f : BooksEntry) (u : Thing)
    → (entry_index f ≢ entry_index e) ⊎ (thing_index u ≢ thing_index t)
    → amount_in (after_booking books e t n) f u ≡ amount_in books f u
others_booked books e t n f u far =
    other_amount books e t (amount_in books e t +ℤ n) f u
    (elim far [ inl entries ↦ apart_entries (f, u) (e, t) entries | inr things ↦ apart_things (f, u) (e, t) things ])

-- ---- how the campaign after a joining differs

-- The campaign `after` is `before` with this faction, unit and report, and with money and people booked.
record IsArrival (n : ℕ) (f : Faction) (m : ℕ) (u : Unit) (report : List ℕ) (before after : CampaignValue) : Type 0 where
  factions : after.factions ≡ insert before.factions n f
  units : after.units ≡ insert before.units m u
  reports : after.reports ≡ insert before.reports n report
  fresh : get before.units m ≡ None
  bare : (sort : ThingKind) → things_of sort u.holding ≡ empty
  -- the books once the money is booked under joining, and not yet the people
  half : BooksValue
  money : amount_in half Joining Money ≡ amount_in after.books Joining Money
  first : (e : BooksEntry) (t : Thing) → (entry_index e ≢ 1) ⊎ (thing_index t ≢ 0)
      → amount_in half e t ≡ amount_in before.books e t
  second : (e : BooksEntry) (t : Thing) → (entry_index e ≢ 1) ⊎ (thing_index t ≢ 1)
      → amount_in after.books e t ≡ amount_in half e t

found_is : {V : Type 0} (m after : FinMap nat_cmp V) (n k : ℕ) (v w : V) → after ≡ insert m n v → k ≡ n
    → get after k ≡ Some w → v ≡ w
found_is {V} m after n k v w is same got =
    same_Some v w
    (sym (get_inserted m n v) ∙ ap (λ (x : FinMap nat_cmp V). get x n) (sym is) ∙ ap (get after) (sym same) ∙ got)

arrives : (n : ℕ) (f : Faction) (m : ℕ) (u : Unit) (report : List ℕ) (before after : CampaignValue)
    → HasArrivalWith after n f m u report → IsJoining before n after → IsArrival n f m u report before after
unfolding after_join
arrives n f m u report before after found joining =
    let w = joining.0 in
    let good = joining.5 in
    let is = joining.7 in
    let member = new_faction before.next_faction joining.1 joining.2 in
    let band = first_unit w joining.3 before in
    let start = pos w.rules.start_money in
    let half = after_booking before.books Joining Money start in
    let number : n ≡ before.next_faction = joining.6 in
    let next : after.next_unit ≡ before.next_unit + 1 = ap (λ (c : CampaignValue). c.next_unit) is in
    let unit_number : m ≡ before.next_unit = omega (arith, next, found.place_is) in
    let factions : after.factions ≡ insert before.factions before.next_faction member = ap (λ (c : CampaignValue). c.factions) is in
    let units : after.units ≡ insert before.units before.next_unit band = ap (λ (c : CampaignValue). c.units) is in
    let reports : after.reports ≡ insert before.reports n joining.4 = ap (λ (c : CampaignValue). c.reports) is in
    let books : after.books ≡ after_booking half Joining People (pos 1) = ap (λ (c : CampaignValue). c.books) is in
    let member_is : member ≡ f = found_is before.factions after.factions before.next_faction n member f factions number found.faction_is in
    let band_is : band ≡ u = found_is before.units after.units before.next_unit m band u units unit_number found.unit_is in
    let report_is : joining.4 ≡ report = found_is before.reports after.reports n n joining.4 report reports refl found.report_is in
    record {
      factions = factions ∙ ap (λ k. insert before.factions k member) (sym number) ∙ ap (insert before.factions n) member_is;
      units = units ∙ ap (λ k. insert before.units k band) (sym unit_number) ∙ ap (insert before.units m) band_is;
      reports = reports ∙ ap (insert before.reports n) report_is;
      fresh = good.sound.steady.next.units m (omega (arith, unit_number));
      bare = λ sort. subst (λ (x : Unit). things_of sort x.holding ≡ empty) band_is (nothing sort);
      half = half;
      money = sym (ap (λ (b : BooksValue). amount_in b Joining Money) books ∙ others_booked half Joining People (pos 1) Joining Money (inr (λ e. absurd (omega (arith, e)))));
      first = λ e t far. others_booked before.books Joining Money start e t far;
      second = λ e t far. ap (λ (b : BooksValue). amount_in b e t) books ∙ others_booked half Joining People (pos 1) e t far;
    }
  where
    nothing : (sort : ThingKind) → things_of sort (first_unit joining.0 joining.3 before).holding ≡ empty
    nothing Item = refl
    nothing Skill = refl

-- ---- the statements of a joining

put_replaces_campaign_row : (rows news : List Row) (text : List ℕ) (before after : CampaignRowValue)
    → HasExactly rows (λ r. r ≡ campaign_row before text) → HasExactly news (put 1 (campaign_row after text) (Has rows))
    → HasExactly news (λ r. r ≡ campaign_row after text)
put_replaces_campaign_row rows news text before after was made r = (
  λ there. elim ((made r).0 there) [ inl same ↦ same | inr kept ↦ absurd (kept.1 (ap (take 1) ((was r).0 kept.0))) ],
  λ same. (made r).1 (inl same),
)

-- The campaign row, the row of the faction that joins, and that of its unit are put.
abbrev PutsNewcomer : ℕ → Faction → ℕ → Unit → CampaignValue → List ℕ → Database → Database → Type 0
PutsNewcomer n f m u after world =
    DoesBoth (PutsCampaignRow (campaign_row_of after) world)
    (DoesBoth (Puts faction_table 1 (row_of_faction n f)) (Puts unit_table 1 (row_of_unit m u)))

-- The report's row is put, and the two amounts under joining, of money and people, are written into `books`.
abbrev PutsReportAndAmounts : ℕ → List ℕ → CampaignValue → Database → Database → Type 0
PutsReportAndAmounts n report after =
    DoesBoth (Puts report_table 1 (report_row n report))
    (DoesBoth (WritesAmount after Joining Money) (WritesAmount after Joining People))

-- a table that the first and the last of three steps leave alone changes over all three (by `F`) as it does in the step
-- from `b` to `c`
middle_step_changes_rows : (t : Table) (F : List Row → Set) (a b c d : Database) → b.trees t.tree ≡ a.trees t.tree
    → d.trees t.tree ≡ c.trees t.tree → HasExactly (rows_in t c.trees) (F (rows_in t b.trees))
    → HasExactly (rows_in t d.trees) (F (rows_in t a.trees))
middle_step_changes_rows t F a b c d first last is =
    subst (λ rows. HasExactly rows (F (rows_in t a.trees))) (sym (ap (map (visible_row t)) last))
    (subst (λ rows. HasExactly (rows_in t c.trees) (F rows)) (ap (map (visible_row t)) first) is)

amount_is_written_on_rows : (c : CampaignValue) (e : BooksEntry) (t : Thing) (rows news : List Row) (S : Set)
    → HasExactly rows S → HasExactly news (rows_with_amount c e t (Has rows))
    → HasExactly news (rows_with_amount c e t S)
amount_is_written_on_rows c e t rows news S was is r = (
  λ there. elim ((is r).0 there) [ inl new ↦ inl new | inr kept ↦ inr ((was r).0 kept.0, kept.1) ],
  λ h. (is r).1 (elim h [ inl new ↦ inl new | inr kept ↦ inr ((was r).1 kept.0, kept.1) ]),
)

module _ (n : ℕ) (f : Faction) (m : ℕ) (u : Unit) (report : List ℕ) (after : CampaignValue) (found : HasArrivalWith after n f m u report) where
  joins : (world : List ℕ) (a b d : Database) → PutsNewcomer n f m u after world a b
      → PutsReportAndAmounts n report after b d → WritesJoin n after a d
  joins world a b d enrolls reports before text was =
      let x = enrolls.0 in
      let y = enrolls.2.0 in
      let z = reports.0 in
      let w = reports.2.0 in
      let head = enrolls.1.again before text was in
      let member = enrolls.2.1 in
      let unit = enrolls.2.2 in
      let welcome = reports.1 in
      let money = reports.2.1 in
      let people = reports.2.2 in
      let to_books : (t : Table) → Has all_tables t → t.tree ≢ 0 → t.tree ≢ 1 → t.tree ≢ 4 → b.trees t.tree ≡ a.trees t.tree = λ t listed h0 h1 h4. unit.others t listed h4 ∙ member.others t listed h1 ∙ head.others t listed h0 in
      let from_books : (t : Table) → Has all_tables t → t.tree ≢ 9 → t.tree ≢ 10 → d.trees t.tree ≡ b.trees t.tree = λ t listed h9 h10. people.others t listed h10 ∙ money.others t listed h10 ∙ welcome.others t listed h9 in
      let alone : (t : Table) → Has all_tables t → t.tree ≢ 0 → t.tree ≢ 1 → t.tree ≢ 4 → t.tree ≢ 9 → t.tree ≢ 10 → d.trees t.tree ≡ a.trees t.tree = λ t listed h0 h1 h4 h9 h10. from_books t listed h9 h10 ∙ to_books t listed h0 h1 h4 in
      record {
        campaign = stays_is campaign_table (λ r. r ≡ row_of_campaign text after) x d
            (from_books campaign_table (listed Own) (λ e. absurd (omega (arith, e))) (λ e. absurd (omega (arith, e))) ∙ unit.others campaign_table (listed Own) (λ e. absurd (omega (arith, e))) ∙ member.others campaign_table (listed Own) (λ e. absurd (omega (arith, e))))
            (put_replaces_campaign_row (rows_in campaign_table a.trees) (rows_in campaign_table x.trees) text before (campaign_row_of after) was head.rows);
        member =
            λ g is. subst (λ (row : Faction). HasPut faction_table (row_of_faction n row) a d)
            (same_Some f g (sym found.faction_is ∙ is))
            (middle_step_changes_rows faction_table (λ rows. put 1 (row_of_faction n f) (Has rows)) a x y d (head.others faction_table (listed Factions) (λ e. absurd (omega (arith, e))))
            (from_books faction_table (listed Factions) (λ e. absurd (omega (arith, e))) (λ e. absurd (omega (arith, e))) ∙ unit.others faction_table (listed Factions) (λ e. absurd (omega (arith, e)))) member.rows);
        unit = λ unit_number v at is.
            let here : m ≡ unit_number = omega (arith, at, found.place_is) in
            let row : row_of_unit m u ≡ row_of_unit unit_number v = ap (λ k. row_of_unit k u) here ∙ ap (row_of_unit unit_number) (same_Some u v (sym found.unit_is ∙ ap (get after.units) here ∙ is)) in
            subst (λ (l : Row). HasPut unit_table l a d) row
            (middle_step_changes_rows unit_table (λ rows. put 1 (row_of_unit m u) (Has rows)) a y b d
            (member.others unit_table (listed Units) (λ e. absurd (omega (arith, e))) ∙ head.others unit_table (listed Units) (λ e. absurd (omega (arith, e))))
            (from_books unit_table (listed Units) (λ e. absurd (omega (arith, e))) (λ e. absurd (omega (arith, e)))) unit.rows);
        report =
            λ says is. subst (λ (l : List ℕ). HasPut report_table (report_row n l) a d)
            (same_Some report says (sym found.report_is ∙ is))
            (middle_step_changes_rows report_table (λ rows. put 1 (report_row n report) (Has rows)) a b z d (to_books report_table (listed Reports) (λ e. absurd (omega (arith, e))) (λ e. absurd (omega (arith, e))) (λ e. absurd (omega (arith, e))))
            (people.others report_table (listed Reports) (λ e. absurd (omega (arith, e))) ∙ money.others report_table (listed Reports) (λ e. absurd (omega (arith, e)))) welcome.rows);
        books =
            amount_is_written_on_rows after Joining People (rows_in books_table w.trees) (rows_in books_table d.trees)
            (rows_with_amount after Joining Money (Has (rows_in books_table a.trees)))
            (middle_step_changes_rows books_table (λ rows. rows_with_amount after Joining Money (Has rows)) a z w w
            (welcome.others books_table (listed Books) (λ e. absurd (omega (arith, e))) ∙ to_books books_table (listed Books) (λ e. absurd (omega (arith, e))) (λ e. absurd (omega (arith, e))) (λ e. absurd (omega (arith, e)))) refl money.rows)
            people.rows;
        others = λ part free.
            alone (table_of part) (listed part) (λ e. free (inl (same_part part Own e))) (λ e. free (inr (inl (same_part part Factions e)))) (λ e. free (inr (inr (inl (same_part part Units e)))))
            (λ e. free (inr (inr (inr (inl (same_part part Reports e)))))) (λ e. free (inr (inr (inr (inr (inl (same_part part Books e)))))));
      }

  -- Tables that held the campaign before a join (`a`) hold the one after it, `after`, once the join is written (`d`).
  -- The premise `found` is that `after` has the faction, its report and its unit, which came last (`HasArrivalWith`).
  pub join_held : (a d : Database) → WritesJoin n after a d → (text : List ℕ) (before : CampaignValue)
      → IsJoining before n after → Holds a.trees text before → Holds d.trees text after
  unfolding after_join
  join_held a d did text before joining holds = record { rows = rows }
    where
      arrival : IsArrival n f m u report before after
      arrival = arrives n f m u report before after found joining

      enters : AddsJoin n after text a d
      enters = did (campaign_row_of before) text (holds.rows Own)

      stays : (part : Part) → is_among (Own ∷ Factions ∷ Units ∷ Reports ∷ Books ∷ []) part ≡ false
          → HasExactly (rows_in (table_of part) d.trees) (rows_for (row_of_campaign text before) before part)
      stays part free =
          stays_is (table_of part) (rows_for (row_of_campaign text before) before part) a d
          (enters.others part (not_among (Own ∷ Factions ∷ Units ∷ Reports ∷ Books ∷ []) part free)) (holds.rows part)

      rows : (part : Part)
          → HasExactly (rows_in (table_of part) d.trees) (rows_for (row_of_campaign text after) after part)
      rows Own = enters.campaign
      rows Factions =
          subst (λ (x : FinMap nat_cmp Faction). HasExactly (rows_in faction_table d.trees) (RowsOf row_of_faction x))
          (sym arrival.factions)
          (put_rows row_of_faction (λ k v. refl) (rows_in faction_table a.trees) (rows_in faction_table d.trees) before.factions n f (holds.rows Factions) (enters.member f found.faction_is))
      rows Units =
          subst (λ (x : FinMap nat_cmp Unit). HasExactly (rows_in unit_table d.trees) (RowsOf row_of_unit x))
          (sym arrival.units)
          (put_rows row_of_unit (λ k v. refl) (rows_in unit_table a.trees) (rows_in unit_table d.trees) before.units m u (holds.rows Units) (enters.unit m u found.place_is found.unit_is))
      rows Goods =
          subst (λ x. HasExactly (rows_in has_table d.trees) (HasRowsOf x)) (sym arrival.units)
          (no_goods (rows_in has_table d.trees) before.units m u arrival.fresh arrival.bare (stays Goods refl))
      rows Reports =
          subst (λ (x : FinMap nat_cmp (List ℕ)). HasExactly (rows_in report_table d.trees) (RowsOf report_row x))
          (sym arrival.reports)
          (put_rows report_row (λ k v. refl) (rows_in report_table a.trees) (rows_in report_table d.trees) before.reports n report (holds.rows Reports) (enters.report report found.report_is))
      rows Books = λ r.
          let money = written_amount_changes_books after Joining Money before.books arrival.half (Has (rows_in books_table a.trees)) arrival.money arrival.first (holds.rows Books) in
          let people = written_amount_changes_books after Joining People arrival.half after.books (rows_with_amount after Joining Money (Has (rows_in books_table a.trees))) refl arrival.second money r in
          (λ there. people.0 ((enters.books r).0 there), λ of. (enters.books r).1 (people.1 of))
      rows part =
          subst
          (λ (c : CampaignValue). HasExactly (rows_in (table_of part) d.trees) (rows_for (row_of_campaign text c) c part))
          (sym joining.7) (stays part refl)

-- the campaign row, the faction's row and its unit's row are put, if this is done one after another
pub enrolling_done : (n : ℕ) (f : Faction) (m : ℕ) (u : Unit) (after : CampaignValue) (world : List ℕ) (start one two three : State)
    → DoesInside HasTables (PutsCampaignRow (campaign_row_of after) world) start one
    → DoesInside HasTables (Puts faction_table 1 (row_of_faction n f)) one two
    → DoesInside HasTables (Puts unit_table 1 (row_of_unit m u)) two three
    → DoesInside HasTables (DoesBoth (PutsCampaignRow (campaign_row_of after) world) (DoesBoth (Puts faction_table 1 (row_of_faction n f)) (Puts unit_table 1 (row_of_unit m u)))) start three
enrolling_done n f m u after world start one two three first second third =
    let factions = Puts faction_table 1 (row_of_faction n f) in
    let units = Puts unit_table 1 (row_of_unit m u) in
    inside_then HasTables (PutsCampaignRow (campaign_row_of after) world) (DoesBoth factions units) start one three first (inside_then HasTables factions units one two three second third)

-- the report's row is put and the amounts of money and people under joining are written, if one is done after another
pub reporting_done : (n : ℕ) (report : List ℕ) (after : CampaignValue) (start one two three : State)
    → DoesInside HasTables (Puts report_table 1 (report_row n report)) start one
    → DoesInside HasTables (WritesAmount after Joining Money) one two
    → DoesInside HasTables (WritesAmount after Joining People) two three
    → DoesInside HasTables (DoesBoth (Puts report_table 1 (report_row n report)) (DoesBoth (WritesAmount after Joining Money) (WritesAmount after Joining People))) start three
reporting_done n report after start one two three first second third =
    let money = WritesAmount after Joining Money in
    let people = WritesAmount after Joining People in
    inside_then HasTables (Puts report_table 1 (report_row n report)) (DoesBoth money people) start one three first (inside_then HasTables money people one two three second third)

-- To put campaign row, faction and unit, and then report and amounts of money and people, writes the join
-- (`WritesJoin`). For this `after` has the faction, its report and its unit, which came last (`HasArrivalWith`).
pub joining_done : (n : ℕ) (f : Faction) (m : ℕ) (u : Unit) (report : List ℕ) (after : CampaignValue) (world : List ℕ) (start one two : State)
    → HasArrivalWith after n f m u report
    → DoesInside HasTables (DoesBoth (PutsCampaignRow (campaign_row_of after) world) (DoesBoth (Puts faction_table 1 (row_of_faction n f)) (Puts unit_table 1 (row_of_unit m u)))) start one
    → DoesInside HasTables (DoesBoth (Puts report_table 1 (report_row n report)) (DoesBoth (WritesAmount after Joining Money) (WritesAmount after Joining People))) one two
    → DoesInside HasTables (WritesJoin n after) start two
joining_done n f m u report after world start one two found first second =
    inside_weaker HasTables (DoesBoth (PutsNewcomer n f m u after world) (PutsReportAndAmounts n report after)) (WritesJoin n after) start two (λ has did. joins n f m u report after found world start.now did.0 two.now did.1 did.2)
    (inside_then HasTables (PutsNewcomer n f m u after world) (PutsReportAndAmounts n report after) start one two first second)

-- ---- a mailing

-- tables that held a campaign (`a`) hold it with a faction's mail once this is written (`b`)
pub mail_held : (faction : ℕ) (mail : List ℕ) (a b : Database) → WritesMail faction mail a b
    → (text : List ℕ) (before : CampaignValue) → Holds a.trees text before
    → Holds b.trees text (with_mail before faction mail)
mail_held faction mail a b did text before holds = record { rows = rows }
  where
    rows : (part : Part)
        → HasExactly (rows_in (table_of part) b.trees) (rows_for (row_of_campaign text before) (with_mail before faction mail) part)
    rows Mail =
        put_rows mail_row (λ k v. refl) (rows_in mail_table a.trees) (rows_in mail_table b.trees) before.mail faction
        mail (holds.rows Mail) did.rows
    rows part =
        stays_is (table_of part) (rows_for (row_of_campaign text before) before part) a b
        (did.others (table_of part) (listed part) (λ e. absurd (omega (arith, e)))) (holds.rows part)
