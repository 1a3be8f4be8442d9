-- Law: two good campaigns of one world whose rows one database holds are equal, and so are the world texts.
-- `c` and `d` are the two campaigns, and `one` and `other` their world texts; `db` has the trees of the database. `m`
-- is a map of one campaign, such as its units, or its books, and `k` the same of the other; `line` makes the row of a
-- number and its value.
use Rattle.std.proofs.Common.{[], ◌∷◌, ◌≡◌, ◌≢◌, ◌+◌, ◌∙◌, ℕ, ℤ, zero, suc, pos, negsuc, Bool, true, false, List, Some, inl, inr, refl, sym, ap, arith}
use Rattle.std.specs.Prelude.{◌⊎◌}
use Rattle.std.specs.Ordering.{nat_cmp}
use Rattle.std.specs.FinMap.{FinMap, get}
use Rattle.std.proofs.lemmas.Option.{same_Some}
use Rattle.sqlite.specs.Order.{Row}
use Rattle.sqlite_trees.specs.Tree.{Trees}
use Rattle.atl_world.specs.Worlds.{WorldValue}
use Rattle.atl_records.specs.Books.{Account, amount_in, AreBooks, BooksValue, entry_index, thing_index}
use Rattle.atl_campaign.specs.Founding as founding
use Rattle.atl_campaign.specs.Rows.{flag}
use Rattle.atl_world.specs.Every.{Every}
use Rattle.atl_campaign.specs.Good.{IsGood}
use Rattle.atl_campaign.specs.Campaign.{CampaignValue}
use Rattle.atl_records.specs.declared.books.BooksEntry.{BooksEntry}
use Rattle.atl_records.specs.declared.books.Thing.{Thing}
use Rattle.atl_records.specs.declared.records.Faction.{Faction}
use Rattle.atl_records.specs.declared.records.Region.{Region}
use Rattle.atl_records.specs.declared.records.Structure.{Structure}
use Rattle.atl_records.specs.declared.records.Unit.{Unit}
use Rattle.atl_campaign.proofs.ReadBackLaws.{equal_by_values}
use Rattle.atl_records.proofs.AccountLaws.{same_account}
use Rattle.atl_records.proofs.BookLaws.{same_books}
use Rattle.atl_store.specs.OneCampaign.{HoldsOneCampaign}
use Rattle.atl_writing.specs.Rows.{RowsOf, HasRowsOf, BooksRowsOf, MarketRowsOf, Holds, row_of_campaign, row_of_faction, row_of_region, row_of_unit, row_of_structure, things_of}
use Rattle.atl_descriptions.specs.Sets.{HasExactly}
use Rattle.atl_descriptions.specs.Tables.{Own, Factions, Regions, Units, Goods, Structures, Mail, Reports, Books, Markets}
use Rattle.atl_sql.specs.Shown.{mail_row, report_row, has_row, books_row, market_row}
use Rattle.atl_sql.specs.Written.{sort_number}
use Rattle.atl_sql.specs.declared.rows.has.ThingKind.{ThingKind}
use Rattle.atl_sql.specs.declared.rows.has.ThingKind.TheVariants.{Item, Skill}
use Rattle.atl_rows.specs.RowColumns as contents
use Rattle.atl_rows.specs.RowColumns.{Content, Whole, Reference, Flag, Values, written_row}
use Rattle.atl_rows.specs.UnitColumns.{unit_columns}
use Rattle.atl_campaign.specs.UnitRows.{unit_values, unit_of_values}
use Rattle.atl_sql.specs.Shown.{shown_fields}
use Rattle.atl_campaign.proofs.StateLaws.{same_state}
use Rattle.atl_writing.proofs.ThingLaws.{same_sort}

-- ---- maps whose rows determine their numbers and values

-- `Determines line m k` is the condition that rows determine entries: an entry of the map `m` and one of `k` with equal
-- rows, by `line`, have equal numbers and equal values.
abbrev Determines : {V : Type 0} → (ℕ → V → Row) → FinMap nat_cmp V → FinMap nat_cmp V → Type 0
Determines {V} line m k =
    (n p : ℕ) (v u : V) → get m n ≡ Some v → get k p ≡ Some u → line n v ≡ line p u → (n ≡ p) × (v ≡ u)

-- `rows` are the rows of a table that are those of both maps
module _ {V : Type 0} (line : ℕ → V → Row) (rows : List Row) where
  other_line : (m k : FinMap nat_cmp V) → HasExactly rows (RowsOf line m) → HasExactly rows (RowsOf line k)
      → (n : ℕ) (v : V) → get m n ≡ Some v → RowsOf line k (line n v)
  other_line m k a b n v is = (b (line n v)).0 ((a (line n v)).1 (n, v, is, refl))

  one_way : (m k : FinMap nat_cmp V) → Determines line m k → HasExactly rows (RowsOf line m)
      → HasExactly rows (RowsOf line k) → Every (λ n v. get k n ≡ Some v) m
  one_way m k says a b n v is =
      let (p, u, there, same) = other_line m k a b n v is in
      let at = says n p v u is there same in
      ap (get k) at.0 ∙ there ∙ sym (ap Some at.1)

  -- two maps are equal, if one table has exactly the rows of each, and rows determine entries (`Determines`)
  same_values : (m k : FinMap nat_cmp V) → Determines line m k → Determines line k m → HasExactly rows (RowsOf line m)
      → HasExactly rows (RowsOf line k) → m ≡ k
  same_values m k there back a b = equal_by_values m k (one_way m k there a b) (one_way k m back b a)

flag_determines_boolean : (a b : Bool) → flag a ≡ flag b → a ≡ b
flag_determines_boolean true true is = refl
flag_determines_boolean true false is = cc
flag_determines_boolean false true is = cc
flag_determines_boolean false false is = refl

-- values are equal if they are written as fields that SQL shows alike
values_shown : (cs : List Content) (v u : Values cs)
    → shown_fields cs (written_row cs v) ≡ shown_fields cs (written_row cs u) → v ≡ u
values_shown [] v u same = refl
values_shown (Whole low high ∷ cs) v u same =
    let one : v.0 ≡ u.0 = cc in
    let others = values_shown cs v.1 u.1 (cc) in
    λ i. (one i, others i)
values_shown (Reference ∷ cs) v u same =
    let one : v.0 ≡ u.0 = cc in
    let others = values_shown cs v.1 u.1 (cc) in
    λ i. (one i, others i)
values_shown (Flag ∷ cs) v u same =
    let one = flag_determines_boolean v.0 u.0 (cc) in
    let others = values_shown cs v.1 u.1 (cc) in
    λ i. (one i, others i)
values_shown (contents.Text ∷ cs) v u same =
    let one : v.0 ≡ u.0 = cc in
    let others = values_shown cs v.1 u.1 (cc) in
    λ i. (one i, others i)

faction_rows_determine : (m k : FinMap nat_cmp Faction) → Every (λ n f. f.number ≡ n) m → Every (λ n f. f.number ≡ n) k
    → Determines row_of_faction m k
faction_rows_determine m k a b n p f g is there same =
    let at : n ≡ p = cc in
    let number : f.number ≡ g.number = a n f is ∙ at ∙ sym (b p g there) in
    let joined : f.joined_as ≡ g.joined_as = cc in
    let name : f.name ≡ g.name = cc in
    let pass : f.pass ≡ g.pass = cc in
    let gone : f.gone ≡ g.gone = flag_determines_boolean f.gone g.gone (cc) in
    (at, λ i. record { number = number i; joined_as = joined i; name = name i; pass = pass i; gone = gone i })

structure_rows_determine : (m k : FinMap nat_cmp Structure) → Determines row_of_structure m k
structure_rows_determine m k n p s t is there same =
    let kind : s.kind ≡ t.kind = cc in
    let name : s.name ≡ t.name = cc in
    let region : s.region ≡ t.region = cc in
    let done : s.done ≡ t.done = cc in
    let owner : s.owner ≡ t.owner = cc in
    (cc, λ i. record { kind = kind i; name = name i; region = region i; done = done i; owner = owner i })

mail_rows_determine : (m k : FinMap nat_cmp (List ℕ)) → Determines mail_row m k
mail_rows_determine m k n p s t is there same = (cc, cc)

report_rows_determine : (m k : FinMap nat_cmp (List ℕ)) → Determines report_row m k
report_rows_determine m k n p s t is there same = (cc, cc)

-- ---- units, with what they have

abbrev HaveNoZero : FinMap nat_cmp Unit → Type 0
HaveNoZero units =
    Every (λ n u. (sort : ThingKind) → Every (λ thing amount. amount ≢ 0) (things_of sort u.holding)) units

have_no_zero : (w : WorldValue) (c : CampaignValue) → IsGood w c → HaveNoZero c.units
have_no_zero w c good n u is Item thing amount there = let range = (good.sound.steady.numbers.units n u is).1.items thing amount there in λ none. omega (arith, range.0, none)
have_no_zero w c good n u is Skill thing amount there = let range = good.sound.steady.days n u is thing amount there in λ none. omega (arith, range.0, none)

module _ (rows : List Row) (m k : FinMap nat_cmp Unit) (a : HasExactly rows (HasRowsOf m)) (b : HasExactly rows (HasRowsOf k)) where
  things_there : HaveNoZero m → (n : ℕ) (u v : Unit) → get m n ≡ Some u → get k n ≡ Some v → (sort : ThingKind)
      → Every (λ thing amount. get (things_of sort v.holding) thing ≡ Some amount) (things_of sort u.holding)
  things_there some n u v is there sort thing amount has =
      let row = has_row n (sort_number sort) thing amount in
      let (p, x, at, other, object, size, got, apart, same) = (b row).0 ((a row).1 (n, u, is, sort, thing, amount, has, some n u is sort thing amount has, refl)) in
      let number : n ≡ p = cc in
      let unit : ◌≡◌ {A = Unit} v x = same_Some v x (sym there ∙ ap (get k) number ∙ at) in
      let kind : sort ≡ other = same_sort sort other (cc) in
      let what : thing ≡ object = cc in
      let count : amount ≡ size = cc in
      let left : get (things_of sort v.holding) thing ≡ get (things_of other x.holding) object = λ i. get (things_of (kind i) (unit i).holding) (what i) in
      left ∙ got ∙ sym (ap Some count)

module _ (rows goods : List Row) (m k : FinMap nat_cmp Unit) (a : HasExactly rows (RowsOf row_of_unit m)) (b : HasExactly rows (RowsOf row_of_unit k)) (h : HasExactly goods (HasRowsOf m)) (j : HasExactly goods (HasRowsOf k)) (some : HaveNoZero m) (more : HaveNoZero k) where
  units_there : Every (λ n u. get k n ≡ Some u) m
  units_there n u is =
      let (p, v, there, same) = other_line row_of_unit rows m k a b n u is in
      let values = values_shown unit_columns (unit_values n u) (unit_values p v) same in
      let here : get k n ≡ Some v = ap (λ x. get k x.0) values ∙ there in
      let things : (sort : ThingKind) → things_of sort u.holding ≡ things_of sort v.holding = λ sort. equal_by_values _ _ (things_there goods m k h j some n u v is here sort) (things_there goods k m j h more n v u here is sort) in
      let items : u.holding.items ≡ v.holding.items = things Item in
      let days : u.holding.days ≡ v.holding.days = things Skill in
      let unit : u ≡ v = λ i. unit_of_values (values i) (items i) (days i) in
      here ∙ sym (ap Some unit)

-- ---- regions, with what is in stock

abbrev HaveNoZeroStock : FinMap nat_cmp Region → Type 0
HaveNoZeroStock regions = Every (λ n r. Every (λ item stock. stock ≢ 0) r.stocks) regions

have_no_zero_stock : (w : WorldValue) (c : CampaignValue) → IsGood w c → HaveNoZeroStock c.regions
have_no_zero_stock w c good n r is item stock there = let range = (good.sound.steady.numbers.regions n r is).stocks item stock there in λ none. omega (arith, range.0, none)

module _ (rows : List Row) (m k : FinMap nat_cmp Region) (a : HasExactly rows (MarketRowsOf m)) (b : HasExactly rows (MarketRowsOf k)) where
  stocks_there : HaveNoZeroStock m → (n : ℕ) (r s : Region) → get m n ≡ Some r → get k n ≡ Some s
      → Every (λ item stock. get s.stocks item ≡ Some stock) r.stocks
  stocks_there some n r s is there item stock has =
      let row = market_row n item stock in
      let (p, x, at, object, size, got, apart, same) = (b row).0 ((a row).1 (n, r, is, item, stock, has, some n r is item stock has, refl)) in
      let number : n ≡ p = cc in
      let region : ◌≡◌ {A = Region} s x = same_Some s x (sym there ∙ ap (get k) number ∙ at) in
      let what : item ≡ object = cc in
      let count : stock ≡ size = cc in
      let left : get s.stocks item ≡ get x.stocks object = λ i. get (region i).stocks (what i) in
      left ∙ got ∙ sym (ap Some count)

module _ (rows stocks : List Row) (m k : FinMap nat_cmp Region) (a : HasExactly rows (RowsOf row_of_region m)) (b : HasExactly rows (RowsOf row_of_region k)) (h : HasExactly stocks (MarketRowsOf m)) (j : HasExactly stocks (MarketRowsOf k)) (some : HaveNoZeroStock m) (more : HaveNoZeroStock k) where
  regions_there : Every (λ n r. get k n ≡ Some r) m
  regions_there n r is =
      let (p, s, there, same) = other_line row_of_region rows m k a b n r is in
      let at : n ≡ p = cc in
      let here : get k n ≡ Some s = ap (get k) at ∙ there in
      let peasants : r.peasants ≡ s.peasants = cc in
      let money : r.money ≡ s.money = cc in
      let in_stock : r.stocks ≡ s.stocks = equal_by_values _ _ (stocks_there stocks m k h j some n r s is here) (stocks_there stocks k m j h more n s r here is) in
      let region : r ≡ s = λ i. record { peasants = peasants i; money = money i; stocks = in_stock i } in
      here ∙ sym (ap Some region)

-- ---- books

none_or_some : (z : ℤ) → (z ≡ pos 0) ⊎ (z ≢ pos 0)
none_or_some (pos zero) = inl refl
none_or_some (pos (suc n)) = inr (λ is. cc)
none_or_some (negsuc n) = inr (λ is. cc)

module _ (rows : List Row) (m k : BooksValue) (a : HasExactly rows (BooksRowsOf m)) (b : HasExactly rows (BooksRowsOf k)) where
  amount_there : (e : BooksEntry) (t : Thing) → amount_in m e t ≢ pos 0 → amount_in m e t ≡ amount_in k e t
  amount_there e t some =
      let (f, u, apart, same) = (b (books_row (entry_index e + 1) (thing_index t) (amount_in m e t))).0 ((a _).1 (e, t, some, refl)) in
      let next : entry_index e + 1 ≡ entry_index f + 1 = cc in
      let entry : entry_index e ≡ entry_index f = omega (arith, next) in
      let thing : thing_index t ≡ thing_index u = cc in
      let amount : amount_in m e t ≡ amount_in k f u = cc in
      let there : amount_in k e t ≡ amount_in k f u = ap (λ (x : Account). amount_in k x.0 x.1) (same_account e f t u entry thing) in
      amount ∙ sym there

module _ (things : ℕ) (rows : List Row) (m k : BooksValue) (g : AreBooks things m) (h : AreBooks things k) (a : HasExactly rows (BooksRowsOf m)) (b : HasExactly rows (BooksRowsOf k)) where
  same_amount : (e : BooksEntry) (t : Thing) → amount_in m e t ≡ amount_in k e t
  same_amount e t =
      elim (none_or_some (amount_in m e t)) [
        | inr some ↦ amount_there rows m k a b e t some
        | inl none ↦ elim (none_or_some (amount_in k e t)) [
          | inr some ↦ sym (amount_there rows k m b a e t some)
          | inl also ↦ none ∙ sym also
        ]
      ]

  one_books : m ≡ k
  one_books = same_books things m k g h same_amount

-- ---- the whole

module _ (db : Trees) (one other : List ℕ) (c d : CampaignValue) (h : Holds db one c) (j : Holds db other d) where
  one_row : row_of_campaign one c ≡ row_of_campaign other d
  one_row = (j.rows Own (row_of_campaign one c)).0 ((h.rows Own (row_of_campaign one c)).1 refl)

  -- the world texts are equal, if the tables of one database hold both, each with a campaign
  pub one_text : one ≡ other
  one_text = let own = one_row in cc

-- one database holds at most one world text and, for one world, one good campaign (`HoldsOneCampaign`)
pub holds_one : HoldsOneCampaign
holds_one w db one other c d good sound h j =
    let own : row_of_campaign one c ≡ row_of_campaign other d = one_row db one other c d h j in
    let text : one ≡ other = one_text db one other c d h j in
    let month : c.month ≡ d.month = cc in
    let pass : c.pass ≡ d.pass = cc in
    let next_faction : c.next_faction ≡ d.next_faction = cc in
    let next_unit : c.next_unit ≡ d.next_unit = cc in
    let next_structure : c.next_structure ≡ d.next_structure = cc in
    let numbers = good.sound.steady.numbers in
    let others = sound.sound.steady.numbers in
    let factions = same_values row_of_faction _ c.factions d.factions (faction_rows_determine _ _ numbers.factions others.factions) (faction_rows_determine _ _ others.factions numbers.factions) (h.rows Factions) (j.rows Factions) in
    let stocks = have_no_zero_stock w c good in
    let others_stocks = have_no_zero_stock w d sound in
    let regions = equal_by_values c.regions d.regions (regions_there _ _ c.regions d.regions (h.rows Regions) (j.rows Regions) (h.rows Markets) (j.rows Markets) stocks others_stocks) (regions_there _ _ d.regions c.regions (j.rows Regions) (h.rows Regions) (j.rows Markets) (h.rows Markets) others_stocks stocks) in
    let structures = same_values row_of_structure _ c.structures d.structures (structure_rows_determine _ _) (structure_rows_determine _ _) (h.rows Structures) (j.rows Structures) in
    let mail = same_values mail_row _ c.mail d.mail (mail_rows_determine _ _) (mail_rows_determine _ _) (h.rows Mail) (j.rows Mail) in
    let reports = same_values report_row _ c.reports d.reports (report_rows_determine _ _) (report_rows_determine _ _) (h.rows Reports) (j.rows Reports) in
    let some = have_no_zero w c good in
    let more = have_no_zero w d sound in
    let units = equal_by_values c.units d.units (units_there _ _ c.units d.units (h.rows Units) (j.rows Units) (h.rows Goods) (j.rows Goods) some more) (units_there _ _ d.units c.units (j.rows Units) (h.rows Units) (j.rows Goods) (h.rows Goods) more some) in
    let books = one_books (founding.thing_count w) _ c.books d.books numbers.books others.books (h.rows Books) (j.rows Books) in (
      text,
      same_state c d month pass next_faction next_unit next_structure factions regions units structures mail reports books,
    )
