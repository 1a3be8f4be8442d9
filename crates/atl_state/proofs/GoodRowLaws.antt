-- Laws of reading a good campaign back: from its rows, in any order, the same campaign is assembled.
-- c is a good campaign of the world w, which keeps the rules of worlds (`world`); the format f can hold c, and p are
-- its rows, in any order. Numbers are read from rows as most_u32 or most_u16 at most.
use Rattle.std.proofs.Common.{◌≡◌, ℕ, zero, suc, ◌≤◌, ◌<◌, ◌+◌, ◌*◌, List, [], ◌∷◌, true, false, length, None, refl, sym, ap, subst, ◌∙◌, arith}
use Rattle.std.specs.Prelude.{ℤ, pos, is_some, slice_index_or}
use Rattle.std.specs.List.{AllByRecursion, IsDistinct}
use Rattle.std.specs.List.Sorted.{IsPermutation}
use Rattle.std.specs.Ordering.{nat_cmp}
use Rattle.std.specs.FinMap.{FinMap, get, entries, len}
use Rattle.std.proofs.lemmas.List.Sorted.{length_permutation}
use Rattle.atl_world.specs.Limits.{most_amount, last_region}
use Rattle.atl_world.specs.Worlds.{WorldValue, IsWorld}
use Rattle.atl_world.specs.ByNumber.{market_of, size_of}
use Rattle.atl_world.specs.declared.format.Format.{Format}
use Rattle.atl_world.specs.declared.format.Format.TheVariants.{First, Second}
use Rattle.atl_words.specs.Limits.{last_faction}
use Rattle.atl_rows.specs.declared.parts.Parts.{Parts}
use Rattle.atl_rows.specs.declared.parts.StoredCampaignRow.{StoredCampaignRow}
use Rattle.atl_rows.specs.declared.parts.StoredHas.{StoredHas}
use Rattle.atl_rows.specs.declared.parts.StoredMarket.{StoredMarket}
use Rattle.atl_records.specs.declared.records.Faction.{Faction}
use Rattle.atl_records.specs.declared.records.Region.{Region}
use Rattle.atl_records.specs.declared.records.Structure.{Structure}
use Rattle.atl_records.specs.declared.records.Unit.{Unit}
use Rattle.atl_records.specs.Books.{no_amounts}
use Rattle.atl_state.specs.Checking.{Fits}
use Rattle.atl_campaign.specs.Founding.{thing_count}
use Rattle.atl_campaign.specs.FromRows.{as_u32, as_u16, faction_of, stocks_of, region_of, structure_of, unit_of, by_number, with_books_rows, things_had, no_campaign_row, campaign_row_of, campaign_of}
use Rattle.atl_world.specs.Every.{Every, HasValue}
use Rattle.atl_campaign.specs.Good.{IsNumbered, IsGood}
use Rattle.atl_records.specs.Holdings.{AreAmounts}
use Rattle.atl_records.specs.Limits.{last_month, last_unit, men_limit, most_structures, most_days, most_u16, most_u32}
use Rattle.atl_campaign.specs.RowRules.{one_key, market_key, HaveDistinctKeys}
use Rattle.atl_campaign.specs.Rows.{rows_by, campaign_row, faction_row, region_row, unit_row, structure_row, mail_row, report_row, has_rows, books_rows, market_row, market_rows, rows_of, AreRowsOf}
use Rattle.atl_campaign.specs.Campaign.{CampaignValue}
use Rattle.atl_campaign.proofs.AssemblyLaws.{min_small}
use Rattle.atl_campaign.proofs.ColumnLaws.{AreFrom, Refer, flag_back, values_back}
use Rattle.atl_rows.specs.UnitColumns.{unit_columns}
use Rattle.atl_campaign.specs.UnitRows.{unit_values, unit_of_values}
use Rattle.atl_campaign.proofs.ReadBackLaws.{each_permuted, written_is_read, written_fits_u32, map_back, rows_so, rows_apart, entries_rise, keys_permuted, apart_numbers}
use Rattle.atl_state.proofs.BackBooksLaws.{books_back}
use Rattle.atl_state.proofs.BackHasLaws.{AreHad, goods_of, goods_back}
use Rattle.atl_state.proofs.BackStockRowLaws.{AreStocked, stocks_each, market_keys, stocks_back}
use Rattle.atl_world.proofs.EveryLaws.{every-from_each}
use Rattle.atl_campaign.proofs.HasLaws.{FitsU32, is_same_key}
use Rattle.atl_campaign.proofs.MapOfRowsLaws.{HaveDistinctNumbers-keys}
use Rattle.atl_campaign.proofs.RuleLaws.{each_numbered, every_before}
use Rattle.atl_campaign.proofs.StateLaws.{same_state}
use Rattle.atl_state.proofs.SaidLaws.{one_apart, none_or_below, small_size, small_limit}
use Rattle.atl_campaign.proofs.MarketLaws.{market_known}

-- ---- numbers in a good campaign

-- each number of a map is from 1 to `most`, if the map is numbered from 1 without a gap, and has at most `most` values
few_numbered : {V : Type 0} (m : FinMap nat_cmp V) (next most : ℕ) → IsNumbered m next → len m ≤ most
    → Every (λ n v. (1 ≤ n) × (n ≤ most)) m
few_numbered m next most is few n v there = let range = every-from_each (λ n v. (1 ≤ n) × (n < next)) m (each_numbered m next is) n v there in (range.0, omega (arith, range.1, is.count, few))

few_before : {V : Type 0} (m : FinMap nat_cmp V) (next most : ℕ) → ((n : ℕ) → next ≤ n → get m n ≡ None)
    → next ≤ most + 1 → Every (λ n v. n ≤ most) m
few_before m next most free few n v there = let low = every_before m next free n v there in omega (arith, low, few)

small_enough : {V : Type 0} (m : FinMap nat_cmp V) (most : ℕ) → most ≤ most_u32 → Every (λ n v. n ≤ most) m
    → Every (λ n v. n ≤ most_u32) m
small_enough m most few every n v there = let here = every n v there in omega (arith, few, here)

-- ---- one row

pub read16 : (n : ℕ) → n ≤ most_u16 → as_u16 (pos n) ≡ n
read16 n h = min_small n most_u16 h

faction_back : (n : ℕ) (f : Faction) → n ≤ most_u32 → f.number ≡ n → faction_of (faction_row n f) ≡ f
faction_back n f few is =
    let number = written_is_read n few ∙ sym is in
    let gone = flag_back f.gone in
    λ i. record { number = number i; joined_as = f.joined_as; name = f.name; pass = f.pass; gone = gone i }

region_back : (markets : List StoredMarket) (n : ℕ) (r : Region) → n ≤ most_u32 → r.peasants ≤ most_u32
    → r.money ≤ most_u32 → stocks_of n markets ≡ r.stocks → region_of markets (region_row n r) ≡ r
region_back markets n r few p m stocks =
    let peasants = written_is_read r.peasants p in
    let money = written_is_read r.money m in
    let its_stocks = ap (λ k. stocks_of k markets) (written_is_read n few) ∙ stocks in
    λ i. record { peasants = peasants i; money = money i; stocks = its_stocks i }

-- a structure's kind fits 16 bits, and its region, owner and how much is done 32
pub record StructureFits (s : Structure) : Type 0 where
  pub kind : s.kind ≤ most_u16
  pub region : s.region ≤ most_u32
  pub done : s.done ≤ most_u32
  pub owner : s.owner ≤ most_u32

structure_back : (n : ℕ) (s : Structure) → StructureFits s → structure_of (structure_row n s) ≡ s
structure_back n s h =
    let kind = read16 s.kind h.kind in
    let region = written_is_read s.region h.region in
    let done = written_is_read s.done h.done in
    let owner = written_is_read s.owner h.owner in
    λ i. record { kind = kind i; name = s.name; region = region i; done = done i; owner = owner i }

-- a unit is read back from its row, if the numbers of the row are in their ranges, its references are below most_u32,
-- and the unit's items and days of study are those that rows of `has` give it
unit_back : (has : List StoredHas) (n : ℕ) (u : Unit) → n ≤ most_u32 → AreFrom unit_columns (unit_values n u)
    → Refer unit_columns (unit_values n u) → things_had n 0 has ≡ u.holding.items → things_had n 1 has ≡ u.holding.days
    → unit_of has (unit_row n u) ≡ u
unit_back has n u few from refers items days =
    let values = values_back unit_columns refl (unit_values n u) from refers in
    let its_items = ap (λ k. things_had k 0 has) (written_is_read n few) ∙ items in
    let its_days = ap (λ k. things_had k 1 has) (written_is_read n few) ∙ days in
    λ i. unit_of_values (values i) (its_items i) (its_days i)

-- ---- a table with a key of one number

-- `row` makes the row of a number and its value, which `key` and `value` read from it; `rows` are the rows of the map m
-- in any order, and its numbers fit 32 bits
module _ {V R : Type 0} (row : ℕ → V → R) (key : R → ℤ) (value : R → V) (keyed : (n : ℕ) (v : V) → key (row n v) ≡ pos n) (m : FinMap nat_cmp V) (few : Every (λ n v. n ≤ most_u32) m) (rows : List R) (h : IsPermutation (rows_by row (entries m)) rows) where
  apart : (n k : ℕ) (v u : V) → n < k → is_same_key (one_key (key (row n v))) (one_key (key (row k u))) ≡ false
  apart n k v u l =
      ap (λ z. is_same_key (one_key z) (one_key (key (row k u)))) (keyed n v)
      ∙ ap (λ z. is_same_key (one_key (pos n)) (one_key z)) (keyed k u) ∙ apart_numbers n k l

  -- the rows of a table with a key of one number have distinct keys
  pub table_keys : HaveDistinctKeys (λ r. one_key (key r)) rows
  table_keys =
      keys_permuted (λ r. one_key (key r)) (rows_by row (entries m)) rows h
      (rows_apart row (λ a b. is_same_key (one_key (key a)) (one_key (key b))) apart (entries m) (entries_rise m))

  whole : AllByRecursion (λ r. FitsU32 (key r)) rows
  whole =
      rows_so row (λ r. FitsU32 (key r)) m rows h
      (λ n v is. subst FitsU32 (sym (keyed n v)) (written_fits_u32 n (few n v is)))

  -- the map `m` is read back from its rows, made by `row`, in any order, if each value is read back from its own row
  pub table_back : Every (λ n v. value (row n v) ≡ v) m → by_number (λ r. as_u32 (key r)) value rows ≡ m
  table_back back =
      map_back row (λ r. as_u32 (key r)) value m rows h (λ n v is. (ap as_u32 (keyed n v) ∙ written_is_read n (few n v is), back n v is))
      (HaveDistinctNumbers-keys (λ r. one_key (key r)) (λ r. as_u32 (key r)) is_same_key (λ r. FitsU32 (key r)) (λ r s. one_apart (key r) (key s)) rows whole table_keys)

-- ---- the campaign's own row

list_of_one_row : {R : Type 0} (x : R) (rows : List R) → length rows ≡ 1 → AllByRecursion (λ r. r ≡ x) rows
    → rows ≡ x ∷ []
list_of_one_row x [] l all = absurd (omega (arith, l))
list_of_one_row x (r ∷ []) l all = ap (λ s. s ∷ []) all.0
list_of_one_row x (r ∷ s ∷ rows) l all = absurd (omega (arith, l))

-- a list with the same elements as the list of x alone is that list
pub only_row : {R : Type 0} (x : R) (rows : List R) → IsPermutation (x ∷ []) rows → rows ≡ x ∷ []
only_row x rows h =
    list_of_one_row x rows (length_permutation (x ∷ []) rows h) (each_permuted (λ r. r ≡ x) (x ∷ []) rows h (refl, tt))

pub none_listed : {R : Type 0} (rows : List R) → IsPermutation [] rows → rows ≡ []
none_listed [] h = refl
none_listed (r ∷ rows) h = let count = length_permutation [] (r ∷ rows) h in absurd (omega (arith, count))

-- ---- what is so of a good campaign's numbers

structure_small_enough : (w : WorldValue) → IsWorld w → (s : Structure) → s.kind < length w.kinds
    → s.region ≤ last_region → s.done ≤ size_of w s.kind → s.owner ≤ last_unit → StructureFits s
structure_small_enough w world s k r d o =
    let kinds = world.few_kinds in
    let size = small_size w world s.kind in
    record { kind = omega (arith, k, kinds); region = omega (arith, r); done = omega (arith, d, size); owner = omega (arith, o) }

-- A unit's items and skills have numbers of 32 bits, and amounts from 1 to most_u32. This supposes that the items and
-- skills are of the world, and that the unit's men, amounts of items and days of skills are within their limits.
goods_fit : (w : WorldValue) → IsWorld w → (u : Unit) → Every (λ i a. i < length w.items) u.holding.items
    → Every (λ i a. i < length w.skills) u.holding.days → AreAmounts u.holding.items → u.holding.men ≤ men_limit
    → Every (λ i a. (1 ≤ a) × (a ≤ most_days * u.holding.men)) u.holding.days → (s : ℕ) → s < 2
    → Every (λ i a. (i ≤ most_u32) × (1 ≤ a) × (a ≤ most_u32)) (goods_of s u)
goods_fit w world u items skills amounts men days zero l i a is =
    let few = world.few_items in
    let at = items i a is in
    let range = amounts i a is in
    (omega (arith, few, at), range.0, omega (arith, range.1))
goods_fit w world u items skills amounts men days (suc s) l i a is =
    let few = world.few_skills in
    let at = skills i a is in
    let range = days i a is in
    (omega (arith, few, at), range.0, omega (arith, range.1, men))

module _ (w : WorldValue) (world : IsWorld w) (c : CampaignValue) (good : IsGood w c) where
  pub few_factions : Every (λ n f. (1 ≤ n) × (n ≤ last_faction)) c.factions
  few_factions =
      few_numbered c.factions c.next_faction last_faction good.sound.steady.next.factions
      good.sound.steady.numbers.few_factions

  pub few_structures : Every (λ n s. (1 ≤ n) × (n ≤ most_structures)) c.structures
  few_structures =
      few_numbered c.structures c.next_structure most_structures good.sound.steady.next.structures
      good.sound.steady.numbers.few_structures

  pub few_units : Every (λ n u. n ≤ last_unit) c.units
  few_units =
      few_before c.units c.next_unit last_unit good.sound.steady.next.units good.sound.steady.numbers.next_unit_most

  pub region_small : (n : ℕ) → HasValue c.regions n → n ≤ last_region
  region_small n there = let known = (good.sound.steady.known.regions n).0 there in (world.regions n known.0 known.1).number_most

  pub faction_small : (n : ℕ) → HasValue c.factions n → n ≤ last_faction
  faction_small n there = (few_factions n there.0 there.1).1

  pub unit_small : (n : ℕ) → HasValue c.units n → n ≤ last_unit
  unit_small n there = few_units n there.0 there.1

  pub structure_small : (n : ℕ) → HasValue c.structures n → n ≤ most_structures
  structure_small n there = (few_structures n there.0 there.1).1

  -- in a good campaign the numbers of a unit's row are in their ranges
  pub units_from : Every (λ n u. AreFrom unit_columns (unit_values n u)) c.units
  units_from n u is =
      let range = good.sound.steady.numbers.units n u is in
      (range.0, few_units n u is, (good.sound.men n u is, range.1.men, (omega arith, range.1.money, tt)))

  units_refer : Every (λ n u. Refer unit_columns (unit_values n u)) c.units
  units_refer n u is =
      let placed = good.sound.steady.known.units n u is in
      let faction : u.faction ≤ last_faction = faction_small u.faction placed.faction in
      let region : u.region ≤ last_region = region_small u.region placed.region in
      let structure : u.structure ≤ most_structures = none_or_below c.structures u.structure most_structures (λ k s there. (few_structures k s there).1) (λ apart. let there = placed.structure apart in (there.0, there.1)) in
      (omega (arith, faction), (omega (arith, region), (omega (arith, structure), tt)))

  -- in a good campaign each structure's kind fits 16 bits, and region, owner and how much is done 32 (StructureFits)
  pub structure_fits : Every (λ n s. StructureFits s) c.structures
  structure_fits n s is =
      let built = good.sound.steady.known.structures n s is in
      let done = (good.sound.steady.numbers.structures n s is).1 in
      structure_small_enough w world s built.kind (region_small s.region built.region) done (none_or_below c.units s.owner last_unit few_units built.owner)

  goods_few : Every (λ n u. (s : ℕ) → s < 2 → Every (λ i a. (i ≤ most_u32) × (1 ≤ a) × (a ≤ most_u32)) (goods_of s u)) c.units
  goods_few n u is =
      let placed = good.sound.steady.known.units n u is in
      let holding = (good.sound.steady.numbers.units n u is).1 in
      goods_fit w world u placed.items placed.skills holding.items holding.men (good.sound.steady.days n u is)

  -- in a good campaign numbers of units, items and skills fit 32 bits, and amounts are from 1 to most_u32 (AreHad)
  pub had : AreHad c.units
  had = record { numbers = small_enough c.units last_unit (omega arith) few_units; goods = goods_few }

  item_small : (n i : ℕ) → is_some (market_of w n i) ≡ true → i ≤ most_u32
  item_small n i named =
      let few = world.few_items in
      let below = market_known w world n i named in
      omega (arith, few, below)

  -- in a good campaign numbers of regions and items fit 32 bits, and listed stocks are from 1 to most_u32 (AreStocked)
  pub stocked : AreStocked c.regions
  stocked = record {
    numbers = λ n r is. let most = region_small n (r, is) in omega (arith, most);
    stocks = λ n r is i a there.
        let range = (good.sound.steady.numbers.regions n r is).stocks i a there in
        let limit = small_limit w world n i in
        (item_small n i (good.sound.steady.known.markets n r is i a there), range.0, omega (arith, range.1, limit));
  }

  -- A law named `.._listed` says that the rows of a table are just the campaign's, in some order; one named `.._whole`
  -- says that the numbers of a map fit 32 bits, and one named `.._said` that what rows are read as is the campaign's.
  module _ (f : Format) (fits : Fits f c) (p : Parts) (rows : AreRowsOf f c p) where
    head_listed : IsPermutation (campaign_row f c ∷ []) p.campaign
    unfolding rows_of
    head_listed = rows.campaign

    pub factions_listed : IsPermutation (rows_by faction_row (entries c.factions)) p.factions
    unfolding rows_of
    factions_listed = rows.factions

    pub regions_listed : IsPermutation (rows_by region_row (entries c.regions)) p.regions
    unfolding rows_of
    regions_listed = rows.regions

    pub units_listed : IsPermutation (rows_by unit_row (entries c.units)) p.units
    unfolding rows_of
    units_listed = rows.units

    pub has_listed : IsPermutation (has_rows (entries c.units)) p.has
    unfolding rows_of
    has_listed = rows.has

    pub structures_listed : IsPermutation (rows_by structure_row (entries c.structures)) p.structures
    unfolding rows_of
    structures_listed = rows.structures

    pub mail_listed : IsPermutation (rows_by mail_row (entries c.mail)) p.mail
    unfolding rows_of
    mail_listed = rows.mail

    pub reports_listed : IsPermutation (rows_by report_row (entries c.reports)) p.reports
    unfolding rows_of
    reports_listed = rows.reports

    pub books_listed : IsPermutation (books_rows c.books) p.books
    unfolding rows_of
    books_listed = rows.books

    pub markets_listed : IsPermutation (market_rows f (entries c.regions)) p.markets
    unfolding rows_of
    markets_listed = rows.markets

    -- the rows have exactly one campaign row, that of c in the format f
    pub its_head : p.campaign ≡ campaign_row f c ∷ []
    its_head = only_row (campaign_row f c) p.campaign head_listed

    -- the campaign row that is read from the rows is that of c in the format f
    pub head_said : campaign_row_of p ≡ campaign_row f c
    head_said = ap (λ hs. slice_index_or hs 0 no_campaign_row) its_head

    pub factions_whole : Every (λ n f. n ≤ most_u32) c.factions
    factions_whole n f is = let most : n ≤ last_faction = (few_factions n f is).1 in omega (arith, most)

    pub regions_whole : Every (λ n r. n ≤ most_u32) c.regions
    regions_whole n r is = let most : n ≤ last_region = region_small n (r, is) in omega (arith, most)

    pub structures_whole : Every (λ n s. n ≤ most_u32) c.structures
    structures_whole n s is = let most : n ≤ most_structures = (few_structures n s is).1 in omega (arith, most)

    pub mail_whole : Every (λ n text. n ≤ most_u32) c.mail
    mail_whole n text is = let most : n ≤ last_faction = faction_small n (good.sound.steady.known.posts.mail n text is) in omega (arith, most)

    pub reports_whole : Every (λ n text. n ≤ most_u32) c.reports
    reports_whole n text is = let most : n ≤ last_faction = faction_small n (good.sound.steady.known.posts.reports n text is) in omega (arith, most)

    factions_said : by_number (λ r. as_u32 r.number) faction_of p.factions ≡ c.factions
    factions_said =
        table_back faction_row (λ r. r.number) faction_of (λ n f. refl) c.factions factions_whole p.factions
        factions_listed (λ n f is. faction_back n f (factions_whole n f is) (good.sound.steady.numbers.factions n f is))

    amount_small : (n : ℕ) → n ≤ most_amount → n ≤ most_u32
    amount_small n h = omega (arith, h)

    -- P holds of each row of `market`, if it holds of the row of each stock; in the first format there is no row
    pub each_market : (P : StoredMarket → Type 0)
        → Every (λ n r. Every (λ i a. P (market_row n i a)) r.stocks) c.regions → AllByRecursion P p.markets
    each_market P h =
        elim f as (λ g. IsPermutation (market_rows g (entries c.regions)) p.markets → AllByRecursion P p.markets) [
          | First ↦ λ listed. subst (AllByRecursion P) (sym (none_listed p.markets listed)) tt
          | Second ↦ λ listed. each_permuted P (market_rows Second (entries c.regions)) p.markets listed (stocks_each c.regions P (λ n r there i a is some. h n r there i a is))
        ] markets_listed

    no_keys : HaveDistinctKeys market_key []
    unfolding IsDistinct
    no_keys = tt

    -- the rows of `market` have distinct keys
    pub markets_keyed : HaveDistinctKeys market_key p.markets
    markets_keyed =
        elim f as
        (λ g. IsPermutation (market_rows g (entries c.regions)) p.markets → HaveDistinctKeys market_key p.markets) [
          | First ↦ λ listed. subst (HaveDistinctKeys market_key) (sym (none_listed p.markets listed)) no_keys
          | Second ↦ λ listed. market_keys c.regions stocked p.markets listed
        ] markets_listed

    stocks_said : Every (λ n r. stocks_of n p.markets ≡ r.stocks) c.regions
    stocks_said n r is =
        elim f as
        (λ g. Fits g c → IsPermutation (market_rows g (entries c.regions)) p.markets → stocks_of n p.markets ≡ r.stocks) [
          | First ↦ λ bare listed. ap (stocks_of n) (none_listed p.markets listed) ∙ sym (bare.stocks n r is)
          | Second ↦ λ _ listed. stocks_back c.regions stocked p.markets listed n r is
        ] fits markets_listed

    regions_said : by_number (λ r. as_u32 r.number) (region_of p.markets) p.regions ≡ c.regions
    regions_said =
        table_back region_row (λ r. r.number) (region_of p.markets) (λ n r. refl) c.regions regions_whole p.regions regions_listed (λ n r is.
        let range = good.sound.steady.numbers.regions n r is in
        region_back p.markets n r (regions_whole n r is) (amount_small r.peasants range.peasants) (amount_small r.money range.money) (stocks_said n r is))

    structures_said : by_number (λ r. as_u32 r.number) structure_of p.structures ≡ c.structures
    structures_said =
        table_back structure_row (λ r. r.number) structure_of (λ n s. refl) c.structures structures_whole p.structures
        structures_listed (λ n s is. structure_back n s (structure_fits n s is))

    mail_said : by_number (λ r. as_u32 r.faction) (λ r. r.text) p.mail ≡ c.mail
    mail_said =
        table_back mail_row (λ r. r.faction) (λ r. r.text) (λ n text. refl) c.mail mail_whole p.mail mail_listed
        (λ n text is. refl)

    reports_said : by_number (λ r. as_u32 r.faction) (λ r. r.text) p.reports ≡ c.reports
    reports_said =
        table_back report_row (λ r. r.faction) (λ r. r.text) (λ n text. refl) c.reports reports_whole p.reports
        reports_listed (λ n text is. refl)

    units_said : by_number (λ r. as_u32 r.number) (unit_of p.has) p.units ≡ c.units
    units_said =
        table_back unit_row (λ r. r.number) (unit_of p.has) (λ n u. refl) c.units had.numbers p.units units_listed (λ n u is.
        unit_back p.has n u (had.numbers n u is) (units_from n u is) (units_refer n u is) (goods_back c.units had p.has has_listed n u is 0 (omega arith)) (goods_back c.units had p.has has_listed n u is 1 (omega arith)))

    -- the world has at most 4,294,967,294 things, so each thing's number fits 32 bits
    pub few_things : thing_count w ≤ 4294967294
    few_things = let few = world.few_items in omega (arith, few)

    books_said : with_books_rows p.books (no_amounts (thing_count w)) ≡ c.books
    books_said = books_back (thing_count w) few_things c.books good.sound.steady.numbers.books p.books books_listed

    pub month_said : as_u32 (campaign_row_of p).month ≡ c.month
    month_said = let most : c.month ≤ last_month = good.sound.steady.numbers.month in ap (λ (h : StoredCampaignRow). as_u32 h.month) head_said ∙ written_is_read c.month (omega (arith, most))

    pub faction_next : c.next_faction ≤ last_faction + 1
    faction_next = let count : c.next_faction ≡ len c.factions + 1 = good.sound.steady.next.factions.count in let few : len c.factions ≤ last_faction = good.sound.steady.numbers.few_factions in omega (arith, count, few)

    pub structure_next : c.next_structure ≤ most_structures + 1
    structure_next = let count : c.next_structure ≡ len c.structures + 1 = good.sound.steady.next.structures.count in let few : len c.structures ≤ most_structures = good.sound.steady.numbers.few_structures in omega (arith, count, few)

    next_faction_said : as_u32 (campaign_row_of p).next_faction ≡ c.next_faction
    next_faction_said =
        ap (λ (h : StoredCampaignRow). as_u32 h.next_faction) head_said
        ∙ written_is_read c.next_faction (omega (arith, faction_next))

    next_unit_said : as_u32 (campaign_row_of p).next_unit ≡ c.next_unit
    next_unit_said = let most : c.next_unit ≤ last_unit + 1 = good.sound.steady.numbers.next_unit_most in ap (λ (h : StoredCampaignRow). as_u32 h.next_unit) head_said ∙ written_is_read c.next_unit (omega (arith, most))

    next_structure_said : as_u32 (campaign_row_of p).next_structure ≡ c.next_structure
    next_structure_said =
        ap (λ (h : StoredCampaignRow). as_u32 h.next_structure) head_said
        ∙ written_is_read c.next_structure (omega (arith, structure_next))

    -- assembling the rows of a good campaign gives that campaign back
    pub state_back : campaign_of w p ≡ c
    unfolding campaign_of
    state_back =
        same_state (campaign_of w p) c month_said (ap (λ (h : StoredCampaignRow). h.pass) head_said) next_faction_said next_unit_said next_structure_said
        factions_said regions_said units_said structures_said mail_said reports_said books_said
