-- The change marks of a campaign: what of it changed since it was last written. A thing of a unit or region is here an
-- item, a skill, or an item in stock, by its number.
use Rattle.std.specs.Prelude.{◌≡◌, ◌<◌, ℕ, ◌+◌, ◌*◌, ◌||◌, refl, Bool, true, false, Option, Some, None, is_some, if◌then◌else◌}
use Rattle.std.specs.Ordering.{nat_cmp}
use Rattle.std.specs.Coded.{Coded, code_by, coded×, coded_ℕ, coded_bool}
use Rattle.std.specs.FinMap as map
use Rattle.std.specs.FinSet.{FinSet, code, contains, empty, insert, len}
use Rattle.atl_world.specs.Groups.{group_of}
use base.Stored.{coded_unit}
use Rattle.atl_records.specs.Limits.{entry_count}
use Rattle.atl_records.specs.declared.books.BooksEntry.{BooksEntry}
use Rattle.atl_records.specs.declared.books.Thing.{Thing}
use Rattle.atl_records.specs.Books.{amount_number}

-- what is marked one by one: the numbers of items or of skills by unit, or of items in stock by region
abbrev pub MarkedThings : Type 0
MarkedThings = map.FinMap nat_cmp (map.FinMap nat_cmp (Prim.Unit {0}))

-- the marked things with one more: `thing` of unit or region n
abbrev pub with_thing : MarkedThings → ℕ → ℕ → MarkedThings
with_thing things n thing = map.insert things n (map.insert (group_of things n) thing tt)

-- the marked things with one more: `thing` of unit or region n; unchanged if None is given for that unit or region
abbrev pub thing_marked : {V : Type 0} → MarkedThings → ℕ → ℕ → Option V → MarkedThings
thing_marked things n thing None = things
thing_marked things n thing (Some v) = with_thing things n thing

-- The marks of a campaign: the numbers of what changed since it was last written. `factions`, `regions` (rows) and
-- `structures` are by number, `mail` and `reports` by faction, and `books` by `amount_number` of the account.
-- `markets` has the regions of which a stock is marked: of these `stocks` has those all of whose stocks are, and
-- `stock_items` single stocks by region. `units` has the units of which something is marked: of these `rows` has those
-- whose rows are, `goods` those all of whose items and days are, and `items` and `skills` single ones by unit.
-- `row` says whether the campaign row is marked.
pub record Marks : Type 0 where
  pub factions : FinSet nat_cmp
  pub regions : FinSet nat_cmp
  pub markets : FinSet nat_cmp
  pub stocks : FinSet nat_cmp
  pub stock_items : MarkedThings
  pub units : FinSet nat_cmp
  pub rows : FinSet nat_cmp
  pub goods : FinSet nat_cmp
  pub items : MarkedThings
  pub skills : MarkedThings
  pub structures : FinSet nat_cmp
  pub mail : FinSet nat_cmp
  pub reports : FinSet nat_cmp
  pub books : FinSet nat_cmp
  pub row : Bool

-- for proofs alone: marked single items, skills or stocks encoded as a map of maps, as `marks_code` uses it
abbrev pub things_code : Coded MarkedThings
things_code = map.code coded_ℕ (map.code coded_ℕ coded_unit)

-- for proofs alone: marks encoded as nested pairs of their fields, as the kit asks of a type that contracts see
abbrev pub marks_code : Coded Marks
marks_code =
    let numbers = code coded_ℕ in
    code_by (FinSet nat_cmp × (FinSet nat_cmp × (FinSet nat_cmp × (FinSet nat_cmp × (MarkedThings
    × (FinSet nat_cmp × (FinSet nat_cmp × (FinSet nat_cmp × (MarkedThings × (MarkedThings
    × (FinSet nat_cmp × (FinSet nat_cmp × (FinSet nat_cmp × (FinSet nat_cmp × Bool))))))))))))))
    (coded× numbers (coded× numbers (coded× numbers (coded× numbers (coded× things_code
    (coded× numbers (coded× numbers (coded× numbers (coded× things_code (coded× things_code
    (coded× numbers (coded× numbers (coded× numbers (coded× numbers coded_bool))))))))))))))
    (λ m. (
      m.factions,
      (
        m.regions,
        (
          m.markets,
          (
            m.stocks,
            (
              m.stock_items,
              (
                m.units,
                (
                  m.rows,
                  (
                    m.goods,
                    (
                      m.items,
                      (
                        m.skills,
                        (m.structures, (m.mail, (m.reports, (m.books, m.row)))),
                      ),
                    ),
                  ),
                ),
              ),
            ),
          ),
        ),
      ),
    ))
    (λ p. record {
      factions = p.0;
      regions = p.1.0;
      markets = p.1.1.0;
      stocks = p.1.1.1.0;
      stock_items = p.1.1.1.1.0;
      units = p.1.1.1.1.1.0;
      rows = p.1.1.1.1.1.1.0;
      goods = p.1.1.1.1.1.1.1.0;
      items = p.1.1.1.1.1.1.1.1.0;
      skills = p.1.1.1.1.1.1.1.1.1.0;
      structures = p.1.1.1.1.1.1.1.1.1.1.0;
      mail = p.1.1.1.1.1.1.1.1.1.1.1.0;
      reports = p.1.1.1.1.1.1.1.1.1.1.1.1.0;
      books = p.1.1.1.1.1.1.1.1.1.1.1.1.1.0;
      row = p.1.1.1.1.1.1.1.1.1.1.1.1.1.1;
    })
    (λ _. refl)

-- Whether `thing` is marked: an item or a skill of unit n, or an item in stock in region n. It is marked by itself, in
-- `things`, or with all of n's, if n is in `goods`.
abbrev pub is_thing_marked : FinSet nat_cmp → MarkedThings → ℕ → ℕ → Bool
is_thing_marked goods things n thing = contains goods n || is_some (map.get (group_of things n) thing)

-- a unit is in `units` if its row is marked (in `rows`), or all its items and days are (in `goods`), or it is in
-- `items` or `skills`, which have single ones
pub record AreUnitPartsWithin (units rows goods : FinSet nat_cmp) (items skills : MarkedThings) : Type 0 where
  pub rows_within : (n : ℕ) → contains rows n ≡ true → contains units n ≡ true
  pub goods_within : (n : ℕ) → contains goods n ≡ true → contains units n ≡ true
  pub items_within : (n : ℕ) → is_some (map.get items n) ≡ true → contains units n ≡ true
  pub skills_within : (n : ℕ) → is_some (map.get skills n) ≡ true → contains units n ≡ true

-- a region is in `markets` if all its stocks are marked (in `stocks`), or it is in `stock_items`, which has single ones
pub record AreStocksWithin (markets stocks : FinSet nat_cmp) (stock_items : MarkedThings) : Type 0 where
  pub stocks_within : (n : ℕ) → contains stocks n ≡ true → contains markets n ≡ true
  pub items_within : (n : ℕ) → is_some (map.get stock_items n) ≡ true → contains markets n ≡ true

-- no marks: nothing of the campaign is marked
abbrev pub no_marks : Marks
no_marks = record {
  factions = empty;
  regions = empty;
  markets = empty;
  stocks = empty;
  stock_items = map.empty;
  units = empty;
  rows = empty;
  goods = empty;
  items = map.empty;
  skills = map.empty;
  structures = empty;
  mail = empty;
  reports = empty;
  books = empty;
  row = false;
}

-- how much is marked: factions, rows of regions, structures, mail, reports, amounts of the books and the campaign row
-- count one each. A unit counts once, whatever of it is marked, and so do the stocks of a region.
abbrev pub marks_in : Marks → ℕ
marks_in m =
    len m.factions + len m.regions + len m.markets + len m.units + len m.structures + len m.mail + len m.reports
    + len m.books + (if m.row then 1 else 0)

-- the dirty set of the books with the amount of an entry and a thing added
abbrev pub amount_marked : FinSet nat_cmp → BooksEntry → Thing → FinSet nat_cmp
amount_marked marks e t = insert marks (amount_number e t)

-- all numbers in the given dirty set of the books are those (`amount_number`) of amounts of the first `things` things
abbrev pub AreOfThings : ℕ → FinSet nat_cmp → Type 0
AreOfThings things marks = (n : ℕ) → contains marks n ≡ true → n < entry_count * things
