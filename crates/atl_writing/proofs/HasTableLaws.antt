-- Laws on the table `has`: one row for each item and skill of each unit, if its amount is not 0.
-- `unit` or `n` is the number of a unit, `held` what it holds, and `sort` a kind of thing: item or skill. `e` is the
-- number of a thing with its amount, `es` a list of such pairs, and `row` makes the row of one. `key` says how many
-- columns, the first ones, are the key of a row.
use Rattle.std.proofs.Common.{◌≡◌, ◌≢◌, ◌==◌, ℕ, Bool, true, false, if◌then◌else◌, List, [], ◌∷◌, take, Option, Some, None, unwrap_or, refl, sym, ap, ◌∙◌, subst, inl, inr, true≢false, arith}
use Rattle.std.specs.Ordering.{nat_cmp}
use Rattle.std.specs.FinMap.{FinMap, entries, get, get-empty, is_sorted}
use Rattle.std.proofs.lemmas.Bool.{cases_Bool, and_parts}
use Rattle.std.proofs.lemmas.Bool.Decides.{nat_tests}
use Rattle.sqlite.specs.Order.{Row}
use Rattle.sqlite_rules.specs.Lists.{Has}
use Rattle.sqlite_rules.proofs.ListLemmas.{has_either, has_left, has_right}
use Rattle.atl_records.specs.Holdings.{HoldingValue, amount_of}
use Rattle.atl_records.specs.declared.records.Unit.{Unit}
use Rattle.atl_sql.specs.declared.rows.has.ThingKind.{ThingKind}
use Rattle.atl_sql.specs.declared.rows.has.ThingKind.TheVariants.{Item, Skill}
use Rattle.atl_sql.specs.Shown.{int, has_key, has_row}
use Rattle.atl_sql.specs.Written.{sort_number}
use Rattle.atl_writing.specs.Rows.{things_of, things_under, amount_under, HasRowsOf}
use Rattle.atl_writing.specs.GroupedRows.{DifferInKey, AreGroups, amount_rows, kind_lines, goods_lines, unit_goods_lines}
use Rattle.atl_writing.proofs.EntryLaws.{apart_append, below_has, less_apart, got_entry, entry_got, in_order, flat_has, has_flat}

-- ---- one amount

-- a row of a list that is empty if `b` is true and else has one row is that row, and `b` is false
pub optional_has : (b : Bool) (row r : Row) → Has (if b then [] else row ∷ []) r → (b ≡ false) × (r ≡ row)
optional_has true row r there = absurd there
optional_has false row r (inl same) = (refl, same)
optional_has false row r (inr none) = absurd none

-- a list that is empty if `b` is true has its one row if `b` is false
pub has_optional : (b : Bool) (row : Row) → b ≡ false → Has (if b then [] else row ∷ []) row
has_optional true row is = absurd (true≢false is)
has_optional false row is = inl refl

-- the rows of a list that is empty if `b` is true, and else has one row, differ in their key
pub optional_apart : (key : ℕ) (b : Bool) (row : Row) → DifferInKey key (if b then [] else row ∷ [])
optional_apart key true row = tt
optional_apart key false row = (λ y none. absurd none, tt)

not_zero : (a : ℕ) → (a == 0) ≡ false → a ≢ 0
not_zero a differs same = grind (arith, nat_tests)

pub is_not_zero : (a : ℕ) → a ≢ 0 → (a == 0) ≡ false
is_not_zero a apart =
    elim (cases_Bool (a == 0)) [ inl same ↦ absurd (apart (grind (arith, nat_tests))) | inr differs ↦ differs ]

-- ---- the amounts under some numbers

module _ (row : ℕ → ℕ → Row) where
  -- each row that `row` makes of the amounts of a list is of one of them that is not 0
  pub amounts_have : (es : List (ℕ × ℕ)) (r : Row) → Has (amount_rows row es) r
      → (e : ℕ × ℕ) × Has es e × (e.1 ≢ 0) × (r ≡ row e.0 e.1)
  amounts_have es r there =
      let found = flat_has (λ (e : ℕ × ℕ). if e.1 == 0 then [] else row e.0 e.1 ∷ []) es r there in
      let line = optional_has (found.0.1 == 0) (row found.0.0 found.0.1) r found.2 in
      (found.0, found.1, not_zero found.0.1 line.0, line.1)

  -- each amount of a list that is not 0 has its row among those that `row` makes
  pub have_amount : (es : List (ℕ × ℕ)) (n amount : ℕ) → Has es (n, amount) → amount ≢ 0
      → Has (amount_rows row es) (row n amount)
  have_amount es n amount there some =
      has_flat (λ (e : ℕ × ℕ). if e.1 == 0 then [] else row e.0 e.1 ∷ []) es (n, amount) _ there (has_optional (amount == 0) (row n amount) (is_not_zero amount some))

  -- the rows of amounts sorted by thing differ in their key, if rows of one key are of one thing
  pub amounts_apart : (key : ℕ) → ((m a n b : ℕ) → take key (row m a) ≡ take key (row n b) → m ≡ n)
      → (es : List (ℕ × ℕ)) → is_sorted nat_cmp es ≡ true → DifferInKey key (amount_rows row es)
  amounts_apart key says [] sorted = tt
  amounts_apart key says (e ∷ es) sorted =
      apart_append key (if e.1 == 0 then [] else row e.0 e.1 ∷ []) (amount_rows row es) (optional_apart key (e.1 == 0) (row e.0 e.1)) (amounts_apart key says es (and_parts _ _ sorted).1)
      (λ x y early late same.
      let one = optional_has (e.1 == 0) (row e.0 e.1) x early in
      let two = amounts_have es y late in
      less_apart e.0 two.0.0 (below_has e.0 es two.0 (and_parts _ _ sorted).0 two.1) (says e.0 e.1 two.0.0 two.0.1 (ap (take key) (sym one.1) ∙ same ∙ ap (take key) two.3)))

-- ---- the things of one kind: items or skills

-- two keys of the table `has` are equal only if unit, kind and thing are
pub three_same : (a b c d e f : ℕ) → ◌≡◌ {A = Row} (has_key a b c) (has_key d e f) → (a ≡ d) × (b ≡ e) × (c ≡ f)
three_same a b c d e f same = (cc, cc, cc)

module _ (unit : ℕ) (sort : ThingKind) where
  kind_row_is_of_entry : (es : List (ℕ × ℕ)) (r : Row) → Has (kind_lines unit sort es) r
      → (e : ℕ × ℕ) × Has es e × (e.1 ≢ 0) × (r ≡ has_row unit (sort_number sort) e.0 e.1)
  kind_row_is_of_entry = amounts_have (has_row unit (sort_number sort))

  entry_has_kind_row : (es : List (ℕ × ℕ)) (thing amount : ℕ) → Has es (thing, amount) → amount ≢ 0
      → Has (kind_lines unit sort es) (has_row unit (sort_number sort) thing amount)
  entry_has_kind_row = have_amount (has_row unit (sort_number sort))

  sort_apart : (es : List (ℕ × ℕ)) → is_sorted nat_cmp es ≡ true → DifferInKey 3 (kind_lines unit sort es)
  sort_apart =
      amounts_apart (has_row unit (sort_number sort)) 3
      (λ m a n b same. (three_same unit (sort_number sort) m unit (sort_number sort) n same).2)

-- ---- all that one unit has

-- each row of what a unit holds is of an item or a skill whose amount is not 0
pub goods_has : (unit : ℕ) (held : HoldingValue) (r : Row) → Has (goods_lines unit held) r
    → (sort : ThingKind) × (e : ℕ × ℕ) × Has (entries (things_of sort held)) e × (e.1 ≢ 0)
    × (r ≡ has_row unit (sort_number sort) e.0 e.1)
goods_has unit held r there =
    elim (has_either (kind_lines unit Item (entries held.items)) (kind_lines unit Skill (entries held.days)) r there) [
      | inl item ↦ let e = kind_row_is_of_entry unit Item (entries held.items) r item in (Item, e.0, e.1, e.2, e.3)
      | inr skill ↦ let e = kind_row_is_of_entry unit Skill (entries held.days) r skill in (Skill, e.0, e.1, e.2, e.3)
    ]

-- each item or skill of a unit whose amount is not 0 has its row
pub has_goods : (unit : ℕ) (held : HoldingValue) (sort : ThingKind) (thing amount : ℕ)
    → Has (entries (things_of sort held)) (thing, amount) → amount ≢ 0
    → Has (goods_lines unit held) (has_row unit (sort_number sort) thing amount)
has_goods unit held Item thing amount there some =
    has_left (kind_lines unit Item (entries held.items)) (kind_lines unit Skill (entries held.days)) _
    (entry_has_kind_row unit Item (entries held.items) thing amount there some)
has_goods unit held Skill thing amount there some =
    has_right (kind_lines unit Item (entries held.items)) (kind_lines unit Skill (entries held.days)) _
    (entry_has_kind_row unit Skill (entries held.days) thing amount there some)

-- the rows of what a unit holds differ in their key
pub goods_apart : (unit : ℕ) (held : HoldingValue) → DifferInKey 3 (goods_lines unit held)
goods_apart unit held =
    apart_append 3 (kind_lines unit Item (entries held.items)) (kind_lines unit Skill (entries held.days)) (sort_apart unit Item (entries held.items) (in_order held.items)) (sort_apart unit Skill (entries held.days) (in_order held.days))
    (λ x y early late same.
    let one = kind_row_is_of_entry unit Item (entries held.items) x early in
    let two = kind_row_is_of_entry unit Skill (entries held.days) y late in
    let keys = three_same unit 0 one.0.0 unit 1 two.0.0 (ap (take 3) (sym one.3) ∙ same ∙ ap (take 3) two.3) in
    absurd (omega (arith, keys.1)))

goods_begin : (n : ℕ) (held : HoldingValue) (r : Row) → Has (goods_lines n held) r → take 1 r ≡ int n ∷ []
goods_begin n held r there = ap (take 1) (goods_has n held r there).4

-- ---- all that all units have

goods_rows : (units : FinMap nat_cmp Unit) (n : ℕ) (u : Unit) → get units n ≡ Some u → (r : Row)
    → Has (goods_lines n u.holding) r → HasRowsOf units r
goods_rows units n u got r there =
    let row = goods_has n u.holding r there in
    (n, u, got, row.0, row.1.0, row.1.1, entry_got (things_of row.0 u.holding) row.1.0 row.1.1 row.2, row.3, row.4)

-- the rows of the table `has` come in groups, one for each unit, whose rows begin with its number (`AreGroups`)
pub goods_grouped : (units : FinMap nat_cmp Unit) → AreGroups unit_goods_lines 3 units (HasRowsOf units)
goods_grouped units = record {
  numbered = λ n u. goods_begin n u.holding;
  apart = λ n u. goods_apart n u.holding;
  wanted = goods_rows units;
  lined = λ r of. (
    of.0,
    of.1,
    of.2,
    subst (Has (goods_lines of.0 of.1.holding)) (sym of.8) (has_goods of.0 of.1.holding of.3 of.4 of.5 (got_entry (things_of of.3 of.1.holding) of.4 of.5 of.6) of.7),
  );
}

-- ---- how much a unit has of a thing

under_unit : (sort : ThingKind) (u : Unit) → things_under sort (Some u) ≡ things_of sort u.holding
under_unit Item u = refl
under_unit Skill u = refl

under_none : (sort : ThingKind) (thing : ℕ) → amount_of (things_under sort None) thing ≡ 0
under_none Item thing = ap (λ (o : Option ℕ). unwrap_or o 0) (get-empty {X = ℕ} nat_cmp thing)
under_none Skill thing = ap (λ (o : Option ℕ). unwrap_or o 0) (get-empty {X = ℕ} nat_cmp thing)

module _ (units : FinMap nat_cmp Unit) where
  -- without a unit of the number each amount is 0
  pub amount_none : (n : ℕ) (sort : ThingKind) (thing : ℕ) → get units n ≡ None → amount_under units n sort thing ≡ 0
  amount_none n sort thing none = ap (λ o. amount_of (things_under sort o) thing) none ∙ under_none sort thing

  -- with a unit of the number an amount is the one that this unit holds
  pub amount_some : (n : ℕ) (sort : ThingKind) (thing : ℕ) (u : Unit) → get units n ≡ Some u
      → amount_under units n sort thing ≡ amount_of (things_of sort u.holding) thing
  amount_some n sort thing u there =
      ap (λ o. amount_of (things_under sort o) thing) there ∙ ap (λ things. amount_of things thing) (under_unit sort u)

  -- each row of the table `has` gives the amount, which is not 0, of an item or skill of its unit
  pub row_has_amount : (r : Row) → HasRowsOf units r
      → (n : ℕ) × (sort : ThingKind) × (thing : ℕ) × (amount_under units n sort thing ≢ 0)
      × (r ≡ has_row n (sort_number sort) thing (amount_under units n sort thing))
  row_has_amount r of =
      let amount : amount_under units of.0 of.3 of.4 ≡ of.5 = amount_some of.0 of.3 of.4 of.1 of.2 ∙ ap (λ (o : Option ℕ). unwrap_or o 0) of.6 in
      (of.0, of.3, of.4, λ none. of.7 (sym amount ∙ none), of.8 ∙ ap (has_row of.0 (sort_number of.3) of.4) (sym amount))

  -- each amount of a unit's item or skill that is not 0 has its row of the table `has`
  pub amount_has_row : (n : ℕ) (sort : ThingKind) (thing amount : ℕ) → amount ≡ amount_under units n sort thing
      → amount ≢ 0 → HasRowsOf units (has_row n (sort_number sort) thing amount)
  amount_has_row n sort thing amount is some = there (get units n) refl
    where
      got : (o : Option ℕ) → amount ≡ unwrap_or o 0 → o ≡ Some amount
      got None zero = absurd (some zero)
      got (Some x) same = ap Some (sym same)

      there : (o : Option Unit) → get units n ≡ o → HasRowsOf units (has_row n (sort_number sort) thing amount)
      there None none = absurd (some (is ∙ amount_none n sort thing none))
      there (Some u) found =
          (n, u, found, sort, thing, amount, got (get (things_of sort u.holding) thing) (is ∙ amount_some n sort thing u found), some, refl)
