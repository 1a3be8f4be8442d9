-- Laws on a tree's rows by their rowids: finding, removing and putting rows keeps the rowids different.
-- A tree is where the file keeps the rows of one table.
-- `rows` are the rows of a tree, and `ids` some rowids. `new` is a row that is put, in place of one with its rowid.
use Rattle.std.proofs.Common.{◌≡◌, ℤ, Bool, true, false, not, List, [], ◌∷◌, map, Ordering, Less, Equal, Greater, refl, sym, ap, ◌∙◌, subst, inl, inr, true≢false}
use Rattle.std.specs.List.{AllByRecursion}
use Rattle.std.specs.Ordering.{is_eq, ordering_reverse}
use Rattle.std.proofs.lemmas.Cmp.{tied_itself}
use Rattle.std.proofs.lemmas.Bool.{cases_Bool}
use Rattle.sqlite_value.specs.declared.value.Value.TheVariants.{Int}
use Rattle.sqlite_value.specs.declared.value.Value.{Value}
use Rattle.sqlite_value.specs.Order.{Row, value_cmp}
use Rattle.sqlite_value.proofs.OrderLemmas.{value_cmp_total}
use Rattle.sqlite_trees.specs.Tree.{rowid, has_rowid, without_rowid, put_row, IsAscending}
use Rattle.sqlite_trees.specs.View.{is_int}
use Rattle.sqlite_rules.specs.Lists.{Has}
use Rattle.sqlite_rules.specs.Edit.{id_in, without_all}
use Rattle.sqlite_rules.specs.Calls.{ids_of}
use Rattle.sqlite_rules.proofs.ListLemmas.{all_has, has_filtered, has_kept}
use Rattle.sqlite_rules.proofs.TableLemmas.{int_is, without_all_has}
use Rattle.std.specs.Ordering.{match_ordering}
use Rattle.std.proofs.lemmas.Bool.{or_parts}
use Rattle.sqlite_rules.specs.Edit.{is_taken}
use Rattle.sqlite_rules.proofs.ListLemmas.{all_from, some_from}
use Rattle.sqlite_trees.proofs.TreeLemmas.{all-put_row}
use Rattle.sqlite_catalog.proofs.LayoutLemmas.{ascending_filter}
use Rattle.atl_descriptions.specs.Sets.{AreKeyedByRowid}

pub has_map : {X Y : Type 0} (f : X → Y) (xs : List X) (x : X) → Has xs x → Has (map f xs) (f x)
has_map f [] x h = absurd h
has_map f (y ∷ xs) x (inl same) = inl (ap f same)
has_map f (y ∷ xs) x (inr later) = inr (has_map f xs x later)

pub map_has : {X Y : Type 0} (f : X → Y) (xs : List X) (y : Y) → Has (map f xs) y → (x : X) × Has xs x × (y ≡ f x)
map_has f [] y h = absurd h
map_has f (x ∷ xs) y (inl same) = (x, inl refl, same)
map_has f (x ∷ xs) y (inr later) = let r = map_has f xs y later in (r.0, inr r.1, r.2)

-- ---- rowids

pub eq_sym : (a b : Value) → is_eq (value_cmp a b) ≡ true → is_eq (value_cmp b a) ≡ true
eq_sym a b h = sym (ap is_eq (value_cmp_total.antisymm a b) ∙ reversed (value_cmp b a)) ∙ h
  where
    reversed : (o : Ordering) → is_eq (ordering_reverse o) ≡ is_eq o
    reversed Less = refl
    reversed Equal = refl
    reversed Greater = refl

-- two rows of a tree with the same rowid are one row, if no two of its rowids are alike
pub one_rowid : (rows : List Row) → IsAscending (λ a b. is_eq (value_cmp (rowid a) (rowid b)) ≡ false) rows
    → (a b : Row) → Has rows a → Has rows b → is_eq (value_cmp (rowid a) (rowid b)) ≡ true → a ≡ b
one_rowid [] up a b h k same = absurd h
one_rowid (r ∷ rows) up a b (inl e) (inl f) same = e ∙ sym f
one_rowid (r ∷ rows) up a b (inl e) (inr k) same = absurd (true≢false (sym same ∙ rw e (all_has _ rows b up.0 k)))
one_rowid (r ∷ rows) up a b (inr h) (inl f) same =
    absurd (true≢false (sym (eq_sym _ _ same) ∙ rw f (all_has _ rows a up.0 h)))
one_rowid (r ∷ rows) up a b (inr h) (inr k) same = one_rowid rows up.1 a b h k same

-- taking out the rows with these rowids keeps each row that has none of them
pub without_keeps : (ids : List ℤ) (rows : List Row) (r : Row) → Has rows r
    → ((id : ℤ) → Has ids id → has_rowid id r ≡ false) → Has (without_all rows ids) r
without_keeps [] rows r h apart = h
without_keeps (id ∷ ids) rows r h apart =
    without_keeps ids (without_rowid id rows) r (has_kept _ rows r h (ap not (apart id (inl refl)))) (λ i there. apart i (inr there))

-- a row that is left, once the rows with these rowids are taken out, has none of them
pub without_drops : (ids : List ℤ) (rows : List Row) (r : Row) → Has (without_all rows ids) r → (id : ℤ) → Has ids id
    → has_rowid id r ≡ false
without_drops [] rows r h id there = absurd there
without_drops (i ∷ ids) rows r h id (inl same) =
    let kept = (has_filtered _ rows r (without_all_has ids (without_rowid i rows) r h)).1 in
    elim (cases_Bool (has_rowid id r)) [ inl hit ↦ absurd (true≢false (sym kept ∙ ap not (ap (λ z. has_rowid z r) (sym same) ∙ hit))) | inr miss ↦ miss ]
without_drops (i ∷ ids) rows r h id (inr later) = without_drops ids (without_rowid i rows) r h id later

-- ---- the rows that are found by a test, as their rowids

-- the rowids in `found` are exactly those of the rows that pass the test `p`
pub record AreFound (p : Row → Bool) (rows found : List Row) : Type 0 where
  pub sound : (x : Row) → Has found x → (r : Row) × Has rows r × (p r ≡ true) × (x ≡ rowid r ∷ [])
  pub complete : (r : Row) → Has rows r → p r ≡ true → Has found (rowid r ∷ [])

-- if all rowids of a tree's rows are integers, the rowid of each is the integer that `id_in` reads from it
pub is_int_at : (rows : List Row) (r : Row) → AllByRecursion (λ r. is_int (rowid r) ≡ true) rows → Has rows r
    → rowid r ≡ Int (id_in (rowid r))
is_int_at rows r ints h = int_is (rowid r) (all_has _ rows r ints h)

-- The rowids of `rows` are integers, no two alike. `found` has exactly the rowids of the rows that pass the test p,
-- each as a row of one column (`AreFound`). Once the rows with these rowids are taken out, exactly those that fail the
-- test are left.
module _ (p : Row → Bool) (rows found : List Row) (keyed : AreKeyedByRowid rows) (are : AreFound p rows found) where
  pub stays : (r : Row) → Has rows r → p r ≡ false → Has (without_all rows (ids_of found)) r
  stays r h fails = without_keeps (ids_of found) rows r h (λ id there.
      let it = map_has (λ r. id_in (rowid r)) found id there in
      let hit = are.sound it.0 it.1 in
      elim (cases_Bool (has_rowid id r)) [
        | inl same ↦ absurd (
            let value : Int id ≡ rowid hit.0 = ap Int (it.2 ∙ ap (λ x. id_in (rowid x)) hit.3) ∙ sym (is_int_at rows hit.0 keyed.ints hit.1) in
            let other : r ≡ hit.0 = one_rowid rows keyed.apart r hit.0 h hit.1 (subst (λ v. is_eq (value_cmp (rowid r) v) ≡ true) value same) in true≢false (sym hit.2 ∙ ap p (sym other) ∙ fails))
        | inr apart ↦ apart
      ])

  pub was_there : (r : Row) → Has (without_all rows (ids_of found)) r → Has rows r × (p r ≡ false)
  was_there r h =
      let was = without_all_has (ids_of found) rows r h in (
        was,
        elim (cases_Bool (p r)) [
          | inl passes ↦ absurd (
              let there = has_map (λ r. id_in (rowid r)) found _ (are.complete r was passes) in
              let apart = without_drops (ids_of found) rows r h (id_in (rowid r)) there in
              true≢false (sym (ap is_eq (tied_itself value_cmp_total (rowid r))) ∙ ap (λ v. is_eq (value_cmp (rowid r) v)) (is_int_at rows r keyed.ints was) ∙ apart))
          | inr fails ↦ fails
        ],
      )

-- ---- an edit keeps the rowids apart

-- once the rows with these rowids are taken out, the rowids are still integers, no two alike
pub keyed_without : (ids : List ℤ) (rows : List Row) → AreKeyedByRowid rows → AreKeyedByRowid (without_all rows ids)
keyed_without [] rows keyed = keyed
keyed_without (id ∷ ids) rows keyed = keyed_without ids (without_rowid id rows) (record {
  apart = ascending_filter _ _ rows keyed.apart;
  ints = all_from _ _ (λ r there. all_has _ rows r keyed.ints (has_filtered _ rows r there).0);
})

apart_put : (new : Row) (rows : List Row) → IsAscending (λ a b. is_eq (value_cmp (rowid a) (rowid b)) ≡ false) rows
    → is_taken rows new ≡ false
    → IsAscending (λ a b. is_eq (value_cmp (rowid a) (rowid b)) ≡ false) (put_row new rows)
apart_put new [] apart free = (tt, tt)
apart_put new (r ∷ rows) apart free =
    go (value_cmp (rowid r) (rowid new)) refl (apart_put new rows apart.1 (or_parts _ _ free).1)
  where
    untaken : (x : Row) → Has (r ∷ rows) x → is_eq (value_cmp (rowid new) (rowid x)) ≡ false
    untaken x there = elim (cases_Bool (is_eq (value_cmp (rowid new) (rowid x)))) [
      | inl same ↦ absurd (true≢false (sym (some_from (λ r. is_eq (value_cmp (rowid r) (rowid new))) (r ∷ rows) x there (eq_sym _ _ same)) ∙ free))
      | inr other ↦ other
    ]

    go : (o : Ordering) → value_cmp (rowid r) (rowid new) ≡ o
        → IsAscending (λ a b. is_eq (value_cmp (rowid a) (rowid b)) ≡ false) (put_row new rows)
        → IsAscending (λ a b. is_eq (value_cmp (rowid a) (rowid b)) ≡ false) (match_ordering o (r ∷ put_row new rows) (new ∷ rows) (new ∷ r ∷ rows))
    go Less is more = (all-put_row _ new rows (ap is_eq is) apart.0, more)
    go Equal is more = absurd (true≢false (sym (ap is_eq is) ∙ (or_parts _ _ free).0))
    go Greater is more = (all_from _ (r ∷ rows) untaken, apart)

-- once a row is put whose rowid is an integer that no row had, the rowids are still integers, no two alike
pub keyed_put : (new : Row) (rows : List Row) → AreKeyedByRowid rows → is_taken rows new ≡ false
    → is_int (rowid new) ≡ true → AreKeyedByRowid (put_row new rows)
keyed_put new rows keyed free int =
    record { apart = apart_put new rows keyed.apart free; ints = all-put_row _ new rows int keyed.ints }
