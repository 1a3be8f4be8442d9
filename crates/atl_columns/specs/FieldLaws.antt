-- For proofs alone: columns write the row that they read, and read exactly the values of their forms, if each column
-- does. The laws of `Fields` cite these.
-- `x` has the fields of a row: that of the first value, and those of the others. `at` is the index of the first column
-- that is read.
use Rattle.std.proofs.Common.{length, ℕ, suc, ◌≡◌, ◌+◌, ◌⊎◌, inl, inr, List, [], ◌∷◌, Option, Some, None, refl, ap}
use Rattle.sqlite_value.specs.declared.value.Value.{Value}
use Rattle.sqlite_value.specs.Order.{Row, column}
use Rattle.atl_columns.specs.Fields.{both, columns_from, encode_then, decode_then, decode_end}
use Rattle.atl_columns.specs.Forms.{Form, HasForm, IsTypedFrom}

-- if two values are there as the pair `p` (`both`), the first one is there
pub both_first : {X Y : Type 0} (a : Option X) (b : Option Y) (p : X × Y) → both a b ≡ Some p → a ≡ Some p.0
both_first None b p is = cc
both_first (Some x) None p is = cc
both_first (Some x) (Some y) p is = let e : ◌≡◌ {A = _} (x, y) p = cc in ap (λ q. Some q.0) e

-- if two values are there as the pair `p` (`both`), the second one is there
pub both_second : {X Y : Type 0} (a : Option X) (b : Option Y) (p : X × Y) → both a b ≡ Some p → b ≡ Some p.1
both_second None b p is = cc
both_second (Some x) None p is = cc
both_second (Some x) (Some y) p is = let e : ◌≡◌ {A = _} (x, y) p = cc in ap (λ q. Some q.1) e

-- `one` writes the first field and `read_one` reads it; `more` and `read_more` do this with the other fields
module _ {X Y : Type 0} (one : X → Value) (read_one : Value → Option X) (more : Y → Row) (read_more : Row → Option Y) where
  -- a row that reads as fields is what they are written as, if this is so of the first value and the others
  pub then_same : (row : Row) (x : X × Y) → ((v : Value) → read_one v ≡ Some x.0 → one x.0 ≡ v)
      → ((vs : Row) → read_more vs ≡ Some x.1 → more x.1 ≡ vs)
      → decode_then read_one read_more row ≡ Some x → encode_then one more x ≡ row
  then_same [] x p q is = cc
  then_same (v ∷ vs) x p q is =
      let here = p v (both_first _ _ x is) in
      let later = q vs (both_second _ _ x is) in
      cc

-- A row that reads as fields has its columns' forms, and one that doesn't read hasn't, if each is so of the first value
-- and of the others. `read_one` reads the first field, whose form is `form`; `read_more` the others, of `forms`.
module _ {X Y : Type 0} (read_one : Value → Option X) (read_more : Row → Option Y) (form : Form) (forms : List Form) where
  pub then_typed : (row : Row) (at : ℕ) (x : X × Y) → (read_one (column row at) ≡ Some x.0 → HasForm form (column row at))
      → (read_more (columns_from (at + 1) (length forms) row) ≡ Some x.1 → IsTypedFrom (at + 1) forms row)
      → decode_then read_one read_more (columns_from at (suc (length forms)) row) ≡ Some x
      → IsTypedFrom at (form ∷ forms) row
  then_typed row at x first others is = (first (both_first _ _ x is), others (both_second _ _ x is))

  neither : (a : Option X) (b : Option Y) → both a b ≡ None → (a ≡ None) ⊎ (b ≡ None)
  neither None b is = inl refl
  neither (Some x) None is = inr refl
  neither (Some x) (Some y) is = absurd (let e : ◌≡◌ {A = Option (X × Y)} (Some (x, y)) None = is in cc)

  pub then_other : (row : Row) (at : ℕ) → (read_one (column row at) ≡ None → ¬ HasForm form (column row at))
      → (read_more (columns_from (at + 1) (length forms) row) ≡ None → ¬ IsTypedFrom (at + 1) forms row)
      → decode_then read_one read_more (columns_from at (suc (length forms)) row) ≡ None
      → ¬ IsTypedFrom at (form ∷ forms) row
  then_other row at first others is typed =
      elim (neither (read_one (column row at)) (read_more (columns_from (at + 1) (length forms) row)) is)
      [ inl a ↦ first a typed.0 | inr b ↦ others b typed.1 ]

-- a row without values is read as no fields (`decode_end`)
pub end_other : decode_end [] ≡ None → ⊥
end_other is = let e : ◌≡◌ {A = Option (Unit {0})} (Some tt) None = is in cc

-- a row that is read as no fields (`decode_end`) has no values
pub end_same : (row : Row) (x : Unit {0}) → decode_end row ≡ Some x → ◌≡◌ {A = Row} [] row
end_same [] x is = refl
end_same (v ∷ vs) x is = cc
