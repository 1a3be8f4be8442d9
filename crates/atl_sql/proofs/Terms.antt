-- Small laws on SQL's casts and tests that each table's laws need.
-- A cast is what a column makes of a value that is written to it.
use Rattle.std.proofs.Common.{◌≡◌, ◌&&◌, ◌||◌, ℕ, Bool, true, false, cond, [], ◌∷◌, sym, ap, ◌∙◌, refl}
use Rattle.std.specs.Ordering.{is_eq}
use Rattle.std.proofs.lemmas.Cmp.{tied_itself}
use Rattle.sqlite.specs.declared.types.Value.{Value}
use Rattle.sqlite.specs.declared.types.Value.TheVariants.{Null, Int}
use Rattle.sqlite.specs.Order.{Row, value_cmp}
use Rattle.sqlite.specs.Ops.{unary}
use Rattle.sqlite.specs.Cast.{cast}
use Rattle.sqlite.specs.Kind.TheVariants.{Integer}
use Rattle.sqlite.specs.Collation.TheVariants.{Binary}
use Rattle.sqlite_schema.specs.Rules.{equal}
use Rattle.sqlite_trees.specs.View.{is_int}
use Rattle.sqlite_value.proofs.OrderLemmas.{value_cmp_total}
use Rattle.atl_sql.specs.Shown.{int}
use Rattle.atl_sql.proofs.UpsertLaws.{equal_is, is_equal}
use mathlib.Core.Bool.{and-true}

choice_of_equals : (b : Bool) (x : Value) → cond b x x ≡ x
choice_of_equals true x = refl
choice_of_equals false x = refl

pub cast_null : cast Integer Null ≡ Null
unfolding unary
cast_null = choice_of_equals _ Null

pub cast_int : (n : _) → cast Integer (Int n) ≡ Int n
unfolding unary
cast_int n = choice_of_equals _ (Int n)

pub and_true_or_false : (b rest : Bool) → rest ≡ false → ((b && true) || rest) ≡ b
and_true_or_false true rest none = refl
and_true_or_false false rest none = none

pub head_is : (a b : Value) (xs ys : Row) → ◌≡◌ {A = Row} (a ∷ xs) (b ∷ ys) → a ≡ b
head_is a b xs ys e = cc

-- the test of an upsert finds a row, whose rowid is the integer `a`, exactly if its number is `n`; `rest` is the test
-- by further indexes, which find nothing
pub upsert_finds_number : (a : Value) (n : ℕ) (rest : Bool) → rest ≡ false → is_int a ≡ true
    → (((equal Binary a (int n) && true) || rest) ≡ true → ◌≡◌ {A = Row} (a ∷ []) (int n ∷ []))
    × (◌≡◌ {A = Row} (a ∷ []) (int n ∷ []) → ((equal Binary a (int n) && true) || rest) ≡ true)
upsert_finds_number a n rest none integer = (
  λ hit. ap (λ v. v ∷ []) (equal_is a (int n) integer refl (sym (and_true_or_false _ rest none) ∙ hit)),
  λ same. and_true_or_false _ rest none ∙ ap (λ v. equal Binary v (int n)) (head_is _ _ _ _ same) ∙ is_equal (int n) refl,
)

-- `a` is an integer: the rowid of a row, which is its number and its whole key. The test by which a DELETE of the
-- number `n` finds the row is true exactly if `a` is `n`.
pub delete_finds_number : (a : Value) (n : ℕ) → is_int a ≡ true
    → ((equal Binary a (int n) && true) ≡ true → ◌≡◌ {A = Row} (a ∷ []) (int n ∷ []))
    × (◌≡◌ {A = Row} (a ∷ []) (int n ∷ []) → (equal Binary a (int n) && true) ≡ true)
delete_finds_number a n integer = (
  λ hit. ap (λ v. v ∷ []) (equal_is a (int n) integer refl (sym (and-true _) ∙ hit)),
  λ same. and-true _ ∙ ap (λ v. equal Binary v (int n)) (head_is _ _ _ _ same) ∙ is_equal (int n) refl,
)

pub one_number : (a b : Value) → ◌≡◌ {A = Row} (a ∷ []) (b ∷ []) → is_eq (value_cmp a b) ≡ true
one_number a b same = ap (λ v. is_eq (value_cmp v b)) (head_is _ _ _ _ same) ∙ ap is_eq (tied_itself value_cmp_total b)
