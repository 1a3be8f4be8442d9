-- Laws on integer columns, equal rows and a test joined by "or", for tables whose key has several columns.
-- `v` is a value of SQL. `a` and `b` are the first values of two rows, and `xs` and `ys` their later values.
use Rattle.std.proofs.Common.{◌≡◌, ◌||◌, Bool, true, false, ◌∷◌, refl, sym, true≢false}
use Rattle.sqlite.specs.declared.types.Value.{Value}
use Rattle.sqlite.specs.declared.types.Value.TheVariants.{Null, Int, Real, Text, Blob}
use Rattle.sqlite.specs.Order.{Row}
use Rattle.sqlite.specs.Ops.{is_null}
use Rattle.sqlite.specs.Kind.TheVariants.{Integer}
use Rattle.sqlite_trees.specs.View.{is_int}
use Rattle.sqlite_schema.specs.Rules.{is_of}

-- a value that a column of the type INTEGER may hold, and that isn't NULL, is an integer
pub strict_integer_is_int : (v : Value) → is_of Integer v ≡ true → is_null v ≡ false → is_int v ≡ true
strict_integer_is_int Null typed some = absurd (true≢false some)
strict_integer_is_int (Int n) typed some = refl
strict_integer_is_int (Real x) typed some = absurd (true≢false (sym typed))
strict_integer_is_int (Text t) typed some = absurd (true≢false (sym typed))
strict_integer_is_int (Blob b) typed some = absurd (true≢false (sym typed))

pub cons_is : (a b : Value) (xs ys : Row) → ◌≡◌ {A = Row} (a ∷ xs) (b ∷ ys) → (a ≡ b) × (xs ≡ ys)
cons_is a b xs ys e = (cc, cc)

pub or_with_false : (b rest : Bool) → rest ≡ false → (b || rest) ≡ b
or_with_false true rest none = refl
or_with_false false rest none = none
