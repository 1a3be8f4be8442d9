-- Tables that are read key by key: one definition gives both the conditions on the keys and the value.
-- See docs/FORMATS.md, "The world file".
use Rattle.std.specs.Prelude.{ℕ, Bool, false, List, [], ◌∷◌, ◌++◌, Option, None}
use Rattle.toml.specs.Data.{Members}
use Rattle.atl_tables.specs.Faults.{Conditions, fault_of, first_fault, value_or}
use Rattle.atl_tables.specs.Keys.{KeyReader, number_at, name_at, text_at, flag_at, number_or_at, optional_text_at}

-- what reading a table gives: the conditions on its keys in order, and its value, with a default for each faulty key
pub record TableReading (A : Type 0) : Type 0 where
  pub conditions : Conditions
  pub value : A

-- a way to read a table: from its path and its members, the conditions on its keys and its value
abbrev pub TableReader : Type 0 → Type 0
TableReader A = List ℕ → Members → TableReading A

-- the conditions that `table`, a way to read a table, gives for a table with members t at the path `at`
abbrev pub conditions_of : {A : Type 0} → TableReader A → List ℕ → Members → Conditions
conditions_of table at t = (table at t).conditions

-- the value that `table`, a way to read a table, gives for a table with members t at the path `at`
abbrev pub value_of : {A : Type 0} → TableReader A → List ℕ → Members → A
value_of table at t = (table at t).value

-- reads the keys of `first`, then those of `next`, which may depend on the value of `first`; gives the value of `next`
infixl 10 ◌>>=◌
abbrev pub ◌>>=◌ : {A B : Type 0} → TableReader A → (A → TableReader B) → TableReader B
first >>= next = λ at t. record {
  conditions = conditions_of first at t ++ conditions_of (next (value_of first at t)) at t;
  value = value_of (next (value_of first at t)) at t;
}

-- a way to read a table that reads no key and has no condition, and gives the value x
abbrev pub value_only : {A : Type 0} → A → TableReader A
value_only x = λ at t. record { conditions = []; value = x }

-- reads the keys that `table` reads; all conditions on them become one, which has the first of their faults, if any
abbrev pub as_one_condition : {A : Type 0} → TableReader A → TableReader A
as_one_condition table = λ at t. record { conditions = first_fault (conditions_of table at t) ∷ []; value = value_of table at t }

-- reads one key; the value is the default d if the key has a fault
abbrev pub one_key : {A : Type 0} → A → KeyReader A → TableReader A
one_key d key = λ at t. record { conditions = fault_of (key at t) ∷ []; value = value_or d (key at t) }

-- `number_key least most key` reads a key that must be a number from least to most; with a fault its value is 0
abbrev pub number_key : ℕ → ℕ → List ℕ → TableReader ℕ
number_key least most key = one_key 0 (number_at least most key)

-- `number_or_key default least most key` reads a key that is a number from least to most, or missing; the value is the
-- default if it is missing or has a fault
abbrev pub number_or_key : ℕ → ℕ → ℕ → List ℕ → TableReader ℕ
number_or_key default least most key = one_key default (number_or_at default least most key)

-- reads a key that must be a text by the rule of names (`name_ok`); with a fault its value is the empty text
abbrev pub name_key : List ℕ → TableReader (List ℕ)
name_key key = one_key [] (name_at key)

-- reads a key that must be a text; with a fault its value is the empty text
abbrev pub text_key : List ℕ → TableReader (List ℕ)
text_key key = one_key [] (text_at key)

-- reads a key that is a text, or missing; the value is None if it is missing or has a fault
abbrev pub optional_text_key : List ℕ → TableReader (Option (List ℕ))
optional_text_key key = one_key None (optional_text_at key)

-- reads a key that must be true or false; with a fault its value is false
abbrev pub flag_key : List ℕ → TableReader Bool
flag_key key = one_key false (flag_at key)
