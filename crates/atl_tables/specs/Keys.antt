-- One key of a table of the world file: the value under it, by type, range and default, or its fault.
-- See docs/FORMATS.md, "The world file".
-- p is the path of a key, and `at` that of its table; t has the members of this table, and `doc` those of the whole
-- document. `read` turns the value under the key into a result. The rule of names is `name_ok`.
use Rattle.std.specs.Prelude.{ℕ, suc, ℤ, pos, negsuc, Bool, ◌&&◌, nat_le, if◌then◌else◌, List, codes, Option, Some, None, Result, Ok, Err}
use Rattle.std.specs.Fmt.{decimal}
use Rattle.toml.specs.Data.{Data, Items, no_items, item, Members, no_members, get_member, as_integer, as_str, as_bool, as_array, as_table}
use Rattle.atl_world.specs.Texts.{◌▸◌}
use Rattle.atl_world.specs.Names.{name_ok}
use Rattle.atl_tables.specs.declared.fault.WorldFault.{WorldFault}
use Rattle.atl_tables.specs.declared.fault.WorldFault.TheVariants.{Missing, WrongType, OutOfRange}

-- how one key is read: from the path and the members of its table, its value or its fault
abbrev pub KeyReader : Type 0 → Type 0
KeyReader A = List ℕ → Members → Result A WorldFault

-- `path at key` is the path of a key in the table at the path `at`, as `rules.growth`
abbrev pub path : List ℕ → List ℕ → List ℕ
path at key = at ▸ codes "." ▸ key

-- the path of the i-th element of the array at the path `key`, as `region[0]`
abbrev pub element_path : List ℕ → ℕ → List ℕ
element_path key i = key ▸ codes "[" ▸ decimal i ▸ codes "]"

-- reads the value of a key that must be in the table; the fault is Missing if it isn't
abbrev pub needed_value : {A : Type 0} → List ℕ → (Data → Result A WorldFault) → Option Data → Result A WorldFault
needed_value p read None = Err (Missing p)
needed_value p read (Some d) = read d

-- reads the value of a key that may be missing; the default if it is missing
abbrev pub value_or_default : {A : Type 0} → A → (Data → Result A WorldFault) → Option Data → Result A WorldFault
value_or_default default read None = Ok default
value_or_default default read (Some d) = read d

-- a result with `Some x` in place of its value x; a fault stays as it is
abbrev pub value_as_some : {A : Type 0} → Result A WorldFault → Result (Option A) WorldFault
value_as_some (Ok x) = Ok (Some x)
value_as_some (Err f) = Err f

-- reads the value of a key that may be missing; None if it is missing
abbrev pub optional_value : {A : Type 0} → (Data → Result A WorldFault) → Option Data → Result (Option A) WorldFault
optional_value read None = Ok None
optional_value read (Some d) = value_as_some (read d)

-- the value x of `Some x`, else the fault WrongType at the path p (None: the value is of another type)
abbrev pub value_or_wrong_type : {A : Type 0} → List ℕ → Option A → Result A WorldFault
value_or_wrong_type p None = Err (WrongType p)
value_or_wrong_type p (Some x) = Ok x

-- `number_within least most n` is the integer n as a natural number if it is from least to most, else None
abbrev pub number_within : ℕ → ℕ → ℤ → Option ℕ
number_within least most (pos n) = if nat_le least n && nat_le n most then Some n else None
number_within least most (negsuc n) = None

-- the value x of `Some x`, else the fault OutOfRange at the path p (None: the value is out of its range)
abbrev pub value_or_out_of_range : {A : Type 0} → List ℕ → Option A → Result A WorldFault
value_or_out_of_range p None = Err (OutOfRange p)
value_or_out_of_range p (Some x) = Ok x

-- `integer_in_range p least most n` is the integer n (Some) if it is from least to most, else the fault WrongType
-- (None: it is no integer) or OutOfRange at the path p
abbrev pub integer_in_range : List ℕ → ℕ → ℕ → Option ℤ → Result ℕ WorldFault
integer_in_range p least most None = Err (WrongType p)
integer_in_range p least most (Some z) = value_or_out_of_range p (number_within least most z)

-- `name_or_fault p text` is the text (Some) if it keeps the rule of names, else the fault WrongType (None: it is no
-- text) or OutOfRange at the path p
abbrev pub name_or_fault : List ℕ → Option (List ℕ) → Result (List ℕ) WorldFault
name_or_fault p None = Err (WrongType p)
name_or_fault p (Some s) = if name_ok s then Ok s else Err (OutOfRange p)

-- `number_at least most key at t` is the number under a key of the table t at a path, from least to most, else the
-- fault Missing, WrongType or OutOfRange
unfoldable pub number_at : ℕ → ℕ → List ℕ → List ℕ → Members → Result ℕ WorldFault
number_at least most key at t =
    needed_value (path at key) (λ d. integer_in_range (path at key) least most (as_integer d)) (get_member key t)

-- `name_at key at t` is the name under a key of the table t at a path, else the fault Missing, WrongType, or OutOfRange
-- if it breaks the rule of names
unfoldable pub name_at : List ℕ → List ℕ → Members → Result (List ℕ) WorldFault
name_at key at t = needed_value (path at key) (λ d. name_or_fault (path at key) (as_str d)) (get_member key t)

-- `text_at key at t` is the text under a key of the table t at a path, else the fault Missing or WrongType
unfoldable pub text_at : List ℕ → List ℕ → Members → Result (List ℕ) WorldFault
text_at key at t = needed_value (path at key) (λ d. value_or_wrong_type (path at key) (as_str d)) (get_member key t)

-- `flag_at key at t` is the truth value under a key of the table t at a path, else the fault Missing or WrongType
unfoldable pub flag_at : List ℕ → List ℕ → Members → Result Bool WorldFault
flag_at key at t = needed_value (path at key) (λ d. value_or_wrong_type (path at key) (as_bool d)) (get_member key t)

-- `number_or_at default least most key at t` is the number under a key of the table t at a path, from least to most, or
-- the default if the key is missing; else the fault WrongType or OutOfRange
unfoldable pub number_or_at : ℕ → ℕ → ℕ → List ℕ → List ℕ → Members → Result ℕ WorldFault
number_or_at default least most key at t =
    value_or_default default (λ d. integer_in_range (path at key) least most (as_integer d)) (get_member key t)

-- `optional_number_at least most key at t` is the number under a key of the table t at a path, from least to most, None
-- if the key is missing; else the fault WrongType or OutOfRange
unfoldable pub optional_number_at : ℕ → ℕ → List ℕ → List ℕ → Members → Result (Option ℕ) WorldFault
optional_number_at least most key at t =
    optional_value (λ d. integer_in_range (path at key) least most (as_integer d)) (get_member key t)

-- `optional_text_at key at t` is the text under a key of the table t at a path, None without the key; else WrongType
unfoldable pub optional_text_at : List ℕ → List ℕ → Members → Result (Option (List ℕ)) WorldFault
optional_text_at key at t = optional_value (λ d. value_or_wrong_type (path at key) (as_str d)) (get_member key t)

-- `optional_table_at key at t` is the table under a key of the table t at a path, empty without the key; else WrongType
unfoldable pub optional_table_at : List ℕ → List ℕ → Members → Result Members WorldFault
optional_table_at key at t = value_or_default no_members (λ d. value_or_wrong_type (path at key) (as_table d)) (get_member key t)

-- the table under a key of the document, else the fault Missing or WrongType
unfoldable pub table_at : List ℕ → Members → Result Members WorldFault
table_at key doc = needed_value key (λ d. value_or_wrong_type key (as_table d)) (get_member key doc)

-- the number of elements of an array
abbrev pub count_of : Items → ℕ
count_of no_items = 0
count_of (item d ds) = suc (count_of ds)

-- `array_of_size key least most items` is the array (Some) if it has least to most elements, else the fault WrongType
-- (None: it is no array) or OutOfRange at the path `key`
abbrev pub array_of_size : List ℕ → ℕ → ℕ → Option Items → Result Items WorldFault
array_of_size key least most None = Err (WrongType key)
array_of_size key least most (Some ds) =
    if nat_le least (count_of ds) && nat_le (count_of ds) most then Ok ds else Err (OutOfRange key)

-- the array under a key of the document, of 1 to most elements, else the fault Missing, WrongType or OutOfRange
unfoldable pub array_at : ℕ → List ℕ → Members → Result Items WorldFault
array_at most key doc = needed_value key (λ d. array_of_size key 1 most (as_array d)) (get_member key doc)

-- `optional_array_at most array key t` is the array under a key of the table t, of 0 to most elements, empty if the key
-- is missing; else the fault WrongType or OutOfRange at the path `array`
unfoldable pub optional_array_at : ℕ → List ℕ → List ℕ → Members → Result Items WorldFault
optional_array_at most array key t = value_or_default no_items (λ d. array_of_size array 0 most (as_array d)) (get_member key t)
