-- Every order that is read has operands (what the words after its verb name) of its verb's shape, which says of which
-- kind they are. Numbers are in range, names by the rule, and items, skills and kinds of the world. ws are the words
-- to read, w is one word, `most` the largest number allowed, `fault` the fault of any other, o a number read, or None.
use Rattle.std.proofs.Common.{◌≡◌, ℕ, ◌<◌, ◌≤◌, Bool, List, [], ◌∷◌, length, codes, Option, Some, None, Result, Ok, Err, refl, arith}
use Rattle.std.specs.List.{All}
use Rattle.std.specs.Str.{str_eq_ignore_ascii_case}
use Rattle.std.proofs.lemmas.Bool.{cond_both}
use Rattle.std.proofs.lemmas.Bool.Decides.{nat_tests}
use Rattle.std.proofs.lemmas.List.Elements.{All-nil, All-cons}
use Rattle.std.proofs.lemmas.List.Quantifiers.{position-Some}
use Rattle.atl_words.specs.Limits.{last_alias, most_number}
use Rattle.atl_world.specs.Names.{name_ok}
use Rattle.atl_world.specs.Worlds.{WorldValue}
use Rattle.atl_world.specs.Lookup.{index_named, name_of}
use Rattle.atl_lines.specs.declared.order.UnitRef.{UnitRef}
use Rattle.atl_lines.specs.declared.fault.LineFault.{LineFault}
use Rattle.atl_lines.specs.declared.fault.LineFault.TheVariants.{BadNumber, UnknownThing, BadAlias}
use Rattle.atl_world.specs.declared.verb.Verb.{Verb}
use Rattle.atl_words.specs.Words.{WordText, is_word, number_of}
use Rattle.atl_world.specs.Steps.{◌>>=◌}
use Rattle.atl_lines.specs.Operands.{or_fault, word_at, count_at, number_at, alias_at, unit_at, item_at, amount_of_item_at, skill_at, kind_at, direction_at, unit_by_number, new_unit_ref, and_then_units, units_of, some_units_at}
use Rattle.atl_words.specs.Words.{not_zero}
use Rattle.atl_world.specs.declared.verb.Shape.{Shape}
use Rattle.atl_world.specs.declared.verb.Shape.TheVariants as shapes
use Rattle.atl_world.specs.Verbs.{row_of}
use Rattle.atl_lines.specs.Orders.{OperandsValue, OrderValue, kind_of_name, order_of, read_flag, read_units, read_unit_and_number, read_unit_and_goods, read_name, read_kind, read_operands, read_order}
use Rattle.atl_orders.specs.Bounds.{IsWithin, IsNumber, IsAlias, IsUnitRef, AreOperandsOf, IsOrderOf, shape_of}

-- a condition holds of the value of a result, or the result is a fault
abbrev pub Holds : {X E : Type 0} → (X → Type 0) → Result X E → Type 0
Holds P (Ok x) = P x
Holds P (Err e) = Unit {0}

two_steps_hold : {A B : Type 0} (P : A → Type 0) (Q : B → Type 0) (r : Result A LineFault) (f : A → Result B LineFault)
    → Holds P r → ((x : A) → P x → Holds Q (f x)) → Holds Q (r >>= f)
two_steps_hold P Q (Ok x) f h g = g x h
two_steps_hold P Q (Err e) f h g = tt

value_or_fault : {X : Type 0} (P : X → Type 0) (fault : LineFault) (o : Option X) → ((x : X) → o ≡ Some x → P x)
    → Holds P (or_fault fault o)
value_or_fault P fault None g = tt
value_or_fault P fault (Some x) g = g x refl

-- for a step of reading whose value has no bounds
always_true_holds : {X : Type 0} (r : Result X LineFault) → Holds (λ _. Unit {0}) r
always_true_holds (Ok x) = tt
always_true_holds (Err e) = tt

-- ---- numbers

pub number_within : (most : ℕ) (bytes : List ℕ) (n : ℕ) → number_of most bytes ≡ Some n → n ≤ most
number_within most bytes n h = grind (arith, nat_tests)

-- a number n that is left of o by `not_zero` is from 1 to `most`, if each number that o may be is at most `most`
pub nonzero_is_from_one : (most : ℕ) (o : Option ℕ) (n : ℕ) → ((k : ℕ) → o ≡ Some k → k ≤ most) → not_zero o ≡ Some n
    → IsWithin most n
nonzero_is_from_one most None n f h = cc
nonzero_is_from_one most (Some k) n f h = let m : k ≤ most = f k refl in (grind (arith, nat_tests), grind (arith, nat_tests))

word_number : (most : ℕ) (fault : LineFault) (w : WordText)
    → Holds (IsWithin most) (or_fault fault (not_zero (number_of most w.bytes)))
word_number most fault w =
    value_or_fault (IsWithin most) fault (not_zero (number_of most w.bytes))
    (λ n h. nonzero_is_from_one most (number_of most w.bytes) n (number_within most w.bytes) h)

-- a number that was read, and the words after it
abbrev pub NumberRead : Type 0
NumberRead = ℕ × List WordText

-- the number that is read at the front of ws (`count_at`), if the result is no fault, is from 1 to `most`
pub count_holds : (most : ℕ) (fault : LineFault) (ws : List WordText)
    → Holds (λ (x : NumberRead). IsWithin most x.0) (count_at most fault ws)
unfolding count_at
count_holds most fault [] = tt
count_holds most fault (w ∷ ws) =
    two_steps_hold (IsWithin most) _ (or_fault fault (not_zero (number_of most w.bytes))) _ (word_number most fault w)
    (λ n h. h)

-- ---- units

abbrev UnitRead : Type 0
UnitRead = UnitRef × List WordText

unit_holds : (ws : List WordText) → Holds (λ (x : UnitRead). IsUnitRef x.0) (unit_at ws)
unfolding unit_at
unit_holds [] = tt
unit_holds (w ∷ ws) =
    cond_both (is_word (codes "NEW") w) _ _ (Holds (λ (x : UnitRead). IsUnitRef x.0))
    (λ _. two_steps_hold (λ (x : NumberRead). IsAlias x.0) _ (alias_at ws) _ (count_holds last_alias BadAlias ws) (λ n h. h))
    (λ _. two_steps_hold (λ (x : NumberRead). IsNumber x.0) _ (number_at (w ∷ ws)) _ (count_holds most_number BadNumber (w ∷ ws)) (λ n h. h))

and_then_units_hold : (unit : Result UnitRef LineFault) (units : Result (List UnitRef) LineFault) → Holds IsUnitRef unit
    → Holds (All IsUnitRef) units → Holds (All IsUnitRef) (and_then_units unit units)
and_then_units_hold unit units h k =
    two_steps_hold IsUnitRef _ unit _ h
    (λ u p. two_steps_hold (All IsUnitRef) _ units _ k (λ us q. All-cons IsUnitRef u us p q))

numbered_holds : (w : WordText) → Holds IsUnitRef (unit_by_number w)
numbered_holds w =
    two_steps_hold IsNumber _ (or_fault BadNumber (not_zero (number_of most_number w.bytes))) _
    (word_number most_number BadNumber w) (λ n h. h)

named_holds : (w : WordText) → Holds IsUnitRef (new_unit_ref w)
named_holds w =
    two_steps_hold IsAlias _ (or_fault BadAlias (not_zero (number_of last_alias w.bytes))) _
    (word_number last_alias BadAlias w) (λ n h. h)

units_hold : (ws : List WordText) → Holds (All IsUnitRef) (units_of ws)
unfolding units_of
units_hold [] = All-nil IsUnitRef
units_hold (w ∷ []) =
    cond_both (is_word (codes "NEW") w) _ _ (Holds (All IsUnitRef)) (λ _. tt)
    (λ _. and_then_units_hold (unit_by_number w) (Ok []) (numbered_holds w) (All-nil IsUnitRef))
units_hold (w ∷ v ∷ ws) =
    cond_both (is_word (codes "NEW") w) _ _ (Holds (All IsUnitRef))
    (λ _. and_then_units_hold (new_unit_ref v) (units_of ws) (named_holds v) (units_hold ws))
    (λ _. and_then_units_hold (unit_by_number w) (units_of (v ∷ ws)) (numbered_holds w) (units_hold (v ∷ ws)))

-- ---- things of the world

index_within : {A : Type 0} (title : A → List ℕ) (things : List A) (word : List ℕ) (quoted : Bool) (i : ℕ)
    → index_named title things word quoted ≡ Some i → i < length things
index_within title [] word quoted i h = cc
index_within title (x ∷ xs) word quoted i h =
    (position-Some (λ thing. str_eq_ignore_ascii_case (title thing) (name_of word quoted)) (x ∷ xs) i x h).0

item_holds : (world : WorldValue) (ws : List WordText) → Holds (λ i. i < length world.items) (item_at world ws)
item_holds world [] = tt
item_holds world (w ∷ ws) = value_or_fault _ UnknownThing _ (λ i h. index_within _ world.items w.bytes w.quoted i h)

abbrev Goods : Type 0
Goods = ℕ × ℕ

goods_hold : (world : WorldValue) (ws : List WordText)
    → Holds (λ (x : Goods). IsNumber x.0 × (x.1 < length world.items)) (amount_of_item_at world ws)
goods_hold world ws =
    two_steps_hold (λ (x : NumberRead). IsNumber x.0) _ (number_at ws) _ (count_holds most_number BadNumber ws) (λ amount h.
    two_steps_hold (λ i. i < length world.items) _ (item_at world amount.1) _ (item_holds world amount.1) (λ item k. (h, k)))

skill_holds : (world : WorldValue) (ws : List WordText) → Holds (λ i. i < length world.skills) (skill_at world ws)
skill_holds world [] = tt
skill_holds world (w ∷ ws) = value_or_fault _ UnknownThing _ (λ i h. index_within _ world.skills w.bytes w.quoted i h)

kind_holds : (world : WorldValue) (ws : List WordText) → Holds (λ i. i < length world.kinds) (kind_at world ws)
kind_holds world [] = tt
kind_holds world (w ∷ ws) = value_or_fault _ UnknownThing _ (λ i h. index_within _ world.kinds w.bytes w.quoted i h)

-- ---- what the words after a verb name

abbrev AreOperandsInBounds : WorldValue → Result OperandsValue LineFault → Type 0
AreOperandsInBounds world r = Holds (AreOperandsOf world) r

-- the order of a result, if it is no fault, has operands of its verb's shape, in bounds (`IsOrderOf`)
abbrev pub IsOrderInBounds : WorldValue → Result OrderValue LineFault → Type 0
IsOrderInBounds world r = Holds (IsOrderOf world) r

module _ (world : WorldValue) where
  flag_sound : (ws : List WordText) → AreOperandsInBounds world (read_flag ws)
  flag_sound ws =
      two_steps_hold _ (AreOperandsOf world) (word_at ws) _ (always_true_holds (word_at ws)) (λ w _.
      two_steps_hold _ (AreOperandsOf world) (or_fault BadNumber (number_of 1 w.0.bytes)) _ (always_true_holds (or_fault BadNumber (number_of 1 w.0.bytes))) (λ n _. tt))

  abbrev AreSomeUnits : List UnitRef → Type 0
  AreSomeUnits units = (0 < length units) × All IsUnitRef units

  more_units : (unit : Result UnitRef LineFault) (units : Result (List UnitRef) LineFault) → Holds IsUnitRef unit
      → Holds (All IsUnitRef) units → Holds AreSomeUnits (and_then_units unit units)
  more_units unit units h k =
      two_steps_hold IsUnitRef AreSomeUnits unit _ h
      (λ u p. two_steps_hold (All IsUnitRef) AreSomeUnits units _ k (λ us q. (omega arith, All-cons IsUnitRef u us p q)))

  some_hold : (ws : List WordText) → Holds AreSomeUnits (some_units_at ws)
  unfolding units_of
  some_hold [] = tt
  some_hold (w ∷ []) =
      cond_both (is_word (codes "NEW") w) _ _ (Holds AreSomeUnits) (λ _. tt)
      (λ _. more_units (unit_by_number w) (Ok []) (numbered_holds w) (All-nil IsUnitRef))
  some_hold (w ∷ v ∷ ws) =
      cond_both (is_word (codes "NEW") w) _ _ (Holds AreSomeUnits)
      (λ _. more_units (new_unit_ref v) (units_of ws) (named_holds v) (units_hold ws))
      (λ _. more_units (unit_by_number w) (units_of (v ∷ ws)) (numbered_holds w) (units_hold (v ∷ ws)))

  units_sound : (ws : List WordText) → AreOperandsInBounds world (read_units ws)
  units_sound ws = two_steps_hold AreSomeUnits (AreOperandsOf world) (some_units_at ws) _ (some_hold ws) (λ us h. h)

  unit_and_number_sound : (ws : List WordText) → AreOperandsInBounds world (read_unit_and_number ws)
  unit_and_number_sound ws =
      two_steps_hold _ (AreOperandsOf world) (unit_at ws) _ (unit_holds ws) (λ to h.
      two_steps_hold _ (AreOperandsOf world) (number_at to.1) _ (count_holds most_number BadNumber to.1) (λ n k. (h, k)))

  unit_and_goods_sound : (ws : List WordText) → AreOperandsInBounds world (read_unit_and_goods world ws)
  unit_and_goods_sound ws =
      two_steps_hold _ (AreOperandsOf world) (unit_at ws) _ (unit_holds ws) (λ to h.
      two_steps_hold _ (AreOperandsOf world) (amount_of_item_at world to.1) _ (goods_hold world to.1) (λ goods k. (h, k.0, k.1)))

  name_sound : (ws : List WordText) → AreOperandsInBounds world (read_name ws)
  name_sound ws =
      two_steps_hold _ (AreOperandsOf world) (word_at ws) _ (always_true_holds (word_at ws)) (λ w _.
      two_steps_hold _ (AreOperandsOf world) (or_fault UnknownThing (kind_of_name w.0)) _ (always_true_holds (or_fault UnknownThing (kind_of_name w.0))) (λ what _.
      two_steps_hold _ (AreOperandsOf world) (word_at w.1) _ (always_true_holds (word_at w.1)) (λ v _.
      cond_both (name_ok (name_of v.0.bytes v.0.quoted)) _ _ (AreOperandsInBounds world) (λ h. h) (λ _. tt))))

  kind_sound : (ws : List WordText) → AreOperandsInBounds world (read_kind world ws)
  kind_sound [] = tt
  kind_sound (w ∷ ws) =
      two_steps_hold _ (AreOperandsOf world) (kind_at world (w ∷ ws)) _ (kind_holds world (w ∷ ws)) (λ kind h. h)

  operands_sound : (shape : Shape) (ws : List WordText) → AreOperandsInBounds world (read_operands world shape ws)
  operands_sound shapes.Nothing ws = tt
  operands_sound shapes.Alias ws =
      two_steps_hold _ (AreOperandsOf world) (alias_at ws) _ (count_holds last_alias BadAlias ws) (λ n h. h)
  operands_sound shapes.Flag ws = flag_sound ws
  operands_sound shapes.Number ws =
      two_steps_hold _ (AreOperandsOf world) (number_at ws) _ (count_holds most_number BadNumber ws) (λ n h. h)
  operands_sound shapes.Unit ws = two_steps_hold _ (AreOperandsOf world) (unit_at ws) _ (unit_holds ws) (λ u h. h)
  operands_sound shapes.Units ws = units_sound ws
  operands_sound shapes.UnitAndNumber ws = unit_and_number_sound ws
  operands_sound shapes.UnitAndGoods ws = unit_and_goods_sound ws
  operands_sound shapes.Goods ws =
      two_steps_hold _ (AreOperandsOf world) (amount_of_item_at world ws) _ (goods_hold world ws) (λ goods h. h)
  operands_sound shapes.Name ws = name_sound ws
  operands_sound shapes.Direction ws =
      two_steps_hold _ (AreOperandsOf world) (direction_at ws) _ (always_true_holds (direction_at ws)) (λ d _. tt)
  operands_sound shapes.Kind ws = kind_sound ws
  operands_sound shapes.Skill ws =
      two_steps_hold _ (AreOperandsOf world) (skill_at world ws) _ (skill_holds world ws) (λ skill h. h)
  operands_sound shapes.Item ws =
      two_steps_hold _ (AreOperandsOf world) (item_at world ws) _ (item_holds world ws) (λ item h. h)

  -- the operands of a result, if it is no fault, have this shape
  abbrev HaveShape : Shape → Result OperandsValue LineFault → Type 0
  HaveShape shape r = Holds (λ os. shape_of os ≡ shape) r

  shaped_by : {X : Type 0} (shape : Shape) (r : Result X LineFault) (f : X → Result OperandsValue LineFault)
      → ((x : X) → HaveShape shape (f x)) → HaveShape shape (r >>= f)
  shaped_by shape r f h = two_steps_hold _ (λ os. shape_of os ≡ shape) r f (always_true_holds r) (λ x _. h x)

  kind_shaped : (ws : List WordText) → HaveShape shapes.Kind (read_kind world ws)
  kind_shaped [] = refl
  kind_shaped (w ∷ ws) = shaped_by shapes.Kind (kind_at world (w ∷ ws)) _ (λ kind. refl)

  operands_shaped : (shape : Shape) (ws : List WordText) → HaveShape shape (read_operands world shape ws)
  operands_shaped shapes.Nothing ws = refl
  operands_shaped shapes.Alias ws = shaped_by shapes.Alias (alias_at ws) _ (λ n. refl)
  operands_shaped shapes.Flag ws =
      shaped_by shapes.Flag (word_at ws) _
      (λ w. shaped_by shapes.Flag (or_fault BadNumber (number_of 1 w.0.bytes)) _ (λ n. refl))
  operands_shaped shapes.Number ws = shaped_by shapes.Number (number_at ws) _ (λ n. refl)
  operands_shaped shapes.Unit ws = shaped_by shapes.Unit (unit_at ws) _ (λ u. refl)
  operands_shaped shapes.Units ws = shaped_by shapes.Units (some_units_at ws) _ (λ us. refl)
  operands_shaped shapes.UnitAndNumber ws =
      shaped_by shapes.UnitAndNumber (unit_at ws) _
      (λ to. shaped_by shapes.UnitAndNumber (number_at to.1) _ (λ n. refl))
  operands_shaped shapes.UnitAndGoods ws =
      shaped_by shapes.UnitAndGoods (unit_at ws) _
      (λ to. shaped_by shapes.UnitAndGoods (amount_of_item_at world to.1) _ (λ goods. refl))
  operands_shaped shapes.Goods ws = shaped_by shapes.Goods (amount_of_item_at world ws) _ (λ goods. refl)
  operands_shaped shapes.Name ws =
      shaped_by shapes.Name (word_at ws) _ (λ w.
      shaped_by shapes.Name (or_fault UnknownThing (kind_of_name w.0)) _ (λ what.
      shaped_by shapes.Name (word_at w.1) _ (λ v.
      cond_both (name_ok (name_of v.0.bytes v.0.quoted)) _ _ (HaveShape shapes.Name) (λ _. refl) (λ _. tt))))
  operands_shaped shapes.Direction ws = shaped_by shapes.Direction (direction_at ws) _ (λ d. refl)
  operands_shaped shapes.Kind ws = kind_shaped ws
  operands_shaped shapes.Skill ws = shaped_by shapes.Skill (skill_at world ws) _ (λ skill. refl)
  operands_shaped shapes.Item ws = shaped_by shapes.Item (item_at world ws) _ (λ item. refl)

  order_sound : (verb : Verb) (r : Result OperandsValue LineFault) → HaveShape (row_of verb).shape r
      → AreOperandsInBounds world r → IsOrderInBounds world (r >>= λ os. Ok (order_of verb os))
  order_sound verb (Ok os) h k = record { shape = h; operands = k }
  order_sound verb (Err fault) h k = tt

  -- the order that a verb and the words after it give, if any, says what it is and is in bounds (`IsOrderInBounds`)
  pub said_sound : (verb : Verb) (ws : List WordText) → IsOrderInBounds world (read_order world verb ws)
  unfolding read_order
  said_sound verb ws =
      order_sound verb (read_operands world (row_of verb).shape ws) (operands_shaped (row_of verb).shape ws)
      (operands_sound (row_of verb).shape ws)
