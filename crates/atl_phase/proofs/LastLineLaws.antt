-- Laws of the greatest line of each unit in a slot: noting line by line gives the last line of the mailing's orders. To
-- note a line is to enter it in the map `lines` under its slot and its unit, unless a greater one is there.
use Rattle.std.proofs.Common.{◌≡◌, ℕ, ◌+◌, ◌<◌, ◌==◌, ◌&&◌, if◌then◌else◌, max, Bool, true, false, cond, List, drop, map, length, get_or, Some, None, Option, refl, sym, ap, ◌∙◌, arith}
use Rattle.std.specs.Prelude.{unwrap_or}
use Rattle.std.specs.Ordering.{nat_cmp}
use Rattle.std.specs.Cmp.{nat_cmp_total, unsigned_ties}
use Rattle.std.specs.FinMap.{get, insert, empty, get-insert, get-empty}
use Rattle.atl_world.specs.Groups.{group_of}
use Rattle.atl_world.proofs.GeneralLaws.{equality_is_symmetric, is_equal}
use Rattle.atl_orders.specs.declared.mailing.Entry.{Entry}
use Rattle.atl_world.specs.declared.verb.Slot.{Slot}
use Rattle.atl_orders.specs.Mailing.{entry_value}
use Rattle.atl_world.specs.Verbs.{row_of}
use Rattle.atl_world.proofs.KeyLaws.{next_of}
use Rattle.atl_phase.specs.Month.{Aliases}
use Rattle.atl_phase.specs.PhaseOrders.{unit_of, slot_number, is_same_slot, last_line, tasks_from}
use Rattle.atl_phase.specs.OrderIndices.{LastLineMap, line_in, with_line}

-- the lines noted so far (`lines`), and one more line that is noted, for the slot of number k and for unit u
module _ (lines : LastLineMap) (k u line : ℕ) where
  -- after a line of slot k and unit u is noted, slot k has for u the greater of this line and the old one; other slots
  -- stay
  group_at : (j : ℕ)
      → group_of (with_line lines k u line) j
      ≡ (if j == k then insert (group_of lines k) u (max (line_in lines k u) line) else group_of lines j)
  group_at j =
      ap (λ o. unwrap_or o empty) (get-insert nat_cmp_total lines k (insert (group_of lines k) u (max (line_in lines k u) line)) j)
      ∙ ap (λ b. unwrap_or (cond b (Some (insert (group_of lines k) u (max (line_in lines k u) line))) (get lines j)) empty) (sym (unsigned_ties j k))
      ∙ elim (j == k) as (λ b. unwrap_or (cond b (Some (insert (group_of lines k) u (max (line_in lines k u) line))) (get lines j)) empty ≡ (if b then insert (group_of lines k) u (max (line_in lines k u) line) else group_of lines j)) [
        | true ↦ refl
        | false ↦ refl
      ]

  in_group : (unit n : ℕ)
      → max (unwrap_or (get (insert (group_of lines k) u (max (line_in lines k u) line)) unit) 0) n
      ≡ max (line_in lines k unit) (max (if (u == unit) && true then line else 0) n)
  in_group unit n =
      ap (λ o. max (unwrap_or o 0) n) (get-insert nat_cmp_total (group_of lines k) u (max (line_in lines k u) line) unit)
      ∙ ap (λ b. max (unwrap_or (cond b (Some (max (line_in lines k u) line)) (get (group_of lines k) unit)) 0) n) (sym (unsigned_ties unit u) ∙ equality_is_symmetric unit u)
      ∙ elim (u == unit) as (λ b. (u == unit) ≡ b → max (unwrap_or (cond b (Some (max (line_in lines k u) line)) (get (group_of lines k) unit)) 0) n ≡ max (line_in lines k unit) (max (if b && true then line else 0) n)) [
        | true ↦ λ e. let here : line_in lines k u ≡ line_in lines k unit = ap (line_in lines k) (is_equal u unit e) in max_regrouped (line_in lines k u) (line_in lines k unit) line n here
        | false ↦ λ _. max_with_zero (line_in lines k unit) n
      ] refl
    where
      max_regrouped : (a b line n : ℕ) → a ≡ b → max (max a line) n ≡ max b (max line n)
      max_regrouped a b line n h = omega arith

      max_with_zero : (a n : ℕ) → max a n ≡ max a (max 0 n)
      max_with_zero a n = omega arith

  -- once a line of slot k and unit u is noted, the greatest line is for k and u the greater of this line and the old
  -- one, and otherwise the old one
  noted_at : (j unit n : ℕ)
      → max (line_in (with_line lines k u line) j unit) n
      ≡ max (line_in lines j unit) (max (if (u == unit) && (j == k) then line else 0) n)
  noted_at j unit n =
      ap (λ g. max (unwrap_or (get g unit) 0) n) (group_at j)
      ∙ elim (j == k) as (λ b. (j == k) ≡ b → max (unwrap_or (get (if b then insert (group_of lines k) u (max (line_in lines k u) line) else group_of lines j) unit) 0) n ≡ max (line_in lines j unit) (max (if (u == unit) && b then line else 0) n)) [
        | true ↦ λ e. in_group unit n ∙ ap (λ i. max (line_in lines i unit) (max (if (u == unit) && true then line else 0) n)) (sym (is_equal j k e))
        | false ↦ λ _. other (u == unit) (line_in lines j unit)
      ] refl
    where
      other : (b : Bool) (a : ℕ) → max a n ≡ max a (max (if b && false then line else 0) n)
      other true a = omega arith
      other false a = omega arith

-- the mailing of a faction, with the bytes `text`: `rest_from i es unit` is the greatest line that the orders es from
-- index i on have in the slot for the unit (0 where none is)
module _ (slot : Slot) (aliases : Aliases) (faction : ℕ) (text : List ℕ) where
  abbrev rest_from : ℕ → List Entry → ℕ → ℕ
  rest_from i es unit = last_line slot unit (tasks_from aliases faction i (map (entry_value text) (drop i es)))

  -- The greatest line of the orders from i on is that of the orders from i + 1 on. But it is the line of the order at
  -- i, if this order is in the slot and for the unit, and its line is greater.
  opened : (es : List Entry) (i : ℕ) (e : Entry) (in_slot : Option Slot) (unit : ℕ) → i < length es → e ≡ get_or es i e
      → (row_of e.order.verb).slot ≡ in_slot →
      rest_from i es unit ≡ max (if (unit_of aliases faction e.target == unit) && is_same_slot slot in_slot then e.line else 0) (rest_from (i + 1) es unit)
  opened es i e in_slot unit h is slot_is =
      ap (λ ds. last_line slot unit (tasks_from aliases faction i (map (entry_value text) ds))) (next_of es i e h is)
      ∙ ap (λ o. max (if (unit_of aliases faction e.target == unit) && is_same_slot slot o then e.line else 0) (rest_from (i + 1) es unit)) slot_is

  -- The order e at i is in slot `other`. Once its line is noted, the greater of the line noted for `slot` and a unit,
  -- and of those still to come for them, is the same as before.
  pub noted : (es : List Entry) (i : ℕ) (e : Entry) (lines : LastLineMap) (other : Slot) (unit : ℕ) → i < length es
      → e ≡ get_or es i e → (row_of e.order.verb).slot ≡ Some other →
      max (line_in (with_line lines (slot_number other) (unit_of aliases faction e.target) e.line) (slot_number slot) unit) (rest_from (i + 1) es unit) ≡ max (line_in lines (slot_number slot) unit) (rest_from i es unit)
  noted es i e lines other unit h is b =
      noted_at lines (slot_number other) (unit_of aliases faction e.target) e.line (slot_number slot) unit (rest_from (i + 1) es unit)
      ∙ ap (max (line_in lines (slot_number slot) unit)) (sym (opened es i e (Some other) unit h is b))

  neither : (c : Bool) (line n : ℕ) → max (if c && false then line else 0) n ≡ n
  neither true line n = omega arith
  neither false line n = omega arith

  -- an order at i whose verb has no slot is passed over: the greatest line of the orders from i + 1 on is that of those
  -- from i on
  pub passed : (es : List Entry) (i : ℕ) (e : Entry) (unit : ℕ) → i < length es → e ≡ get_or es i e
      → (row_of e.order.verb).slot ≡ None → rest_from (i + 1) es unit ≡ rest_from i es unit
  passed es i e unit h is b =
      sym
      (opened es i e None unit h is b ∙ neither (unit_of aliases faction e.target == unit) e.line (rest_from (i + 1) es unit))

-- as long as no line is noted, the greater of the noted line and a line n is n
pub none_noted : (lines : LastLineMap) (slot unit n : ℕ) → lines ≡ empty → max (line_in lines slot unit) n ≡ n
none_noted lines slot unit n h =
    ap (λ g. max (unwrap_or (get g unit) 0) n) (ap (λ m. group_of m slot) h ∙ ap (λ o. unwrap_or o empty) (get-empty nat_cmp slot))
    ∙ ap (λ o. max (unwrap_or o 0) n) (get-empty nat_cmp unit) ∙ bare n
  where
    bare : (n : ℕ) → max 0 n ≡ n
    bare n = omega arith
