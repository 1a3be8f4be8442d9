-- Laws of a terrain's table `output`: its entries, keys with values, by byte order of the keys, and their amounts.
-- `front` has what the entries so far give, and `total` is the first fault of all entries, or what all of them give.
use Rattle.std.proofs.Common.{◌≡◌, ℕ, true, List, [], ◌∷◌, ◌++◌, map, Option, Result, Ok, String, Global, refl, sym, ap, ◌∙◌, append_assoc, string_bytes}
use Rattle.std.specs.Map.{keys_of}
use Rattle.std.specs.List.Sorted.{IsStrictlySortedBy}
use Rattle.std.specs.String.{string_cmp}
use Rattle.toml.specs.Data.{Data, is_before}
use Rattle.toml.specs.View.{view, members_view}
use Rattle.toml.specs.declared.value.Value.{Value}
use Rattle.toml.proofs.Views.{is_before-sorted}
use Rattle.atl_tables.specs.Faults.{fault_of, value_or, first_fault}
use Rattle.atl_tables.specs.OutputTable.{put_key, in_byte_order, amount_at, amounts_keys, amounts_from}
use Rattle.atl_tables.specs.declared.fault.WorldFault.{WorldFault}
use Rattle.atl_tables.specs.declared.output_table.Output.{Output}

-- the entries of a table of the crate toml, as keys and values of the definitions
abbrev pub entries_view : List (String Global × Value) → List (List ℕ × Data)
entries_view es = map (λ e. (string_bytes e.0, view e.1)) es

put_first : (k : String Global) (d : Data) (es : List (String Global × Value))
    → is_before (string_bytes k) (members_view es) ≡ true
    → put_key (string_bytes k) d (entries_view es) ≡ (string_bytes k, d) ∷ entries_view es
put_first k d [] h = refl
put_first k d (e ∷ es) h = rw h refl

-- `in_byte_order`, which sorts a table's entries by the bytes of their keys, leaves them as they are, if they are in
-- this order and no key comes twice
pub entries_in_order : (es : List (String Global × Value)) → IsStrictlySortedBy string_cmp (keys_of es)
    → in_byte_order (members_view es) ≡ entries_view es
unfolding in_byte_order IsStrictlySortedBy
entries_in_order [] h = refl
entries_in_order (e ∷ es) h = rw (entries_in_order es h.1) (put_first e.0 (view e.1) es (is_before-sorted e.0 es h.0))

-- e is the next entry of the output at the path `at`, n is its amount, and `es` are the entries after it
module _ (at : List ℕ) (e : List ℕ × Data) (es : List (List ℕ × Data)) (n : ℕ) (one : amount_at at e ≡ Ok n) where
  -- since the amount of e has no fault, the first fault of e and the entries after it is that of these
  pub later_amounts_have_same_fault : (total : Option WorldFault) → first_fault (amounts_keys at (e ∷ es)) ≡ total
      → first_fault (amounts_keys at es) ≡ total
  later_amounts_have_same_fault total so_far =
      ap (λ (r : Result ℕ WorldFault). first_fault (fault_of r ∷ amounts_keys at es)) (sym one) ∙ so_far

  -- with what e gives, the outputs so far and those of the entries left are still all outputs
  pub amounts_with_one_more_are_all : (front : List Output) (total : List Output)
      → front ++ amounts_from at (e ∷ es) ≡ total
      → (front ++ record { item = e.0; amount = n } ∷ []) ++ amounts_from at es ≡ total
  amounts_with_one_more_are_all front total so_far =
      append_assoc front (record { item = e.0; amount = n } ∷ []) (amounts_from at es)
      ∙ ap (λ (r : Result ℕ WorldFault). front ++ record { item = e.0; amount = value_or 0 r } ∷ amounts_from at es) (sym one) ∙ so_far
