-- Laws for loops over an array of tables: the first fault of its elements, and the values read so far. `conditions`
-- gives the conditions on an element, and `record_of` its value, both by the element's path and table. d is the element
-- at index i of the array at the path `key`, and `ds` are the elements after it.
use Rattle.std.proofs.Common.{◌≡◌, ℕ, ◌+◌, ◌<◌, List, [], ◌∷◌, ◌++◌, length, drop, get_or, Option, None, sym, ap, subst, ◌∙◌, append_assoc}
use Rattle.toml.specs.Data.{Data, Items, item, Members}
use Rattle.toml.specs.View.{view, items_view}
use Rattle.toml.specs.declared.value.Value.{Value}
use Rattle.toml.proofs.Views.{items_view-drop}
use Rattle.atl_tables.specs.declared.fault.WorldFault.{WorldFault}
use Rattle.atl_tables.specs.Faults.{Conditions, first_fault}
use Rattle.atl_tables.specs.Results.{IsFaultOrMemory}
use Rattle.atl_tables.specs.Keys.{element_path}
use Rattle.atl_tables.specs.Arrays.{element_table, element_conditions, elements_conditions, elements_of}
use Rattle.atl_tables.proofs.FaultLaws.{fault_is_of_second_list, error_of_first_list_is_of_joined}

-- the elements of an array from index i on are v, the element at i, and those from i + 1 on
pub elements_from_index : (vs : List Value) (i : ℕ) (v : Value) → i < length vs → v ≡ get_or vs i v
    → items_view (drop i vs) ≡ item (view v) (items_view (drop (i + 1) vs))
elements_from_index vs i v h e =
    items_view-drop vs i v h ∙ ap (λ (x : Value). item (view x) (items_view (drop (i + 1) vs))) (sym e)

-- `total` is the first fault of all elements from d on
module _ (conditions : List ℕ → Members → Conditions) (key : List ℕ) (i : ℕ) (d : Data) (ds : Items) (total : Option WorldFault) where
  -- where d has no fault, the first fault of the elements after it is that of d and these
  pub later_elements_have_same_fault : first_fault (elements_conditions conditions key i (item d ds)) ≡ total
      → first_fault (element_conditions conditions (element_path key i) d) ≡ None
      → first_fault (elements_conditions conditions key (i + 1) ds) ≡ total
  later_elements_have_same_fault so_far one =
      sym
      (fault_is_of_second_list (element_conditions conditions (element_path key i) d) (elements_conditions conditions key (i + 1) ds) one)
      ∙ so_far

  -- an error that a call may return by the conditions on d (`IsFaultOrMemory`) it may return by those on all
  pub error_of_element_is_error_of_all : (e : WorldFault)
      → first_fault (elements_conditions conditions key i (item d ds)) ≡ total
      → IsFaultOrMemory e (first_fault (element_conditions conditions (element_path key i) d)) → IsFaultOrMemory e total
  error_of_element_is_error_of_all e so_far one =
      subst (IsFaultOrMemory e) so_far
      (error_of_first_list_is_of_joined e (element_conditions conditions (element_path key i) d) (elements_conditions conditions key (i + 1) ds) one)

-- in a loop over an array: after one more value x, of d, the values so far (`front`) and those of the elements left
-- (ds) are still all values (`total`)
pub values_with_one_more_are_all : {A : Type 0} (record_of : List ℕ → Members → A) (key : List ℕ) (i : ℕ) (d : Data) (ds : Items) (front : List A) (x : A) (total : List A)
    → front ++ elements_of record_of key i (item d ds) ≡ total
    → record_of (element_path key i) (element_table (element_path key i) d) ≡ x
    → (front ++ x ∷ []) ++ elements_of record_of key (i + 1) ds ≡ total
values_with_one_more_are_all record_of key i d ds front x total so_far one =
    append_assoc front (x ∷ []) (elements_of record_of key (i + 1) ds)
    ∙ ap (λ y. front ++ y ∷ elements_of record_of key (i + 1) ds) (sym one) ∙ so_far
