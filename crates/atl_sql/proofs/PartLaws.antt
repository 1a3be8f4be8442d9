-- Laws on the tables of a campaign's parts: different parts have different tables.
-- `parts`, `ps` and `qs` are lists of parts. Parts differ by the number of the tree that holds the rows of their table.
use Rattle.std.proofs.Common.{◌≡◌, ◌⊎◌, ℕ, Bool, true, false, not, nat_eq, cond, List, [], ◌∷◌, Option, Some, refl, sym, ap, ◌∙◌, inl, inr, true≢false, arith}
use Rattle.std.specs.List.{find, list_any, list_all}
use Rattle.std.proofs.lemmas.Bool.Decides.{nat_tests}
use Rattle.std.proofs.lemmas.Option.{same_Some}
use Rattle.std.proofs.lemmas.Bool.{or_cases}
use Rattle.sqlite_rules.specs.Lists.{Has}
use Rattle.sqlite_rules.proofs.ListLemmas.{some_from, test_has}
use Rattle.atl_descriptions.specs.Tables.{Part, Own, table_of, all_parts, all_tables}
use Rattle.atl_sql.proofs.ListLaws.{has_map}

-- the number of the tree of a part's table
abbrev pub tree_of : Part → ℕ
tree_of part = (table_of part).tree

-- ---- a part by the tree of its table

found_part : (part : Part) → find (λ p. nat_eq (tree_of p) (tree_of part)) all_parts ≡ Some part
found_part Own = refl
found_part part = refl

pub same_part : (p q : Part) → tree_of p ≡ tree_of q → p ≡ q
same_part p q same =
    same_Some p q (sym (found_part p) ∙ ap (λ tree. find (λ x. nat_eq (tree_of x) tree) all_parts) same ∙ found_part q)

first_or_later : {X : Type 0} (b : Bool) (y x : X) (later : Option X) → cond b (Some y) later ≡ Some x
    → (x ≡ y) ⊎ (later ≡ Some x)
first_or_later true y x later is = inl (same_Some x y (sym is))
first_or_later false y x later is = inr is

found_has : {X : Type 0} (p : X → Bool) (xs : List X) (x : X) → find p xs ≡ Some x → Has xs x
found_has p [] x is = absurd cc
found_has p (y ∷ xs) x is =
    elim (first_or_later (p y) y x (find p xs) is) [ inl same ↦ inl same | inr later ↦ inr (found_has p xs x later) ]

every_part : (part : Part) → Has all_parts part
every_part part = found_has (λ p. nat_eq (tree_of p) (tree_of part)) all_parts part (found_part part)

pub listed : (part : Part) → Has all_tables (table_of part)
listed part = has_map table_of all_parts part (every_part part)

-- ---- among some parts

-- whether a part is in a list
abbrev pub is_among : List Part → Part → Bool
is_among parts part = list_any (λ p. nat_eq (tree_of part) (tree_of p)) parts

-- whether no part is in both lists
abbrev pub are_apart : List Part → List Part → Bool
are_apart ps qs = list_all (λ p. not (is_among qs p)) ps

member_is_among : (parts : List Part) (part : Part) → Has parts part → is_among parts part ≡ true
member_is_among parts part there =
    some_from (λ p. nat_eq (tree_of part) (tree_of p)) parts part there (itself (tree_of part))
  where
    itself : (n : ℕ) → nat_eq n n ≡ true
    itself n = grind (arith, nat_tests)

pub not_among : (parts : List Part) (part : Part) → is_among parts part ≡ false → ¬ Has parts part
not_among parts part free there = true≢false (sym (member_is_among parts part there) ∙ free)

among_has : (parts : List Part) (part : Part) → is_among parts part ≡ true → Has parts part
among_has [] part is = absurd cc
among_has (p ∷ parts) part is = elim (or_cases (nat_eq (tree_of part) (tree_of p)) (is_among parts part) is) [
  | inl same ↦ inl (same_part part p (equal (tree_of part) (tree_of p) same))
  | inr later ↦ inr (among_has parts part later)
]
  where
    equal : (a b : ℕ) → nat_eq a b ≡ true → a ≡ b
    equal a b same = grind (arith, nat_tests, same)

pub all_among : (parts : List Part) → list_all (is_among parts) all_parts ≡ true → (part : Part) → Has parts part
all_among parts all part = among_has parts part (test_has (is_among parts) all_parts part all (every_part part))

pub not_both : (ps qs : List Part) → are_apart ps qs ≡ true → (part : Part) → Has ps part → ¬ Has qs part
not_both ps qs apart part there also =
    true≢false (sym (test_has (λ p. not (is_among qs p)) ps part apart there) ∙ ap not (member_is_among qs part also))
