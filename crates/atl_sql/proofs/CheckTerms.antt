-- Laws on the CHECK that a row's id is 1: which nodes of the parsed term make "id = 1".
-- `ops` are the nodes of a parsed term, which name their parts by index. `root`, `a` and `b` are indexes of nodes, and
-- `depth` is how many levels of nodes are read. The node `Column 1 0` is the row's number, here the column `id`.
use Rattle.std.proofs.Common.{◌≡◌, ◌≢◌, ℕ, zero, suc, List, [], ◌∷◌, length, get_or, slice_get, Some, pos, refl, sym, ap}
use Rattle.std.proofs.lemmas.Option.{get_or_from_slice_get}
use Rattle.sqlite_value.specs.declared.value.Value.{Value}
use Rattle.sqlite_value.specs.declared.value.Value.TheVariants.{Null, Int}
use Rattle.sqlite_value.specs.declared.keys.Collation.TheVariants as collation
use Rattle.sqlite_sql.specs.declared.ops.BinaryOp.{BinaryOp}
use Rattle.sqlite_sql.specs.declared.ops.BinaryOp.TheVariants.{Compare}
use Rattle.sqlite_sql.specs.declared.ops.CompareOp.TheVariants.{Eq}
use Rattle.sqlite_sql.specs.Term.{Term, lit, col, op2}
use Rattle.sqlite_schema.specs.Code.{op_term, term_to, term_in}
use Rattle.sqlite_schema.specs.declared.code.Op.{Op}
use Rattle.sqlite_schema.specs.declared.code.Op.TheVariants.{Literal, Column, Unary, Binary, Case}

abbrev equals : BinaryOp
equals = Compare Eq collation.Binary

abbrev one : Value
one = Int (pos 1)

abbrev id_is_one : Term
id_is_one = op2 equals (col 1 0) (lit one)

-- ---- from a term to its node

node_is_equation : (below : ℕ → Term) (op : Op) → op_term below op ≡ id_is_one
    → (a : ℕ) × (b : ℕ) × (op ≡ Binary equals a b) × (below a ≡ col 1 0) × (below b ≡ lit one)
node_is_equation below (Literal v) says = absurd (cc)
node_is_equation below (Column slot at) says = absurd (cc)
node_is_equation below (Unary op a) says = absurd (cc)
node_is_equation below (Binary op a b) says = (a, b, cc, cc, cc)
node_is_equation below (Case t a b) says = absurd (cc)

node_is_id_column : (below : ℕ → Term) (op : Op) → op_term below op ≡ col 1 0 → op ≡ Column 1 0
node_is_id_column below (Literal v) says = absurd (cc)
node_is_id_column below (Column slot at) says = cc
node_is_id_column below (Unary op a) says = absurd (cc)
node_is_id_column below (Binary op a b) says = absurd (cc)
node_is_id_column below (Case t a b) says = absurd (cc)

node_is_literal_one : (below : ℕ → Term) (op : Op) → op_term below op ≡ lit one → op ≡ Literal one
node_is_literal_one below (Literal v) says = cc
node_is_literal_one below (Column slot at) says = absurd (cc)
node_is_literal_one below (Unary op a) says = absurd (cc)
node_is_literal_one below (Binary op a b) says = absurd (cc)
node_is_literal_one below (Case t a b) says = absurd (cc)

-- the default for a node that a list of nodes doesn't have, which is no part of the term "id = 1"
abbrev no_node : Op
no_node = Literal Null

node_is_in_list : (ops : List Op) (at : ℕ) (op : Op) → op ≢ no_node → get_or ops at no_node ≡ op
    → slice_get ops at ≡ Some op
node_is_in_list [] at op other is = absurd (other (sym is))
node_is_in_list (x ∷ ops) zero op other is = ap Some is
node_is_in_list (x ∷ ops) (suc at) op other is = node_is_in_list ops at op other is

number_at : (ops : List Op) (depth at : ℕ) → term_to ops depth at ≡ col 1 0 → slice_get ops at ≡ Some (Column 1 0)
number_at ops zero at says = absurd (cc)
number_at ops (suc depth) at says =
    node_is_in_list ops at (Column 1 0) (λ same. absurd (cc))
    (node_is_id_column (term_to ops depth) (get_or ops at no_node) says)

one_at : (ops : List Op) (depth at : ℕ) → term_to ops depth at ≡ lit one → slice_get ops at ≡ Some (Literal one)
one_at ops zero at says = absurd (cc)
one_at ops (suc depth) at says =
    node_is_in_list ops at (Literal one) (λ same. absurd (cc))
    (node_is_literal_one (term_to ops depth) (get_or ops at no_node) says)

-- ---- the term and the three nodes

-- the nodes `root`, `a` and `b` of the list make the term "id = 1": a comparison, the column `id`, and the number 1
abbrev MakeIdIsOne : List Op → ℕ → ℕ → ℕ → Type 0
MakeIdIsOne ops root a b =
    (slice_get ops root ≡ Some (Binary equals a b)) × (slice_get ops a ≡ Some (Column 1 0)) ×
    (slice_get ops b ≡ Some (Literal one))

says_to : (ops : List Op) (depth root : ℕ) → term_to ops depth root ≡ id_is_one
    → (a : ℕ) × (b : ℕ) × MakeIdIsOne ops root a b
says_to ops zero root says = absurd (cc)
says_to ops (suc depth) root says =
    let (a, b, is, number, constant) = node_is_equation (term_to ops depth) (get_or ops root no_node) says in
    (a, b, (node_is_in_list ops root (Binary equals a b) (λ same. absurd (cc)) is, number_at ops depth a number, one_at ops depth b constant))

-- For `three_nodes_make_term`: if the root compares the column `id` with the number 1, the term of the root is "id =
-- 1". The nodes are looked up with a default (`no_node`).
looked_up_nodes_make_term : (ops : List Op) (root a b : ℕ) → get_or ops root no_node ≡ Binary equals a b
    → get_or ops a no_node ≡ Column 1 0 → get_or ops b no_node ≡ Literal one → term_in ops root ≡ id_is_one
looked_up_nodes_make_term [] root a b first second third = absurd (cc)
looked_up_nodes_make_term (x ∷ []) zero zero b first second third = absurd (cc)
looked_up_nodes_make_term (x ∷ []) zero (suc a) b first second third = absurd (cc)
looked_up_nodes_make_term (x ∷ []) (suc root) a b first second third = absurd (cc)
looked_up_nodes_make_term (x ∷ y ∷ ops) root a b first second third = rw (first, second, third) refl

three_nodes_make_term : (ops : List Op) (root a b : ℕ) → MakeIdIsOne ops root a b → term_in ops root ≡ id_is_one
three_nodes_make_term ops root a b (first, second, third) =
    looked_up_nodes_make_term ops root a b (get_or_from_slice_get ops root _ no_node first) (get_or_from_slice_get ops a _ no_node second) (get_or_from_slice_get ops b _ no_node third)

-- ---- what is tested

-- if the root compares nodes `a` and `b`, the term is "id = 1" exactly if `a` is the column and `b` the number 1
pub equation_is_id_is_one : (ops : List Op) (root a b : ℕ) → slice_get ops root ≡ Some (Binary equals a b)
    → (term_in ops root ≡ id_is_one → (slice_get ops a ≡ Some (Column 1 0)) × (slice_get ops b ≡ Some (Literal one)))
    × ((slice_get ops a ≡ Some (Column 1 0)) × (slice_get ops b ≡ Some (Literal one)) → term_in ops root ≡ id_is_one)
equation_is_id_is_one ops root a b first = (
  λ says.
      let (x, y, (root_is, number, constant)) = says_to ops (length ops) root says in
      let left : a ≡ x = cc in
      let right : b ≡ y = cc in
      (rw left number, rw right constant),
  λ both. three_nodes_make_term ops root a b (first, both.0, both.1),
)

pub no_equation_is_not_id_is_one : (ops : List Op) (root : ℕ)
    → ((a b : ℕ) → slice_get ops root ≢ Some (Binary equals a b)) → term_in ops root ≢ id_is_one
no_equation_is_not_id_is_one ops root other says =
    let (a, b, (is, number, constant)) = says_to ops (length ops) root says in
    other a b is
