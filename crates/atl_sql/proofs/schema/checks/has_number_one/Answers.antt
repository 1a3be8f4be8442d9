use Rattle.std.proofs.Common.{◌≡◌, ◌∙◌, slice_get, Some}
use Rattle.sqlite.specs.Collation.TheVariants.{Binary}
use Rattle.sqlite_sql.specs.declared.ops.BinaryOp.TheVariants.{Compare}
use Rattle.sqlite_sql.specs.declared.ops.CompareOp.TheVariants.{Eq}
use Rattle.sqlite_schema.specs.declared.code.Op.TheVariants as node
use Rattle.atl_sql.proofs.CheckTerms.{equation_is_id_is_one, no_equation_is_not_id_is_one}
use Rattle.atl_sql.proofs.schema.checks.has_number_one.Goals as goal

pub returns-then-is_number : goal.returns-then-is_number
returns-then-is_number c =
    let nodes = c.args.nodes.now in
    let root : slice_get nodes c.args.root ≡ Some (node.Binary (Compare Eq Binary) c.in-Some.left c.in-Some.right) = cc (c.at.ensures, c.in-Some.ensures.equal) in
    let both = equation_is_id_is_one nodes c.args.root c.in-Some.left c.in-Some.right root in
    let number : slice_get nodes c.in-Some.left ≡ Some (node.Column 1 0) = let is = c.is_number.ensures.0 c.if-is_number.true in cc (c.at-in-Some.ensures, is) in (
      λ yes. both.1 (number, let is = c.is_one.ensures.0 yes in cc (c.at-then-is_number.ensures, is)),
      λ says. c.is_one.ensures.1 (let one = (both.0 says).1 in cc (c.at-then-is_number.ensures, one)),
    )

pub returns-else-is_number : goal.returns-else-is_number
returns-else-is_number c =
    let nodes = c.args.nodes.now in
    let root : slice_get nodes c.args.root ≡ Some (node.Binary (Compare Eq Binary) c.in-Some.left c.in-Some.right) = cc (c.at.ensures, c.in-Some.ensures.equal) in
    let both = equation_is_id_is_one nodes c.args.root c.in-Some.left c.in-Some.right root in (
      λ yes. absurd (cc),
      λ says. c.is_number.ensures.1 (let number = (both.0 says).0 in cc (c.at-in-Some.ensures, number)),
    )

pub returns-in-None : goal.returns-in-None
returns-in-None c = (
  λ no. absurd (cc),
  λ says. absurd (no_equation_is_not_id_is_one c.args.nodes.now c.args.root (λ a b is. c.in-None.ensures.other a b (c.at.ensures ∙ is)) says),
)
