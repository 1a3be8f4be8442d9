use Rattle.std.proofs.Common.{◌≡◌, ◌+◌, ◌-◌, length, rules}
use Rattle.std.specs.List.{slice_range}
use Rattle.atl_words.proofs.WordLaws.{ends_at_further, bytes_in_span}
use Rattle.atl_lines.proofs.orders.read_name.Goals as goal

-- the operands read after NAME are those of the definition, since the span covers the bytes of the name
pub returns : goal.returns
returns c =
    let word = c.in_ok-word.word in
    let end = ends_at_further c.args.cursor.text.now c.args.cursor.end c.args.cursor.rest.now c.in_ok-kind.rest.now c.requires c.in_ok-kind.ensures.rest in
    let bytes : slice_range c.args.cursor.text.now (c.args.cursor.end - word.to_end) (c.args.cursor.end - word.to_end + length word.bytes.now) ≡ word.bytes.now =
    bytes_in_span c.args.cursor.text.now c.args.cursor.end c.in_ok-kind.rest.now word.bytes.now word.to_end end c.in_ok-word.ensures.part in
    rw bytes (search rules)
