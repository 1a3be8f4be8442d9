use Rattle.std.proofs.Common.{take, map}
use Rattle.httparse.specs.Spans.{header_bytes}
use Rattle.atl_parsing.specs.Fields.{values_of}
use Rattle.atl_parsing.specs.Finding.{HasValues}
use Rattle.atl_parsing.proofs.fields.find_value.Given as goal

-- `found` has the values of the name among the fields that the loop has passed (`HasValues`)
abbrev pub invariant-loop-field : goal.invariant-loop-field
invariant-loop-field l =
    HasValues l.bytes l.found (values_of l.name (map (header_bytes l.bytes) (take l.field-index l.fields)))
