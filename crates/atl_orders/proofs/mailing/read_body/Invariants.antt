use Rattle.std.proofs.Common.{IfSome, ◌≡◌, ◌+◌, ◌<◌, ◌^◌, ◌++◌}
use Rattle.std.specs.List.{flat_map}
use Rattle.std.specs.Option.{option_copied}
use Rattle.atl_lines.specs.declared.reading.ReaderState.TheVariants.{Nowhere}
use Rattle.atl_lines.specs.Aliasing.{no_alias}
use Rattle.atl_lines.specs.Views.{alias_set}
use Rattle.atl_words.specs.WordViews.{lines_of_rest, rest_size}
use Rattle.atl_orders.specs.Views.{header_value}
use Rattle.atl_words.specs.Positions.{EndsWith}
use Rattle.atl_orders.specs.Mailing.{effects, entry_of, fault_of, reading_of}
use Rattle.atl_orders.proofs.mailing.read_body.Given as goal

-- The orders and faulty lines so far, followed by those that the lines left give, are those that all lines give. The
-- text ends with the lines left, the mailing has the text and the header's faction, and line numbers fit 32 bits.
abbrev pub invariant-loop-rest : goal.invariant-loop-rest
invariant-loop-rest l =
    let left = effects l.world l.number l.state (alias_set l.aliases) (lines_of_rest (option_copied l.rest)) in
    let all = effects l.world l.header.next Nowhere no_alias (header_value l.header).rest in
    record {
      ends : IfSome (option_copied l.rest) (EndsWith l.text);
      kept : l.mailing.text ≡ l.text;
      faction : l.mailing.faction ≡ l.header.faction;
      entries : (reading_of l.mailing).entries ++ flat_map entry_of left ≡ flat_map entry_of all;
      faults : l.mailing.faults ++ flat_map fault_of left ≡ flat_map fault_of all;
      small : l.number + rest_size (option_copied l.rest) < 2 ^ 32;
    }

abbrev pub decreases-loop-rest : goal.decreases-loop-rest
decreases-loop-rest l = rest_size (option_copied l.rest)
