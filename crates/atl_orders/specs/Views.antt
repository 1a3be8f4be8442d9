-- For proofs alone: headers and mailings that the code is reading, as values of the definitions.
use Rattle.std.specs.Prelude.{ℕ, ◌+◌, ◌++◌}
use Rattle.std.specs.Option.{option_copied}
use Rattle.atl_orders.specs.declared.mailing.Header.{Header}
use Rattle.atl_orders.specs.Mailing.{entry_of, fault_of, Reading}
use Rattle.atl_words.specs.Header.{HeaderValue}
use Rattle.atl_lines.specs.Reading.{Effect}
use Rattle.atl_words.specs.WordViews.{lines_of_rest}

-- a header of the code, as its faction and the lines after it, with the number of the first of them
abbrev pub header_value : Header → HeaderValue
header_value h = record { faction = h.faction; next = h.next; rest = lines_of_rest (option_copied h.rest) }

-- a reading with what one line more gives, by the line's number and effect
abbrev pub with_line : Reading → ℕ × Effect → Reading
with_line r line = record { faction = r.faction; entries = r.entries ++ entry_of line; faults = r.faults ++ fault_of line }
