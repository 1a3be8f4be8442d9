use Rattle.std.proofs.Common.{◌≡◌, ◌<◌, ◌^◌, take, true}
use Rattle.std.specs.List.{list_all}
use Rattle.std.specs.Char.{is_ascii_digit}
use Rattle.std.specs.Str.Parse.{digits_value}
use Rattle.atl_parsing.proofs.route.number_of.Given as goal

-- the bytes that the loop has passed are digits, and `value` is the number that they write
abbrev pub invariant-loop-byte : goal.invariant-loop-byte
invariant-loop-byte l = record {
  digits : list_all is_ascii_digit (take l.byte-index l.bytes) ≡ true;
  value : l.value ≡ digits_value 10 (take l.byte-index l.bytes);
  few : l.value < 10 ^ l.byte-index;
}
