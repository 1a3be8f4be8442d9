use Rattle.std.proofs.Common.{◌≡◌, ◌+◌, take, true, min}
use Rattle.std.specs.List.{list_all}
use Rattle.std.specs.Char.{is_ascii_digit}
use Rattle.std.specs.Str.Parse.{digits_value}
use Rattle.atl_words.proofs.words.number.Given as goal

-- the bytes so far are digits, and `value` is the number that they write, or `most` + 1 if it is greater than `most`
abbrev pub invariant-loop-byte : goal.invariant-loop-byte
invariant-loop-byte l = record {
  digits : list_all is_ascii_digit (take l.byte-index l.bytes) ≡ true;
  value : l.value ≡ min (digits_value 10 (take l.byte-index l.bytes)) (l.most + 1);
}
