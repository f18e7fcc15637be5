use Rattle.std.proofs.Common.{◌≡◌, ◌≤◌, true, take}
use Rattle.std.specs.Char.{is_digit}
use Rattle.std.specs.List.{list_all}
use Rattle.std.specs.Str.Parse.{digits_value}
use Rattle.netkat_parser.proofs.number.digits.value.Given as goal

abbrev pub invariant-loop-byte : goal.invariant-loop-byte
invariant-loop-byte l = record {
  value : l.n ≡ digits_value l.base (take l.byte-index l.digits);
  digits : list_all (λ d. is_digit d l.base) (take l.byte-index l.digits) ≡ true;
  small : l.n ≤ l.high;
}
