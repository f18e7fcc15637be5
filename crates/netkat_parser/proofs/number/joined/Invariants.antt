use Rattle.std.proofs.Common.{◌≡◌, ◌<◌, ◌-◌, ◌*◌, ◌^◌}
use Rattle.netkat_parser.specs.Numbers.{joined, byte_form}
use Rattle.netkat_parser.proofs.number.joined.Given as goal

abbrev pub invariant-loop-byte : goal.invariant-loop-byte
invariant-loop-byte l = record {
  rest : joined (byte_form l.form) l.sign (l.more - l._byte) l.value l.rest ≡ joined (byte_form l.form) l.sign l.more 0 l.text;
  small : l.value < 2 ^ (8 * l._byte);
}
