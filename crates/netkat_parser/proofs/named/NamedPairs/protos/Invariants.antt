use Rattle.std.proofs.Common.{◌≡◌, ◌≤◌, map, take}
use Rattle.netkat_parser.specs.Grammar.{protos}
use Rattle.netkat_parser.specs.Pairs.{pair_of}
use Rattle.netkat_parser.proofs.named.NamedPairs.protos.Given as goal

abbrev pub invariant-loop-lit : goal.invariant-loop-lit
invariant-loop-lit l = record {
  count : l.count ≡ protos (map pair_of (take l.lit-index l.lit-items));
  within : l.count ≤ l.lit-index;
}
