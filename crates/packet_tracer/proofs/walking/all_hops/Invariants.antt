use Rattle.std.proofs.Common.{◌≡◌}
use Rattle.packet_tracer.specs.Advances.{ends_after, flights_after}
use Rattle.packet_tracer.proofs.walking.all_hops.Given as goal

abbrev pub invariant-loop-hop : goal.invariant-loop-hop
invariant-loop-hop l = record {
  finished : l.hopped.finished.items ≡ ends_after l.rows.ports l.topology l.fn.flight l._hop;
  flights : l.hopped.flights.items ≡ flights_after l.rows.ports l.topology l.fn.flight l._hop;
}
