use Rattle.std.proofs.Common.{◌≡◌}
use Rattle.update_plan.specs.Reading.{from_place}
use Rattle.update_plan.proofs.places.place_from.Given as goal

abbrev pub invariant-loop-port : goal.invariant-loop-port
invariant-loop-port l = from_place l.share l.adds l.rows.band l.switch.sw l.rows.ports (record { port = l.port; row = l.row }) ≡ from_place l.share l.adds l.rows.band l.switch.sw l.rows.ports l.fn.at
