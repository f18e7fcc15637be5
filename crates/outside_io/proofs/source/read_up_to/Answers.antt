use Rattle.std.proofs.Common.{◌≤◌, rules, length, take, arith}
use Rattle.std.proofs.lemmas.List.{length-take}
use Rattle.outside_io.proofs.Taken.{takes-two}
use Rattle.outside_io.proofs.source.read_up_to.Goals as goal

pub returns-in-Err-extend_from_slice-clause-at_most :
    goal.returns-in-Err-extend_from_slice-clause-at_most
returns-in-Err-extend_from_slice-clause-at_most g c = takes-two _ _ _ _ _ _ c.loop-buf.invariant.taken c.in-Ok.ensures.bytes.0
    (let cut = length-take c.in-Ok.count c.read.new.buf in grind (arith, cut, c.in-Ok.ensures.bound, c.min-room.ensures, c.loop-buf.invariant.within, c.read.auto, rules))
