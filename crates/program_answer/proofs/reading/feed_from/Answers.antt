use Rattle.std.proofs.Common.{◌++◌, take, refl, sym, ◌∙◌, arith, length-append}
use Rattle.std.proofs.KnownBytes.{Consumes-trans}
use Rattle.std.proofs.lemmas.List.{length-take-le}
use Rattle.program_answer.proofs.Pieces.{asked, consumes-kept, consumes-nothing}
use Rattle.program_answer.proofs.reading.feed_from.Goals as goal

pub slice_bounds-piece-end : goal.slice_bounds-piece-end
slice_bounds-piece-end g c =
    let room = asked c.loop-fed.fed c.min-room.result c.loop-fed-test.true c.min-room.ensures in
    sym (length-take-le c.min-room.result c.loop-fed.buf (omega (arith, room.1, c.min-room.array_long)))

pub returns-in-Ok-eq0-clause-feeds : goal.returns-in-Ok-eq0-clause-feeds
returns-in-Ok-eq0-clause-feeds g c =
    let t = c.loop-fed.invariant.taken in
    let room = asked c.loop-fed.fed c.min-room.result c.loop-fed-test.true c.min-room.ensures in
    let long = length-take-le c.min-room.result c.loop-fed.buf (omega (arith, room.1, c.min-room.array_long)) in
    let read = rw c.in-Ok-eq0.field-0-test at c.in-Ok-eq0.ensures.bytes in
    record {
      bytes = t.0;
      taken = consumes-nothing _ _ _ t.0 t.2 read.0;
      within = omega (arith, t.1, c.loop-fed.invariant.within);
      ended = λ z. read.1 refl (omega (arith, room.0, long, c.read.auto.buf));
      stands = t.3;
      counts = t.4;
      few = omega (arith, c.loop-fed.invariant.few, c.loop-fed.invariant.within);
    }

pub returns-in-Ok-eq0-clause-at_most : goal.returns-in-Ok-eq0-clause-at_most
returns-in-Ok-eq0-clause-at_most g c =
    let t = c.loop-fed.invariant.taken in
    let read = rw c.in-Ok-eq0.field-0-test at c.in-Ok-eq0.ensures.bytes in
    (t.0, consumes-nothing _ _ _ t.0 t.2 read.0, omega (arith, t.1, c.loop-fed.invariant.within))

pub returns-in-Err-clause-at_most : goal.returns-in-Err-clause-at_most
returns-in-Err-clause-at_most g c =
    let t = c.loop-fed.invariant.taken in
    (t.0, consumes-kept _ _ _ t.0 t.2 c.in-Err.ensures.bytes, omega (arith, t.1, c.loop-fed.invariant.within))

pub returns-in-Err-feed-clause-at_most : goal.returns-in-Err-feed-clause-at_most
returns-in-Err-feed-clause-at_most g c =
    let t = c.loop-fed.invariant.taken in
    let room = asked c.loop-fed.fed c.min-room.result c.loop-fed-test.true c.min-room.ensures in
    let long = length-take-le c.min-room.result c.loop-fed.buf (omega (arith, room.1, c.min-room.array_long)) in
    let few = length-take-le c.in-Ok.count c.read.new.buf c.in-Ok.ensures.bound.0 in
    let piece = take c.in-Ok.count c.read.new.buf in
    (t.0 ++ piece, Consumes-trans _ _ _ t.0 piece t.2 c.in-Ok.ensures.bytes.0, omega (arith, room.2, long, c.read.auto.buf, c.in-Ok.ensures.bound.0, few, t.1, length-append t.0 piece))

pub add-requires : goal.add-requires
add-requires g c =
    let room = asked c.loop-fed.fed c.min-room.result c.loop-fed-test.true c.min-room.ensures in
    let long = length-take-le c.min-room.result c.loop-fed.buf (omega (arith, room.1, c.min-room.array_long)) in
    let few = length-take-le c.in-Ok.count c.read.new.buf c.in-Ok.ensures.bound.0 in
    omega (arith, few, room.2, long, c.read.auto.buf, c.in-Ok.ensures.bound.0, c.loop-fed.invariant.few, c.loop-fed.invariant.within)

pub loop-fed-preserved : goal.loop-fed-preserved
loop-fed-preserved g c =
    let t = c.loop-fed.invariant.taken in
    let room = asked c.loop-fed.fed c.min-room.result c.loop-fed-test.true c.min-room.ensures in
    let long = length-take-le c.min-room.result c.loop-fed.buf (omega (arith, room.1, c.min-room.array_long)) in
    let few = length-take-le c.in-Ok.count c.read.new.buf c.in-Ok.ensures.bound.0 in
    let piece = take c.in-Ok.count c.read.new.buf in
    record {
      within = omega (arith, room.2, long, c.read.auto.buf, c.in-Ok.ensures.bound.0);
      taken = (t.0 ++ piece, omega (arith, few, t.1, length-append t.0 piece), Consumes-trans _ _ _ t.0 piece t.2 c.in-Ok.ensures.bytes.0, c.in_default.ensures.ok t.0 t.3, c.add.ensures.counts t.0 t.4);
      few = omega (arith, c.add.ensures.most, few, c.loop-fed.invariant.few);
      same = c.in-Ok.ensures.cause.same ∙ c.loop-fed.invariant.same;
    }

pub returns-clause-feeds : goal.returns-clause-feeds
returns-clause-feeds g c =
    let t = c.loop-fed.invariant.taken in
    record {
      bytes = t.0;
      taken = t.2;
      within = omega (arith, t.1, c.loop-fed.invariant.within);
      ended = λ z. absurd (omega (arith, z, t.1, c.loop-fed-test.false));
      stands = t.3;
      counts = t.4;
      few = omega (arith, c.loop-fed.invariant.few, c.loop-fed.invariant.within);
    }

pub returns-clause-at_most : goal.returns-clause-at_most
returns-clause-at_most g c =
    let t = c.loop-fed.invariant.taken in
    (t.0, t.2, omega (arith, t.1, c.loop-fed.invariant.within))
