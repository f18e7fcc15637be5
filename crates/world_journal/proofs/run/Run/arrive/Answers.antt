use Rattle.std.proofs.Common.{◌≡◌, ◌<◌, ◌-◌, length, Some, false, slice_get, arith, ap, refl}
use Rattle.std.proofs.lemmas.Option.{slice_get_within, slice_get_read}
use Rattle.world_journal.proofs.Counting.{counts-plain}
use Rattle.world_journal.proofs.Marks.{arrived-more, left-less}
use Rattle.world_journal.proofs.Staying.{arrival-line}
use Rattle.world_journal.proofs.Returning.{sessions-step}
use Rattle.world_journal.proofs.run.Run.arrive.Goals as goal

pub overflow_sub-self : goal.overflow_sub-self
overflow_sub-self g c =
    let first : slice_get c.self.inside.arrived.items c.args.place ≡ Some false = rw (← c.self.view_is) at c.requires.first in
    (left-less c.self.inside.arrived.items c.args.place c.self.inside.left c.self.invariant.2 first).0

pub invariant_of-self-2 : goal.invariant_of-self-2
invariant_of-self-2 g c =
    let first : slice_get c.self.inside.arrived.items c.args.place ≡ Some false = rw (← c.self.view_is) at c.requires.first in
    let within : c.args.place < length c.self.inside.arrived.items = slice_get_within c.self.inside.arrived.items c.args.place false first in
    let line : slice_get c.self.inside.lines.items c.args.place ≡ Some c.index.result.now =
    slice_get_read c.self.inside.lines.items (length c.self.inside.lines.items) c.args.place c.index.result.now refl (omega (arith, within, c.self.invariant.1.long, ap length c.self.invariant.0)) c.index.ensures in
    let less = left-less c.self.inside.arrived.items c.args.place c.self.inside.left c.self.invariant.2 first in (
      c.self.invariant.0,
      arrived-more g.L.RunName.lines c.self.inside.arrived.items c.self.inside.held.world.arrivals c.step.new.self.world.arrivals c.args.place c.index.result.now c.self.invariant.1 first (rw c.self.invariant.0 at line)
          (arrival-line c.self.inside.held.world c.index.result.now.packet c.index.result.now.tag c.step.new.self.world (rw c.in_ok-event.ensures at c.in_ok-step.ensures.world)),
      less.1 (c.self.inside.left - 1) (omega (arith, less.0)),
      c.self.invariant.3,
      c.self.invariant.4,
      c.self.invariant.5,
      c.self.invariant.6,
      sessions-step _ _ _ c.self.inside.held.journal c.step.new.self.journal _ _ _ c.args.seat.now.worker _ c.self.invariant.7 (rw c.in_ok-event.ensures at c.in_ok-step.ensures.journal) refl,
      counts-plain _ c.self.inside.held.journal c.step.new.self.journal _ _ c.args.seat.now.worker _ c.self.invariant.8 (rw c.in_ok-event.ensures at c.in_ok-step.ensures.journal) refl refl,
    )

pub returns-clause-made : goal.returns-clause-made
returns-clause-made g c =
    let first : slice_get c.self.inside.arrived.items c.args.place ≡ Some false = rw (← c.self.view_is) at c.requires.first in
    let within : c.args.place < length c.self.inside.arrived.items = slice_get_within c.self.inside.arrived.items c.args.place false first in
    let line : slice_get c.self.inside.lines.items c.args.place ≡ Some c.index.result.now =
    slice_get_read c.self.inside.lines.items (length c.self.inside.lines.items) c.args.place c.index.result.now refl (omega (arith, within, c.self.invariant.1.long, ap length c.self.invariant.0)) c.index.ensures in
    rw (← c.self.view_is) (record {
      line = c.index.result.now;
      here = rw c.self.invariant.0 at line;
      first = first;
      step = rw c.in_ok-event.ensures at c.in_ok-step.ensures.world;
      journal = rw c.in_ok-event.ensures at c.in_ok-step.ensures.journal;
      ends = c.in_ok-step.ensures.ends;
      arrived = refl;
      rest = record { arrived = refl; closed = refl; back = refl; to_waits = refl; back_waits = refl; to_ends = refl; back_ends = refl };
    })
