use Rattle.std.proofs.Common.{refl}
use Rattle.worker_post.specs.declared.post.CycleEnd.TheVariants.{Shut, New, Stop, Memory, Kept}
use Rattle.worker_post.proofs.Noting.{notes-from}
use Rattle.worker_post.proofs.Turning.{at-start, following-start}
use Rattle.worker_post.proofs.post.Post.serve.Goals as goal

pub loop-init : goal.loop-init
loop-init g c = record {
  seated = c.requires.seat.0;
  place = refl;
  named = refl;
  faults = refl;
  notices = refl;
  following = following-start (g.D.End.Link.received c.args.end) c.new.result c.requires.fresh c.new.ensures;
  at = at-start (g.D.Desk.given c.args.seat.now) (g.D.Desk.told c.args.seat.now) (g.D.End.Link.sent c.args.end) (g.D.End.Link.received c.args.end) c.new.result c.new.ensures;
}

pub returns-in-Shut-clause-worked : goal.returns-in-Shut-clause-worked
returns-in-Shut-clause-worked g c =
    c.in-Shut.ensures.worked (g.D.Desk.given c.args.seat.now) (g.D.Desk.told c.args.seat.now) (g.D.End.Link.sent c.args.end) (g.D.End.Link.received c.args.end) c.loop.invariant.at

pub returns-in-New-clause-worked : goal.returns-in-New-clause-worked
returns-in-New-clause-worked g c =
    c.in-New.ensures.worked (g.D.Desk.given c.args.seat.now) (g.D.Desk.told c.args.seat.now) (g.D.End.Link.sent c.args.end) (g.D.End.Link.received c.args.end) c.loop.invariant.at

pub returns-in-Stop-clause-worked : goal.returns-in-Stop-clause-worked
returns-in-Stop-clause-worked g c =
    c.in-Stop.ensures.worked (g.D.Desk.given c.args.seat.now) (g.D.Desk.told c.args.seat.now) (g.D.End.Link.sent c.args.end) (g.D.End.Link.received c.args.end) c.loop.invariant.at

pub returns-in-Memory-clause-worked : goal.returns-in-Memory-clause-worked
returns-in-Memory-clause-worked g c =
    c.in-Memory.ensures.worked (g.D.Desk.given c.args.seat.now) (g.D.Desk.told c.args.seat.now) (g.D.End.Link.sent c.args.end) (g.D.End.Link.received c.args.end) c.loop.invariant.at

pub returns-in-Kept-clause-worked : goal.returns-in-Kept-clause-worked
returns-in-Kept-clause-worked g c =
    c.in-Kept.ensures.worked (g.D.Desk.given c.args.seat.now) (g.D.Desk.told c.args.seat.now) (g.D.End.Link.sent c.args.end) (g.D.End.Link.received c.args.end) c.loop.invariant.at

pub returns-in-Shut-clause-noted : goal.returns-in-Shut-clause-noted
returns-in-Shut-clause-noted g c =
    notes-from (Unit {0}) g.D.End.Link.faults (g.D.Desk.kept c.cycle.new.seat) (g.D.End.Link.named c.args.end) (g.D.End.Link.named c.loop.end) (g.D.End.Link.faults c.args.end) (g.D.End.Link.faults c.loop.end) (g.D.Desk.notices c.args.seat.now) (g.D.Desk.notices c.loop.seat) (g.D.Desk.notices c.cycle.new.seat) (Shut c.in-Shut.e) c.loop.invariant.named c.loop.invariant.faults c.loop.invariant.notices c.in-Shut.ensures.noted

pub returns-in-New-clause-noted : goal.returns-in-New-clause-noted
returns-in-New-clause-noted g c =
    notes-from (Unit {0}) g.D.End.Link.faults (g.D.Desk.kept c.cycle.new.seat) (g.D.End.Link.named c.args.end) (g.D.End.Link.named c.loop.end) (g.D.End.Link.faults c.args.end) (g.D.End.Link.faults c.loop.end) (g.D.Desk.notices c.args.seat.now) (g.D.Desk.notices c.loop.seat) (g.D.Desk.notices c.cycle.new.seat) (New c.in-New.old c.in-New.new) c.loop.invariant.named c.loop.invariant.faults c.loop.invariant.notices c.in-New.ensures.noted

pub returns-in-Stop-clause-noted : goal.returns-in-Stop-clause-noted
returns-in-Stop-clause-noted g c =
    notes-from (Unit {0}) g.D.End.Link.faults (g.D.Desk.kept c.cycle.new.seat) (g.D.End.Link.named c.args.end) (g.D.End.Link.named c.loop.end) (g.D.End.Link.faults c.args.end) (g.D.End.Link.faults c.loop.end) (g.D.Desk.notices c.args.seat.now) (g.D.Desk.notices c.loop.seat) (g.D.Desk.notices c.cycle.new.seat) (Stop c.in-Stop.e) c.loop.invariant.named c.loop.invariant.faults c.loop.invariant.notices c.in-Stop.ensures.noted

pub returns-in-Memory-clause-noted : goal.returns-in-Memory-clause-noted
returns-in-Memory-clause-noted g c =
    notes-from (Unit {0}) g.D.End.Link.faults (g.D.Desk.kept c.cycle.new.seat) (g.D.End.Link.named c.args.end) (g.D.End.Link.named c.loop.end) (g.D.End.Link.faults c.args.end) (g.D.End.Link.faults c.loop.end) (g.D.Desk.notices c.args.seat.now) (g.D.Desk.notices c.loop.seat) (g.D.Desk.notices c.cycle.new.seat) (Memory c.in-Memory.e) c.loop.invariant.named c.loop.invariant.faults c.loop.invariant.notices c.in-Memory.ensures.noted

pub returns-in-Kept-clause-noted : goal.returns-in-Kept-clause-noted
returns-in-Kept-clause-noted g c =
    notes-from (Unit {0}) g.D.End.Link.faults (g.D.Desk.kept c.cycle.new.seat) (g.D.End.Link.named c.args.end) (g.D.End.Link.named c.loop.end) (g.D.End.Link.faults c.args.end) (g.D.End.Link.faults c.loop.end) (g.D.Desk.notices c.args.seat.now) (g.D.Desk.notices c.loop.seat) (g.D.Desk.notices c.cycle.new.seat) (Kept) c.loop.invariant.named c.loop.invariant.faults c.loop.invariant.notices c.in-Kept.ensures.noted
