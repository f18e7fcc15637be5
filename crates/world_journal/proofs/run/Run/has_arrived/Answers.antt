use Rattle.std.proofs.Common.{rules, ◌≡◌, slice_get}
use Rattle.world_journal.proofs.Marks.{mark-some, mark-none}
use Rattle.world_journal.proofs.run.Run.has_arrived.Goals as goal

pub returns-clause-some : goal.returns-clause-some
returns-clause-some g c =
    let is : c.mark_at.result ≡ slice_get c.self.inside.arrived.items c.args.place = search (rules, c.mark_at.ensures, c.deref.ensures) in
    mark-some c.self.inside.arrived.items g.L.RunName.lines c.args.place c.mark_at.result is c.self.invariant.1.long

pub returns-clause-none : goal.returns-clause-none
returns-clause-none g c =
    let is : c.mark_at.result ≡ slice_get c.self.inside.arrived.items c.args.place = search (rules, c.mark_at.ensures, c.deref.ensures) in
    mark-none c.self.inside.arrived.items g.L.RunName.lines c.args.place c.mark_at.result is c.self.invariant.1.long
