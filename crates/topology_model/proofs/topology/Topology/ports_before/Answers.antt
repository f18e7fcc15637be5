use Rattle.std.proofs.Common.{◌<◌, length, ap, sym, subst, arith}
use Rattle.topology_model.specs.Layouts.{Layout}
use Rattle.topology_model.proofs.FirstPlaces.{length-firsts, ports-behind, first-at}
use Rattle.topology_model.proofs.topology.Topology.ports_before.Goals as goal

pub index-requires : goal.index-requires
index-requires c =
    let t = c.self.inside.draft in
    let within : c.args.place < length t.switches = subst (λ (x : Layout). c.args.place < length x.switches) (sym c.self.view_is) c.requires in
    omega (arith, within, length-firsts 0 t.switches, ap length c.self.invariant.firsts)

pub returns-clause-count : goal.returns-clause-count
returns-clause-count c =
    rw (← c.self.view_is) (first-at c.self.inside.draft.switches c.self.inside.firsts.items c.args.place c.index.result.now (subst (λ (x : Layout). c.args.place < length x.switches) (sym c.self.view_is) c.requires) c.self.invariant.firsts c.index.ensures)

pub returns-clause-parts : goal.returns-clause-parts
returns-clause-parts c =
    let t = c.self.inside.draft in
    let within : c.args.place < length t.switches = subst (λ (x : Layout). c.args.place < length x.switches) (sym c.self.view_is) c.requires in
    rw (← c.self.view_is) (ports-behind t c.args.place c.index.result.now within (first-at t.switches c.self.inside.firsts.items c.args.place c.index.result.now within c.self.invariant.firsts c.index.ensures))
