use denote.Exit.{no}
use denote.Param.Send.{arg_send, param_send}
use Rattle.std.proofs.Common.{◌≡◌, length, arith, sym, subst}
use Rattle.std.proofs.lemmas.Grind.{common_steps}
use Rattle.drive_workers.specs.Ends.{IsEndOf}
use Rattle.drive_workers.specs.contracts.crew.Crew.start_all as rows
use Rattle.drive_workers.proofs.Crossing.{worker-send}
use Rattle.drive_workers.proofs.Lasts.{ends-front, ends-last}
use Rattle.drive_workers.proofs.crew.Crew.start_all.Goals as goal

pub worker-requires-clause-end : goal.worker-requires-clause-end
worker-requires-clause-end g c κs within =
    let last = ends-last g.E.Link.named g.E.Link.received c.loop-end.ends.items c.pop.new.self.items c.in-Some.end c.in-Some.ensures.items c.loop-end.invariant.ends in
    let len : c.len.result ≡ length c.pop.new.self.items = grind (arith, common_steps, c.len.ensures) in
    subst (λ n. IsEndOf g.E.Link.named g.E.Link.received n c.in-Some.end) (sym len) last

pub loop-end-preserved : goal.loop-end-preserved
loop-end-preserved g c = record {
  ends = ends-front g.E.Link.named g.E.Link.received c.loop-end.ends.items c.pop.new.self.items c.in-Some.end c.in-Some.ensures.items c.loop-end.invariant.ends;
  within = grind (arith, common_steps, c.in-Some.ensures.len, c.loop-end.invariant.within);
  later = grind (arith, common_steps, c.in_ok-start_one.ensures, c.loop-end.invariant.later);
}

pub start_one-requires-send-J : goal.start_one-requires-send-J
start_one-requires-send-J g c κs within =
    param_send 1 _ (arg_send _ no _ (worker-send _ (rows.L-row g.row.R g.row.L g.row.E g.row.Q g.row.G g.row.T g.row.T-Handle) _ _ _ g.L.DriveName g.E.Link g.Q.Receipt c.type_bounds.send-R c.type_bounds.send-L c.type_bounds.send-E c.type_bounds.send-Q c.type_bounds.send-G c.type_bounds.sync-G))
