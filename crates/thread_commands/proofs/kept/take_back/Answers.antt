use Rattle.std.proofs.Common.{◌≡◌, inl, length, refl, arith, ◌∙◌}
use Rattle.std.proofs.lemmas.Grind.{common_steps}
use Rattle.thread_commands.proofs.Gathering.{counted-more, none-left, told-end, told-start, told-more}
use Rattle.thread_commands.proofs.Losing.{counted-start, counted-by, counted-last}
use Rattle.thread_commands.proofs.kept.take_back.Goals as goal

pub loop-end-init : goal.loop-end-init
loop-end-init g c = record {
  later = grind (arith, common_steps);
  counted = λ e i f. inl i;
  many = counted-start g.N.End.Link.faults c.args.ends.items (g.N.Net.broken c.args.net.now);
  told = told-start g.N.End.Link.received c.args.ends.items (g.N.Net.gathered c.args.net.now);
  faults = refl;
}

pub loop-end-preserved : goal.loop-end-preserved
loop-end-preserved g c = record {
  later = grind (arith, common_steps, c.loop-end.invariant.later, c.take_back.ensures.broken.later);
  counted = counted-more g.N.End.Link.faults _ _ _ c.in-Some.end _ _ _ c.loop-end.invariant.counted c.loop-end.invariant.later c.in-Some.ensures.items c.take_back.ensures.broken;
  many = counted-by g.N.End.Link.faults _ _ _ c.in-Some.end _ _ _ c.loop-end.invariant.many c.in-Some.ensures.items c.take_back.ensures.broken;
  told = told-more g.N.End.Link.received _ _ _ c.in-Some.end _ _ _ c.loop-end.invariant.told c.in-Some.ensures.items c.take_back.ensures.gathered;
  faults = c.take_back.ensures.faults ∙ c.loop-end.invariant.faults;
}

pub returns-clause-gathered : goal.returns-clause-gathered
returns-clause-gathered g c =
    let all : length c.loop-end.ends.items ≡ 0 = omega (arith, c.loop-end.ends.ok.0, c.in_default.ensures.cases.0) in
    told-end g.N.End.Link.received _ c.loop-end.ends.items _ (g.N.Net.gathered c.loop-end.net) (none-left c.loop-end.ends.items all) c.loop-end.invariant.told

pub returns-clause-counted : goal.returns-clause-counted
returns-clause-counted g c =
    let all : length c.loop-end.ends.items ≡ 0 = omega (arith, c.loop-end.ends.ok.0, c.in_default.ensures.cases.0) in
    counted-last g.N.End.Link.faults c.args.ends.items c.loop-end.ends.items _ _ (none-left c.loop-end.ends.items all) c.loop-end.invariant.many
