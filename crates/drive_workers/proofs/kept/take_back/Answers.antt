use Rattle.std.proofs.Common.{inl, refl, arith, ◌∙◌}
use Rattle.std.proofs.lemmas.Grind.{common_steps}
use Rattle.drive_workers.proofs.Gathering.{counted-more}
use Rattle.drive_workers.proofs.kept.take_back.Goals as goal

pub loop-end-init : goal.loop-end-init
loop-end-init g c = record {
  later = grind (arith, common_steps);
  counted = λ e i f. inl i;
  faults = refl;
}

pub loop-end-preserved : goal.loop-end-preserved
loop-end-preserved g c = record {
  later = grind (arith, common_steps, c.loop-end.invariant.later, c.take_back.ensures.broken.later);
  counted = counted-more g.N.End.Link.faults _ _ _ c.in-Some.end _ _ _ c.loop-end.invariant.counted c.loop-end.invariant.later c.in-Some.ensures.items c.take_back.ensures.broken;
  faults = c.take_back.ensures.faults ∙ c.loop-end.invariant.faults;
}
