use Rattle.std.proofs.Common.{◌≡◌, length, arith, ◌∙◌}
use Rattle.std.proofs.lemmas.Grind.{common_steps}
use Rattle.drive_workers.specs.Ends.{IsEndOf}
use Rattle.drive_workers.proofs.Lasts.{ends-more, fresh-is}
use Rattle.drive_workers.proofs.ends.meet_ends.Goals as goal

pub loop-place-preserved : goal.loop-place-preserved
loop-place-preserved g c =
    let len : c.loop-place.place ≡ length c.loop-place.ends.items = grind (arith, common_steps, c.loop-place.invariant.count) in
    let last : IsEndOf g.N.End.Link.named g.N.End.Link.received (length c.loop-place.ends.items) c.in_ok-end.end = record {
      name = c.in_ok-end.ensures.named ∙ len;
      fresh = fresh-is (g.N.End.Link.received c.in_ok-end.end) c.in_ok-end.ensures.unreceived;
    } in record {
      ends = ends-more g.N.End.Link.named g.N.End.Link.received c.loop-place.ends.items c.push.new.self.items c.in_ok-end.end c.in-Ok.ensures.items c.loop-place.invariant.ends last;
      count = grind (arith, common_steps, c.in-Ok.ensures.len, c.loop-place.invariant.count);
      faults = c.in_ok-end.ensures.cause ∙ c.loop-place.invariant.faults;
      broken = c.in_ok-end.ensures.broken ∙ c.loop-place.invariant.broken;
    }
