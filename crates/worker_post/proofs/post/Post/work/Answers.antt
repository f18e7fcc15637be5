use Rattle.std.proofs.Common.{◌∙◌, refl, [], ◌∷◌}
use Rattle.worker_post.specs.Sessions.{last_end}
use Rattle.worker_post.proofs.post.Post.work.Goals as goal

pub loop-init : goal.loop-init
loop-init g c = record {
  seated = c.requires.seat.0;
  place = refl;
  named = c.requires.seat.1;
  fresh = c.requires.fresh;
  follows = ([], (refl, refl, refl, refl));
}

pub returns-in-None-next-clause-worked : goal.returns-in-None-next-clause-worked
returns-in-None-next-clause-worked g c =
    let before = c.loop.invariant.follows in record {
      newest = record { given = g.D.Desk.given c.loop.seat; told = g.D.Desk.told c.loop.seat; notices = g.D.Desk.notices c.loop.seat; first = c.loop.end; last = last_end c.session-last.result.end (g.D.Desk.kept c.session-last.new.seat) };
      earlier = before.0;
      last = refl;
      served = record { ended = c.session-last.ensures.worked; noted = c.session-last.ensures.noted };
      follows = before.1;
    }

pub loop-preserved-in-Some-next : goal.loop-preserved-in-Some-next
loop-preserved-in-Some-next g c =
    let before = c.loop.invariant.follows in
    let new = rw c.in-Some-next.is at c.session-last.ensures.anew in record {
      seated = c.session-last.ensures.seat.0;
      place = c.session-last.ensures.seat.1 ∙ c.loop.invariant.place;
      named = new.0 ∙ c.loop.invariant.place;
      fresh = new.1;
      follows = (record { given = g.D.Desk.given c.loop.seat; told = g.D.Desk.told c.loop.seat; notices = g.D.Desk.notices c.loop.seat; first = c.loop.end; last = last_end c.session-last.result.end (g.D.Desk.kept c.session-last.new.seat) } ∷ before.0, (record { ended = c.session-last.ensures.worked; noted = c.session-last.ensures.noted }, before.1));
    }

pub loop-preserved : goal.loop-preserved
loop-preserved g c =
    let before = c.loop.invariant.follows in
    let new = rw c.in-Some-next.is at c.session-last.ensures.anew in record {
      seated = c.session-last.ensures.seat.0;
      place = c.session-last.ensures.seat.1 ∙ c.loop.invariant.place;
      named = new.0 ∙ c.loop.invariant.place;
      fresh = new.1;
      follows = (record { given = g.D.Desk.given c.loop.seat; told = g.D.Desk.told c.loop.seat; notices = g.D.Desk.notices c.loop.seat; first = c.loop.end; last = last_end c.session-last.result.end (g.D.Desk.kept c.session-last.new.seat) } ∷ before.0, (record { ended = c.session-last.ensures.worked; noted = c.session-last.ensures.noted }, before.1));
    }
