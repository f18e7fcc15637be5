use Rattle.std.proofs.Common.{◌≤◌, List, ap, sym, subst, arith}
use mathlib.Core.List.{IsPrefix}
use Rattle.status_board.specs.declared.post.Post.{Post}
use Rattle.status_board.specs.Posts.{opening, newest}
use Rattle.status_board.proofs.Rising.{last_of-later}
use Rattle.status_board.proofs.eye.Eye.read.Goals as goal

-- what is known by now goes on from what was known
pub returns-clause-rises : goal.returns-clause-rises
returns-clause-rises g c =
    let known = c.self.inside.known in
    let pre : IsPrefix c.args.self.now known = subst (λ (posts : List Post). IsPrefix c.args.self.now posts) (sym c.self.view_is) c.look-fresh.ensures.later in
    let less : (newest c.args.self.now).count ≤ (newest known).count = last_of-later opening c.args.self.now known pre c.post-post.ensures.history in
    omega (arith, less, ap (λ (p : Post). p.count) c.post-post.ensures.post)
