use Rattle.std.proofs.Common.{◌≤◌, ap, subst, arith, length, List}
use Rattle.std.proofs.lemmas.Bool.{leb-true, leb-false}
use mathlib.Core.List.{IsPrefix}
use Rattle.status_board.specs.declared.post.Post.{Post}
use Rattle.status_board.proofs.Beginnings.{prefix_shorter}
use Rattle.status_board.proofs.note.Note.begins.Goals as goal

pub returns-clause-begins : goal.returns-clause-begins
returns-clause-begins g c is =
    let all = c.learn.new.self.log in
    let this : IsPrefix c.self.inside.token.log all = subst (λ (l : List Post). IsPrefix l all) (ap (λ s. s.log) c.again-both.ensures) c.learn.ensures.2 in
    let less = leb-true c.self.inside.number c.other.inside.number is in
    let less' : length c.self.inside.token.log ≤ length c.other.inside.token.log = omega (arith, less, c.self.invariant.0, c.other.invariant.0) in
    rw (← c.self.view_is, ← c.other.view_is) (prefix_shorter c.self.inside.token.log c.other.inside.token.log all this c.learn.ensures.3 less')

pub returns-clause-longer : goal.returns-clause-longer
returns-clause-longer g c is =
    let all = c.learn.new.self.log in
    let this : IsPrefix c.self.inside.token.log all = subst (λ (l : List Post). IsPrefix l all) (ap (λ s. s.log) c.again-both.ensures) c.learn.ensures.2 in
    let less = leb-false c.self.inside.number c.other.inside.number is in
    let less' : length c.other.inside.token.log ≤ length c.self.inside.token.log = omega (arith, less, c.self.invariant.0, c.other.invariant.0) in
    rw (← c.self.view_is, ← c.other.view_is) (prefix_shorter c.other.inside.token.log c.self.inside.token.log all c.learn.ensures.3 this less', omega (arith, less, c.self.invariant.0, c.other.invariant.0))
