use Rattle.std.proofs.Common.{◌≡◌, ◌∙◌, rules, true, ap, sym, subst, arith}
use Rattle.status_board.specs.declared.post.Post.{Post}
use Rattle.status_board.specs.Posts.{newest}
use Rattle.board_readers.specs.Sights.{AreSights, is_new}
use Rattle.board_readers.proofs.Seeing.{sights_later, sights_more}
use Rattle.board_readers.proofs.sights.Sights.look.Goals as goal

pub invariant_of-self : goal.invariant_of-self
invariant_of-self g c =
    let now = c.read-read.new.self in
    let post : c.post_of.result ≡ newest now = c.post_of.ensures ∙ c.read-read.ensures.post in
    let later = sights_later c.self.inside.eye now c.self.inside.seen.items c.read-read.ensures.later (omega (arith, c.read-read.ensures.rises, ap (λ (p : Post). p.count) c.read-read.ensures.post)) c.self.invariant in
    let other : is_new c.self.inside.seen.items c.read-read.result.count ≡ true = search rules in
    let new : is_new c.self.inside.seen.items c.post_of.result.count ≡ true = ap (is_new c.self.inside.seen.items) (ap (λ (p : Post). p.count) c.post_of.ensures) ∙ other in
    subst (AreSights now) (sym c.in_ok-push.ensures.items) (sights_more now c.self.inside.seen.items c.post_of.result post new later)

pub invariant_of-self-in_err-push : goal.invariant_of-self-in_err-push
invariant_of-self-in_err-push g c =
    let later = sights_later c.self.inside.eye c.read-read.new.self c.self.inside.seen.items c.read-read.ensures.later (omega (arith, c.read-read.ensures.rises, ap (λ (p : Post). p.count) c.read-read.ensures.post)) c.self.invariant in
    subst (AreSights c.read-read.new.self) (sym c.in_err-push.ensures.items) later

pub invariant_of-self-else-is_new : goal.invariant_of-self-else-is_new
invariant_of-self-else-is_new g c =
    sights_later c.self.inside.eye c.read-read.new.self c.self.inside.seen.items c.read-read.ensures.later (omega (arith, c.read-read.ensures.rises, ap (λ (p : Post). p.count) c.read-read.ensures.post)) c.self.invariant
