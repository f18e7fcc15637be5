use Rattle.std.proofs.Common.{◌≡◌, ◌∙◌, rules, true, List, subst}
use mathlib.Core.List.{IsPrefix}
use Rattle.status_board.specs.declared.post.Post.{Post}
use Rattle.status_board.specs.Posts.{newest}
use Rattle.board_readers.proofs.Seeing.{seen_whole}
use Rattle.board_readers.proofs.sights.Sights.finish.Goals as goal

pub returns : goal.returns
returns g c =
    let all = c.args.all.now in
    let last : c.post_of.result ≡ newest c.read-last.new.self = c.post_of.ensures ∙ c.read-last.ensures.post in
    let begins : c.begins.result ≡ true = search rules in
    let known : c.known.result.now ≡ c.read-last.new.self = search rules in
    let within : IsPrefix c.read-last.new.self all = subst (λ (k : List Post). IsPrefix k all) known (c.begins.ensures.begins begins) in
    seen_whole c.self.inside.eye c.learn.new.self c.read-last.new.self all c.self.inside.seen.items c.push.new.self.items c.post_of.result c.learn.ensures.old c.learn.ensures.told c.read-last.ensures.later c.read-last.ensures.history within c.self.invariant last c.in_ok-push.ensures.items
