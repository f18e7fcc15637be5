use Rattle.std.proofs.Common.{rules, ◌≡◌, List, [], ◌∷◌, ◌++◌, length, ap, arith}
use Rattle.status_board.specs.declared.post.Post.{Post}
use Rattle.status_board.specs.Posts.{post_at}
use Rattle.world_journal.specs.declared.entry.Entry.{Entry}
use Rattle.world_journal.proofs.Posting.{all-counted, added-counted}
use Rattle.world_journal.proofs.watched.post_step.Goals as goal

pub returns-then-newest-count-clause-posted : goal.returns-then-newest-count-clause-posted
returns-then-newest-count-clause-posted g c = λ opened.
    let entries = ap (λ (es : List Entry). length es) c.journal.ensures.journal in
    let count = ap (λ (p : Post). p.count) c.newest.ensures in
    all-counted g.L.RunName.start c.args.run.now.held.journal (g.P.Poster.posts c.args.pen.now) c.requires (omega (arith, c.if-newest-count.true, entries, count))

pub returns-else-is_err-clause-posted : goal.returns-else-is_err-clause-posted
returns-else-is_err-clause-posted g c = λ opened.
    let entries = ap (λ (es : List Entry). length es) c.journal.ensures.journal in
    let added : g.P.Poster.posts c.post.new.self ≡ g.P.Poster.posts c.args.pen.now ++ post_at (length c.journal.result.now) c.phase-phase.result c.is_some-halted.result ∷ [] = search rules in
    added-counted c.args.run.now.held.journal _ _ _ added entries
