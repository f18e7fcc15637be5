use Rattle.std.proofs.Common.{[], ◌∷◌, ◌++◌, arith, length-append, sym, ◌∙◌, ap, subst, List, length, ◌≡◌}
use Rattle.status_board.specs.declared.post.Post.{Post}
use Rattle.status_board.specs.Posts.{MayFollow, newest, opening}
use Rattle.status_board.proofs.Adding.{adds_moves, found_told}
use Rattle.status_board.proofs.Rising.{last_of-snoc}
use Rattle.status_board.proofs.note.Note.add.Goals as goal

pub compare_exchange-found-requires : goal.compare_exchange-found-requires
compare_exchange-found-requires g c =
    let h = c.args.head.now.head_is in
    let offer = c.plain-offer.ensures in
    let pen = c.no_pen-pen.ensures in
    let same = c.again-token.ensures in
    let book = ap (λ s. s.book) same ∙ c.self.invariant.2 in
    let log : c.again-token.result.log ≡ c.self.inside.token.log = ap (λ s. s.log) same in
    let may0 : MayFollow c.self.inside.token.log c.args.post = rw c.self.view_is c.requires in
    let may : MayFollow c.again-token.result.log c.args.post = subst (λ (l : List Post). MayFollow l c.args.post) (sym log) may0 in
    let long : length c.again-token.result.log ≡ c.self.inside.number = ap length log ∙ sym c.self.invariant.0 in (
      ap (λ w. w.tracked) h,
      book ∙ sym (ap (λ w. w.book) h),
      pen.0 ∙ (book ∙ sym (ap (λ w. w.book) h)),
      offer.0,
      rw (ap (λ w. w.key) h, pen.1, offer.1, offer.3) (adds_moves c.again-token.result.log c.args.post c.self.inside.number long may),
    )

pub invariant_of-result : goal.invariant_of-result
invariant_of-result g c =
    let e = c.compare_exchange-found.ensures in
    let p = c.plain-offer.ensures in
    let s = c.again-token.ensures in
    let log : c.again-token.result.log ≡ c.self.inside.token.log = ap (λ t. t.log) s in
    let told = found_told _ _ c.compare_exchange-found.result c.self.inside.number c.if-found-number.false e.7 in
    let now : c.compare_exchange-found.new.seen.log ≡ c.self.inside.token.log ++ c.args.post ∷ [] = told.0 ∙ (λ k. log k ++ p.1 k ∷ []) in (
      omega (arith, c.self.invariant.0, ap length now, length-append c.self.inside.token.log (c.args.post ∷ [])),
      sym (ap newest now ∙ last_of-snoc opening c.self.inside.token.log c.args.post),
      e.0 ∙ (ap (λ t. t.book) s ∙ c.self.invariant.2),
      told.1,
    )
