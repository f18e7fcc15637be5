use Rattle.std.proofs.Common.{zero, suc, ◌≡◌, List, [], ◌∷◌, ◌++◌, All, length, arith, length-append, ap, sym, subst, ◌∙◌}
use Rattle.std.proofs.lemmas.List.Elements.{All-append}
use Rattle.status_board.specs.declared.post.Post.{Post}
use Rattle.status_board.proofs.board.Board.named.Goals as goal

one : (e : List Post) → e ≡ [] → All (λ (x : List Post). x ≡ []) (e ∷ [])
one e is zero d less = is
one e is (suc k) d less = absurd (omega arith)

-- an eye that knows nothing more
pub loop-preserved : goal.loop-preserved
loop-preserved g c =
    let eye = c.in_ok-eye.field-0 in
    let items : c.push.new.self.items ≡ c.loop.eyes.items ++ eye ∷ [] = c.in_ok-push.ensures.items in
    let is : eye ≡ [] = c.in_ok-eye.ensures ∙ c.of-pen.ensures in
    let all : All (λ (x : List Post). x ≡ []) (c.loop.eyes.items ++ eye ∷ []) =
    All-append (λ (x : List Post). x ≡ []) c.loop.eyes.items (eye ∷ []) c.loop.invariant.0 (one eye is) in (
      subst (λ (l : List (List Post)). All (λ (x : List Post). x ≡ []) l) (sym items) all,
      omega (arith, c.loop.invariant.1, ap length items, length-append c.loop.eyes.items (eye ∷ [])),
    )
