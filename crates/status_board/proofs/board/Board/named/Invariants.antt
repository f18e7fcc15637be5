use Rattle.std.proofs.Common.{◌≡◌, [], List, All, length}
use Rattle.status_board.specs.declared.post.Post.{Post}
use Rattle.status_board.proofs.board.Board.named.Given as goal

-- there is an eye for each round so far, and none knows a post
abbrev pub invariant-loop : goal.invariant-loop
invariant-loop g l = All (λ (e : List Post). e ≡ []) l.eyes.items × (length l.eyes.items ≡ l.counter)
