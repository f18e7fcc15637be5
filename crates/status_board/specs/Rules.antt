-- The rule of the history of a board, and what the step that adds a post tells.
use Rattle.std.specs.Prelude.{ℕ, ◌≡◌, ◌==◌, true, List, [], ◌∷◌, ◌++◌, length, MatchBool}
use Rattle.logbook.specs.Pages.{Cell, Step, View, Book, Named}
use Rattle.status_board.specs.declared.post.Post.{Post}
use Rattle.status_board.specs.Posts.{IsHistory}

-- The first word of the book is the length of the history, whose counts rise. The second word stays 0.
pub record IsKept (cells : List Cell) (log : List Post) : Type 0 where
  pub words : cells ≡ (length log, true) ∷ (0, true) ∷ []
  pub rising : IsHistory log

-- the first word of a book
abbrev pub head_of : Book → Named
head_of b = record { tracked = true; key = 0; book = b }

-- If the word had the expected number, the post was added to all that had been seen; if not, the history was seen
abbrev pub AddsPost : Step Post → View Post ℕ → ℕ → View Post ℕ → Type 0
AddsPost s v found w = MatchBool (found == s.old) ((w.0 ≡ v.0 ++ s.ask ∷ []) × IsHistory w.0)
    ((length w.0 ≡ found) × IsHistory w.0)
