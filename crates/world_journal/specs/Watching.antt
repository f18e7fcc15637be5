-- A run whose steps are posted on a board.
use Rattle.std.specs.Prelude.{◌≡◌, ◌⊎◌, true, false, List, [], ◌∷◌, ◌++◌, length}
use Rattle.status_board.specs.declared.post.Post.{Post}
use Rattle.watch_laws.specs.Watching.{stand}
use Rattle.world_journal.specs.Runs.{RunValue}

-- what the run is, and its posts
pub record WatchedValue (E : Type 0) : Type 0 where
  pub run : RunValue E
  pub posts : List Post

-- the run is the same, or was closed
abbrev pub StaysOrCloses : {E : Type 0} → RunValue E → RunValue E → Type 0
StaysOrCloses old new = (new ≡ old) ⊎ (new ≡ record old { closed = true })

-- there are the same posts, or one more of where this run stands
abbrev pub MayPost : {E : Type 0} → RunValue E → List Post → List Post → Type 0
MayPost run old new = (new ≡ old) ⊎ (new ≡ old ++ stand (length run.held.journal) run.held.world ∷ [])

-- A call did this to the run, and where the run then stands was posted. If the post was refused, the run was closed. If
-- it was open and made no step, nothing was posted and it was not closed.
pub record DidAndPosted {E : Type 0} (Does : RunValue E → RunValue E → Type 0) (old new : WatchedValue E) : Type 0 where
  pub between : RunValue E
  pub did : Does old.run between
  pub stays : StaysOrCloses between new.run
  pub posts : MayPost between old.posts new.posts
  pub still : old.run.closed ≡ false → length between.held.journal ≡ length old.run.held.journal →
      (new.run ≡ between) × (new.posts ≡ old.posts)
