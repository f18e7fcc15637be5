-- Laws of what a run posts.
use Rattle.std.specs.Prelude.{List, ◌++◌, [], ◌∷◌, length}
use mathlib.Core.List.{IsPrefix}
use Rattle.status_board.specs.declared.post.Post.{Post}
use Rattle.watch_laws.specs.Watching.{ArePosts, stand}
use Rattle.world_core.specs.declared.event.Event.{Event}
use Rattle.world_core.specs.Worlds.{WorldValue}
use Rattle.world_core.specs.Steps.{Runs}

-- Posts of a run are posts of it when it has gone on.
abbrev pub PostsStay : Type 0
PostsStay = (start : WorldValue) (before now : List Event) (posts : List Post) → IsPrefix before now →
    ArePosts start before posts → ArePosts start now posts

-- Where a run stands may be posted.
abbrev pub StandIsPost : Type 0
StandIsPost = (start : WorldValue) (events : List Event) (world : WorldValue) (posts : List Post) →
    Runs start events world → ArePosts start events posts
    → ArePosts start events (posts ++ stand (length events) world ∷ [])
