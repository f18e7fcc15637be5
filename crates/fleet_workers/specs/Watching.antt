-- What was seen of a run.
use Rattle.std.specs.Prelude.{◌≡◌, ◌≤◌, true, List, [], ◌∷◌, ◌++◌, length}
use Rattle.std.specs.List.{AllByRecursion}
pub use Rattle.status_board.specs.declared.post.Post.{Post}
use Rattle.status_board.specs.Posts.{last_post, opening}
use Rattle.board_readers.specs.Sights.{AreSeen, do_rise}
use Rattle.watch_laws.specs.Watching.{ArePosts, IsPosted, IsPostOf}
use Rattle.world_core.specs.declared.event.Event.{Event}
use Rattle.world_core.specs.Worlds.{WorldValue}

-- These posts were seen of the board of a run: it has posts of these events from this start, of which the newest counts
-- all.
pub record IsWatched (start : WorldValue) (events : List Event) (seen : List Post) : Type 0 where
  pub posts : List Post
  pub each : ArePosts start events posts
  pub all : IsPosted events posts
  pub sights : AreSeen posts seen

-- Each of these posts was seen of a run with these events from this start: it says the phase after as many of them as
-- it counts. The counts rise, though the last may repeat the one before, and the last counts all events.
pub record AreSightsOf (start : WorldValue) (events : List Event) (posts : List Post) : Type 0 where
  pub seen : List Post
  pub last : Post
  pub posts_are : posts ≡ seen ++ last ∷ []
  pub each : AllByRecursion (IsPostOf start events) posts
  pub rising : do_rise seen ≡ true
  pub repeats : (last_post opening seen).count ≤ last.count
  pub whole : last.count ≡ length events
