-- What a run posts on its board.
use Rattle.std.specs.Prelude.{◌≡◌, ℕ, ◌≤◌, List, length, take, is_some}
use Rattle.std.specs.List.{AllByRecursion}
use Rattle.status_board.specs.declared.post.Post.{Post}
use Rattle.status_board.specs.Posts.{newest}
use Rattle.world_core.specs.declared.event.Event.{Event}
use Rattle.world_core.specs.Worlds.{WorldValue}
use Rattle.world_core.specs.Steps.{Runs}

-- After as many of these events as the post counts, from this start, the run is in its phase, and has halted if it says
-- so.
pub record IsPostOf (start : WorldValue) (events : List Event) (p : Post) : Type 0 where
  pub within : p.count ≤ length events
  pub between : WorldValue
  pub runs : Runs start (take p.count events) between
  pub phase : p.phase ≡ between.fleet.control.phase
  pub halted : p.halted ≡ is_some between.fleet.control.halt

-- each of the posts is one of this run
abbrev pub ArePosts : WorldValue → List Event → List Post → Type 0
ArePosts start events posts = AllByRecursion (IsPostOf start events) posts

-- the newest post counts all events
abbrev pub IsPosted : List Event → List Post → Type 0
IsPosted events posts = (newest posts).count ≡ length events

-- where a run with so many events and this world stands
abbrev pub stand : ℕ → WorldValue → Post
stand count world = record
    { count = count; phase = world.fleet.control.phase; halted = is_some world.fleet.control.halt }
