-- The posts of a board.
use Rattle.std.specs.Prelude.{◌≡◌, ℕ, ◌<◌, ltb, ◌&&◌, Bool, true, false, List, [], ◌∷◌, length}
use mathlib.Core.List.{IsPrefix}
use Rattle.status_board.specs.declared.post.Post.{Post}
use Rattle.update_coordinator.specs.declared.phase.Phase.{Phase}
use Rattle.update_coordinator.specs.declared.phase.Phase.TheVariants as phase

-- where a run stands after a number of events
abbrev pub post_at : ℕ → Phase → Bool → Post
post_at count phase halted = record { count = count; phase = phase; halted = halted }

-- what stands on a board before any post
abbrev pub opening : Post
opening = record { count = 0; phase = phase.Opening; halted = false }

-- the first count is above n, and each other one above the one before
abbrev pub are_rising : ℕ → List Post → Bool
are_rising n [] = true
are_rising n (p ∷ ps) = ltb n p.count && are_rising p.count ps

-- the last of these posts, or p if there are none
abbrev pub last_post : Post → List Post → Post
last_post p [] = p
last_post p (q ∷ qs) = last_post q qs

-- the newest of these posts, or the opening if there are none
abbrev pub newest : List Post → Post
newest posts = last_post opening posts

-- the counts of these posts rise from 0
abbrev pub IsHistory : List Post → Type 0
IsHistory posts = are_rising 0 posts ≡ true

-- the post has a greater count than the newest
abbrev pub MayFollow : List Post → Post → Type 0
MayFollow posts p = (newest posts).count < p.count

-- ys begins with xs, and goes on
abbrev pub IsLonger : List Post → List Post → Type 0
IsLonger xs ys = IsPrefix xs ys × (length xs < length ys)
