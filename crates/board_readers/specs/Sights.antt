-- What an eye has seen of a board.
use Rattle.std.specs.Prelude.{◌≡◌, ◌≤◌, ◌⊎◌, ◌==◌, ℕ, Bool, true, not, List, [], ◌∷◌, ◌++◌}
use Rattle.std.specs.List.{AllByRecursion}
use Rattle.nk_values.specs.Members.{IsIn}
use Rattle.status_board.specs.declared.post.Post.{Post}
use Rattle.status_board.specs.Posts.{are_rising, last_post, newest, opening}

-- the posts that the eye knows, and those that it saw
pub record SightsValue : Type 0 where
  pub known : List Post
  pub seen : List Post

-- the opening, or one of these posts
abbrev pub IsKnown : List Post → Post → Type 0
IsKnown posts p = (p ≡ opening) ⊎ IsIn posts p

-- each count is above the one before
abbrev pub do_rise : List Post → Bool
do_rise [] = true
do_rise (p ∷ ps) = are_rising p.count ps

-- nothing has been seen, or the last post has another count
abbrev pub is_new : List Post → ℕ → Bool
is_new [] n = true
is_new (p ∷ ps) n = not ((last_post p ps).count == n)

-- An eye that knows these posts may have seen those: each is known, their counts rise, and the newest that is known has
-- no smaller one.
pub record AreSights (known seen : List Post) : Type 0 where
  pub each : AllByRecursion (IsKnown known) seen
  pub rising : do_rise seen ≡ true
  pub below : (last_post opening seen).count ≤ (newest known).count

-- What was seen of a board with these posts: some with rising counts, and last the newest, which may repeat the one
-- before.
pub record AreSeen (posts seen : List Post) : Type 0 where
  pub before : List Post
  pub sights : AreSights posts before
  pub whole : seen ≡ before ++ newest posts ∷ []
