-- The lines of posts that were seen.
use Rattle.std.specs.Prelude.{ℕ, List, ◌++◌, codes}
use Rattle.std.specs.Fmt.{decimal}
use Rattle.std.specs.List.{flat_map}
use Rattle.status_board.specs.declared.post.Post.{Post}
use Rattle.update_coordinator.specs.Calls.{stamps}
use Rattle.update_coordinator.specs.Controls.{Control}
use Rattle.value_text.specs.Values.{line}
use Rattle.report_text.specs.Causes.{phase_text}

-- how many events a post counts, and the phase after them, of policies with these stamps
abbrev pub post_text : List ℕ → Post → List ℕ
post_text known p = codes "seen " ++ (decimal p.count ++ (codes " " ++ phase_text known p.phase))

abbrev pub post_line : List ℕ → Post → List ℕ
post_line known p = line (post_text known p)

-- a line a post
abbrev pub posts_text : List ℕ → List Post → List ℕ
posts_text known posts = flat_map (post_line known) posts

-- those of a coordinator
abbrev pub control_posts : Control → List Post → List ℕ
control_posts c posts = posts_text (stamps c) posts
