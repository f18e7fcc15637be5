-- What a read says.
use Rattle.status_board.specs.declared.eye.Sighting.{Sighting}
use Rattle.status_board.specs.declared.post.Post.{Post}

-- the post that was read
abbrev pub post_of : Sighting → Post
post_of s = record { count = s.count; phase = s.phase; halted = s.halted }
