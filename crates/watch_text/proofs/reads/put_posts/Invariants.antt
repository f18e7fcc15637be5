use Rattle.std.proofs.Common.{◌≡◌, ◌++◌, take, string_bytes}
use Rattle.watch_text.specs.Reads.{posts_text}
use Rattle.watch_text.proofs.reads.put_posts.Given as goal

abbrev pub invariant-loop-post : goal.invariant-loop-post
invariant-loop-post l = string_bytes l.out ≡ string_bytes l.initial.out ++ posts_text l.stamps (take l.post-index l.posts)
