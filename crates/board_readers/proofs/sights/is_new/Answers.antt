use Rattle.std.proofs.Common.{◌≡◌, rules, Some, slice_get, length, ◌-◌}
use Rattle.board_readers.proofs.Seeing.{new_at}
use Rattle.board_readers.proofs.sights.is_new.Goals as goal

pub returns-in-Some : goal.returns-in-Some
returns-in-Some c =
    let at : slice_get c.args.seen.now (length c.args.seen.now - 1) ≡ Some c.in-Some.post.now = search rules in
    new_at c.args.seen.now c.in-Some.post.now c.args.count at
