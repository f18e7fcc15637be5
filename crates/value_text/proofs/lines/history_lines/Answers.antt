use Rattle.std.proofs.Common.{map, string_bytes}
use Rattle.value_text.proofs.SortLaws.{lines_of}
use Rattle.value_text.proofs.lines.history_lines.Goals as goal

pub returns : goal.returns
returns c = lines_of c.args.head.now c.args.histories.now (map string_bytes c.in_ok-lines.lines.items) (map string_bytes c.sort_lines.new.lines.items) c.in_ok-lines.ensures
    c.in_ok-sort_lines.ensures.order c.in_ok-sort_lines.ensures.members
