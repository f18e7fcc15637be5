use Rattle.std.proofs.Common.{List, map, sym, subst, String, string_bytes}
use Rattle.std.proofs.lemmas.List.Filters.{dedup_is}
use Rattle.std.specs.declared.alloc.Global.{Global}
use Rattle.std.specs.String.{string_eq}
use Rattle.nk_values.specs.Members.{SameMembers}
use Rattle.value_text.specs.Traces.{Ascends}
use Rattle.value_text.proofs.SortLaws.{ascends, same_texts}
use Rattle.value_text.proofs.lines.sort_lines.Goals as goal

pub returns-clause-order : goal.returns-clause-order
returns-clause-order c =
    let once = dedup_is string_eq c.sort.new.self.items c.dedup.new.self.items c.dedup.ensures.filtered in
    subst (λ (xs : List (String Global)). Ascends (map string_bytes xs)) (sym once) (ascends c.sort.new.self.items c.in_ok-sort.ensures.sorted)

pub returns-clause-members : goal.returns-clause-members
returns-clause-members c =
    let once = dedup_is string_eq c.sort.new.self.items c.dedup.new.self.items c.dedup.ensures.filtered in
    subst (λ (xs : List (String Global)). SameMembers (map string_bytes xs) (map string_bytes c.args.lines.now.items)) (sym once)
    (same_texts c.args.lines.now.items c.sort.new.self.items c.sort.ensures.permutation)
