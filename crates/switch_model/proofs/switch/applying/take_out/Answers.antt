use Rattle.std.proofs.Common.{rules, ◌≡◌, length, vec_len, ◌∙◌}
use Rattle.switch_model.proofs.LastLaws.{last-removed}
use Rattle.switch_model.proofs.switch.applying.take_out.Goals as goal

pub returns-then-place-len : goal.returns-then-place-len
returns-then-place-len c =
    let all : vec_len c.args.pending.now ≡ length c.args.pending.now.items = search rules in
    last-removed c.args.pending.now.items c.pop.new.self.items c.args.place c.len.result c.if-place-len.true (c.len.ensures ∙ all)
    (search rules)
