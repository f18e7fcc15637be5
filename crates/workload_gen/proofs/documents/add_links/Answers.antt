use Rattle.std.proofs.Common.{◌≡◌, ◌++◌, ◌-◌, ℕ, ap, map, ◌∙◌, arith}
use Rattle.workload_laws.specs.Workload.{numbers}
use Rattle.workload_gen.specs.Documents.{link_line}
use Rattle.workload_gen.proofs.Building.{mapped-up}
use Rattle.workload_gen.proofs.documents.add_links.Goals as goal

pub loop-switch-preserved : goal.loop-switch-preserved
loop-switch-preserved c = mapped-up link_line c.loop-switch.switch c.args.lines.now.items c.loop-switch.lines.items c.push.new.self.items c.loop-switch.auto.switch c.loop-switch.invariant c.in_ok-push.ensures.items

pub returns : goal.returns
returns c =
    let last : c.loop-switch.switch - 1 ≡ c.args.switches - 1 = omega (arith, c.loop-switch-test.false, c.loop-switch.auto.switch-end, c.requires.some) in
    c.loop-switch.invariant ∙ ap (λ (n : ℕ). c.args.lines.now.items ++ map link_line (numbers 1 n)) last
