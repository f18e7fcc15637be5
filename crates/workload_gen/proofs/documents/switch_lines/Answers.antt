use Rattle.std.proofs.Common.{ℕ, List, ◌-◌, ◌++◌, ◌≡◌, [], ◌∷◌, ap, map, ◌∙◌, arith}
use Rattle.topology_model.specs.declared.line.TopoLine.TheVariants.{Switch}
use Rattle.workload_laws.specs.Workload.{numbers}
use Rattle.workload_gen.specs.Documents.{switch_line}
use Rattle.workload_gen.proofs.Building.{mapped-up}
use Rattle.workload_gen.proofs.documents.switch_lines.Goals as goal

pub loop-switch-preserved : goal.loop-switch-preserved
loop-switch-preserved c =
    mapped-up switch_line c.loop-switch.switch [] c.loop-switch.lines.items c.push.new.self.items c.loop-switch.auto.switch c.loop-switch.invariant
    (c.in_ok-push.ensures.items ∙ ap (λ (ps : List ℕ). c.loop-switch.lines.items ++ Switch c.loop-switch.switch ps ∷ []) (c.of-ports.ensures ∙ c.in_ok-from_array.ensures.items))

pub returns : goal.returns
returns c =
    let last : c.loop-switch.switch - 1 ≡ c.args.switches = omega (arith, c.loop-switch-test.false, c.loop-switch.auto.switch-end) in
    c.loop-switch.invariant ∙ ap (λ (n : ℕ). map switch_line (numbers 1 n)) last
