use Rattle.std.proofs.Common.{◌≡◌, ◌-◌, ◌++◌, ℕ, ◌<◌, List, length, get_or, map, ◌∙◌, ap, sym, subst}
use Rattle.topology_model.specs.declared.line.TopoLine.{TopoLine}
use Rattle.topology_model.specs.declared.fault.TopoError.{TopoError}
use Rattle.topology_model.specs.Causes.{IsCause}
use Rattle.topology_model.specs.Lines.{IsFirstFault, IsLineInRange}
use Rattle.workload_laws.specs.Workload.{numbers}
use Rattle.workload_gen.specs.Documents.{link_line, topology_lines}
use Rattle.workload_gen.proofs.Faultless.{lines-in-range, never-faulty}
use Rattle.workload_gen.proofs.documents.line.Goals as goal

pub build-requires : goal.build-requires
build-requires c =
    let all : c.deref.result.now ≡ topology_lines c.args.switches =
    c.deref.ensures.value ∙ c.in_ok-add_links.ensures ∙ ap (λ (xs : List TopoLine). xs ++ map link_line (numbers 1 (c.args.switches - 1))) c.in_ok-lines.ensures in
    subst (λ (xs : List TopoLine). (k : ℕ) (d : TopoLine) → k < length xs → IsLineInRange (get_or xs k d)) (sym all) (lines-in-range c.args.switches c.requires.few)

pub unreachable-requires : goal.unreachable-requires
unreachable-requires c =
    let all : c.deref.result.now ≡ topology_lines c.args.switches =
    c.deref.ensures.value ∙ c.in_ok-add_links.ensures ∙ ap (λ (xs : List TopoLine). xs ++ map link_line (numbers 1 (c.args.switches - 1))) c.in_ok-lines.ensures in
    never-faulty c.args.switches c.requires.some c.requires.few c.in-Err-Fault.field-0-0 c.in-Err-Fault.field-0-1
    (subst (λ (xs : List TopoLine). IsFirstFault xs c.in-Err-Fault.field-0-0 c.in-Err-Fault.field-0-1) all (subst (λ (e : TopoError). IsCause c.deref.result.now e) c.in-Err-Fault.field-0-is c.in-Err-Fault.ensures.cause))
