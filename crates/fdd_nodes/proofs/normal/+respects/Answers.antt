use Rattle.std.specs.Prelude.{IsTrue, ◌↔◌}
use Rattle.std.proofs.Common.{ap, sym, subst, List}
use Rattle.nk_values.specs.declared.lit.Lit.{Lit}
use Rattle.fdd_nodes.specs.Trees.{Tree}
use Rattle.fdd_nodes.specs.Makes.{AreDisjointFrom}
use Rattle.fdd_nodes.specs.Cells.{Respects}
use Rattle.fdd_nodes.specs.Trees.{tree}
use Rattle.fdd_nodes.proofs.NormalLaws.{respects_leaf}
use Rattle.fdd_nodes.proofs.normal.+respects.Goals as goal

pub returns-in-Leaf : goal.returns-in-Leaf
returns-in-Leaf t c =
    let h = subst (λ (x : List (List Lit)). IsTrue c.are_disjoint_from.result ↔ AreDisjointFrom c.args.cell.now x) c.copies.ensures.list c.are_disjoint_from.ensures in
    let r = respects_leaf c.args.cell.now c.in-Leaf.leaf in
    subst (λ (y : Tree). IsTrue c.are_disjoint_from.result ↔ Respects c.args.cell.now y) (sym (ap tree c.in-Leaf.is)) (λ w. r.0 (h.0 w), λ w. h.1 (r.1 w))
