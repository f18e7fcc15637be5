use Rattle.std.proofs.Common.{sym, ap, subst}
use Rattle.fdd_nodes.specs.Names.{literals, Gathers}
use Rattle.fdd_nodes.specs.Trees.{Tree, tree}
use Rattle.fdd_nodes.proofs.MakesLaws.{on_ok}
use Rattle.fdd_nodes.proofs.NameLaws.{gathers_test}
use Rattle.fdd_nodes.proofs.names.+gather.Goals as goal

pub returns-in_ok-gather-in-Test : goal.returns-in_ok-gather-in-Test
returns-in_ok-gather-in-Test t c = on_ok _ _ _ c.gather-in-Test.ensures (λ last.
    let yes = subst (λ (y : Tree). Gathers (literals y) c.gather_one.new.names.items c.gather.new.names.items) (ap tree c.deref.ensures) c.in_ok-gather-in-Test.ensures in
    let no = subst (λ (y : Tree). Gathers (literals y) c.gather.new.names.items c.gather-in-Test.new.names.items) (ap tree c.deref-in-Test.ensures) last in
    let all = gathers_test c.in-Test.l (tree c.in-Test.t.value) (tree c.in-Test.e.value) _ _ _ _ c.in_ok-gather_one-in-Test.ensures yes no in
    subst (λ (y : Tree). Gathers (literals y) c.args.names.now.items c.gather-in-Test.new.names.items) (sym (ap tree c.in-Test.is)) all)
