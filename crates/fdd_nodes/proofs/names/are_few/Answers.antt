use Rattle.std.proofs.Common.{List, arith, subst, ◌++◌}
use Rattle.std.proofs.lemmas.Bool.{le-leb, leb-true}
use Rattle.nk_values.specs.declared.lit.Lit.{Lit}
use Rattle.fdd_nodes.specs.Fdds.{tree_of}
use Rattle.fdd_nodes.specs.Names.{literals, Gathers}
use Rattle.fdd_nodes.proofs.NameLaws.{gathers_pair, gathered_length}
use Rattle.fdd_nodes.proofs.names.are_few.Goals as goal

pub returns : goal.returns
returns c =
    let a = tree_of c.args.a.now in
    let b = tree_of c.args.b.now in
    let names = c.gather-2.new.names.items in
    let all = gathers_pair a b _ _ _ _ _ c.root.ensures c.root-2.ensures c.in_ok-gather.ensures c.in_ok-gather-2.ensures in
    let counted = gathered_length _ _ (subst (λ (old : List Lit). Gathers (literals a ++ literals b) old names) c.new-names.ensures.items all) in (
      (λ e. record { bound = let h = leb-true _ _ e in omega (arith, h, counted, c.len.ensures) }),
      (λ few. le-leb _ _ (omega (arith, few.bound, counted, c.len.ensures))),
    )
