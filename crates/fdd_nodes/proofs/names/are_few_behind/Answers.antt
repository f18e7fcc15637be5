use Rattle.std.proofs.Common.{List, arith, subst, [], ◌∷◌, ◌++◌}
use Rattle.std.proofs.lemmas.Bool.{le-leb, leb-true}
use Rattle.nk_values.specs.declared.lit.Lit.{Lit}
use Rattle.fdd_nodes.specs.Fdds.{tree_of}
use Rattle.fdd_nodes.specs.Names.{literals, Gathers}
use Rattle.fdd_nodes.proofs.NameLaws.{gathers_both, gathers_pair, gathered_length}
use Rattle.fdd_nodes.proofs.names.are_few_behind.Goals as goal

pub returns : goal.returns
returns c =
    let a = tree_of c.args.yes.now in
    let b = tree_of c.args.no.now in
    let names = c.gather-2.new.names.items in
    let pair = gathers_pair a b _ _ _ _ _ c.root.ensures c.root-2.ensures c.in_ok-gather.ensures c.in_ok-gather-2.ensures in
    let all = gathers_both (c.args.l.now ∷ []) (literals a ++ literals b) _ _ _ c.in_ok-gather_one.ensures pair in
    let counted = gathered_length _ _ (subst (λ (old : List Lit). Gathers (c.args.l.now ∷ (literals a ++ literals b)) old names) c.new-names.ensures.items all) in (
      (λ e. let h = leb-true _ _ e in omega (arith, h, counted, c.len.ensures)),
      (λ few. le-leb _ _ (omega (arith, few, counted, c.len.ensures))),
    )
