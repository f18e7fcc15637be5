use Rattle.std.proofs.Common.{List, [], ◌∷◌, ◌++◌, take, sym, subst, ap, ◌∙◌}
use Rattle.std.proofs.lemmas.List.{take_more}
use Rattle.nk_values.specs.declared.lit.Lit.{Lit}
use Rattle.fdd_nodes.specs.Copies.{PutsCopy}
use Rattle.fdd_store.specs.Leaves.{AddsCopies}
use Rattle.fdd_store.proofs.LeafLaws.{adds_more}
use Rattle.fdd_apart.proofs.kinds.stripped.Goals as goal

pub loop-c-preserved : goal.loop-c-preserved
loop-c-preserved c =
    let more = take_more c.args.copies.now c.loop-c.c-index c.c-item.result c.loop-c-test.true ∙ ap (λ (x : List Lit). take c.loop-c.c-index c.args.copies.now ++ x ∷ []) (sym c.c-item.is) in
    subst (λ (x : List (List Lit)). AddsCopies c.args.cell.now x [] c.put.new.self) (sym more)
    (adds_more _ _ _ _ _ _ c.in_ok-stripped.ensures.copy c.loop-c.invariant
    (subst (λ (x : List Lit). PutsCopy x c.loop-c.leaf c.put.new.self) c.in_ok-stripped.ensures.stripped c.in_ok-put.ensures.ok))
