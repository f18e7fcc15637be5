use Rattle.std.proofs.Common.{List, [], ◌∷◌, ◌++◌, sym, ap, ◌∙◌, subst, take}
use Rattle.std.proofs.lemmas.List.{take_more}
use Rattle.nk_values.specs.declared.lit.Lit.{Lit}
use Rattle.fdd_nodes.specs.Names.{Gathers}
use Rattle.fdd_nodes.proofs.NameLaws.{gathers_next_copy}
use Rattle.fdd_nodes.proofs.names.gather_copies.Goals as goal

pub loop-c-preserved : goal.loop-c-preserved
loop-c-preserved c =
    let i = c.loop-c.c-index in
    let taken = take_more c.args.copies.now i c.c-item.result c.loop-c-test.true ∙ ap (λ (x : List Lit). take i c.args.copies.now ++ x ∷ []) (sym c.c-item.is) in
    let here = subst (λ (x : List Lit). Gathers x c.loop-c.names.items c.gather_all.new.names.items) c.lits.ensures.list c.in_ok-gather_all.ensures in
    gathers_next_copy _ _ _ _ _ _ taken c.loop-c.invariant here
