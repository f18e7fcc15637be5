use Rattle.std.proofs.Common.{[], ◌∷◌, ◌++◌, sym, ap, ◌∙◌, take}
use Rattle.std.proofs.lemmas.List.{take_more}
use Rattle.nk_values.specs.declared.lit.Lit.{Lit}
use Rattle.fdd_nodes.proofs.NameLaws.{gathers_next}
use Rattle.fdd_nodes.proofs.names.gather_all.Goals as goal

pub loop-l-preserved : goal.loop-l-preserved
loop-l-preserved c =
    let i = c.loop-l.l-index in
    let taken = take_more c.args.lits.now i c.l-item.result c.loop-l-test.true ∙ ap (λ (x : Lit). take i c.args.lits.now ++ x ∷ []) (sym c.l-item.is) in
    gathers_next _ _ _ _ _ _ taken c.loop-l.invariant c.in_ok-gather_one.ensures
