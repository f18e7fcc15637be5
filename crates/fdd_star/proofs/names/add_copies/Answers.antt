use Rattle.std.proofs.Common.{List, [], ◌∷◌, ◌++◌, sym, ap, ◌∙◌, subst, take}
use Rattle.std.proofs.lemmas.List.{take_more}
use Rattle.nk_values.specs.declared.lit.Lit.{Lit}
use Rattle.nk_values.specs.Members.{IsIn}
use Rattle.fdd_nodes.specs.Trees.{IsSetBy}
use Rattle.fdd_star.specs.Named.{Gains}
use Rattle.fdd_star.proofs.NamedLaws.{gains_copy}
use Rattle.fdd_star.proofs.names.add_copies.Goals as goal

pub loop-copy-preserved : goal.loop-copy-preserved
loop-copy-preserved c =
    let i = c.loop-copy.copy-index in
    let taken = take_more c.args.copies.now i c.copy-item.result c.loop-copy-test.true ∙ ap (λ (x : List Lit). take i c.args.copies.now ++ x ∷ []) (sym c.copy-item.is) in
    let one = subst (λ (x : List Lit). Gains (IsIn x) c.loop-copy.names.keys c.add_lits.new.names.keys) c.lits.ensures.list c.in_ok-add_lits.ensures in
    subst (λ (cs : List (List Lit)). Gains (IsSetBy cs) c.args.names.now.keys c.add_lits.new.names.keys) (sym taken) (gains_copy _ _ _ _ _ c.loop-copy.invariant one)
