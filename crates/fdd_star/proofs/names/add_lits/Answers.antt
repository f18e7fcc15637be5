use Rattle.std.proofs.Common.{List, [], ◌∷◌, ◌++◌, sym, ap, ◌∙◌, subst, take}
use Rattle.std.proofs.lemmas.List.{take_more}
use Rattle.nk_values.specs.declared.lit.Lit.{Lit}
use Rattle.nk_values.specs.Members.{IsIn}
use Rattle.fdd_star.specs.Named.{Gains}
use Rattle.fdd_star.proofs.NamedLaws.{gains_lit}
use Rattle.fdd_star.proofs.names.add_lits.Goals as goal

pub loop-l-preserved : goal.loop-l-preserved
loop-l-preserved c =
    let i = c.loop-l.l-index in
    let taken = take_more c.args.lits.now i c.l-item.result c.loop-l-test.true ∙ ap (λ (x : Lit). take i c.args.lits.now ++ x ∷ []) (sym c.l-item.is) in
    subst (λ (ls : List Lit). Gains (IsIn ls) c.args.names.now.keys c.insert.new.self.keys) (sym taken) (gains_lit _ _ _ _ _ c.loop-l.invariant c.in_ok-insert.ensures.keys)
