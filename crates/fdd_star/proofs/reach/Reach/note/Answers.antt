use Rattle.std.proofs.Common.{List, [], ◌∷◌, ◌++◌, sym, ap, ◌∙◌, subst, take}
use Rattle.std.proofs.lemmas.List.{take_more}
use Rattle.nk_values.specs.declared.lit.Lit.{Lit}
use Rattle.fdd_star.specs.declared.reach.Reach.{Reach}
use Rattle.fdd_star.specs.Reaches.{AsksAll}
use Rattle.fdd_star.proofs.GrowLaws.{asks_one}
use Rattle.fdd_star.proofs.reach.Reach.note.Goals as goal

pub loop-l-preserved : goal.loop-l-preserved
loop-l-preserved c =
    let i = c.loop-l.l-index in
    let taken = take_more c.args.asked.now i c.l-item.result c.loop-l-test.true ∙ ap (λ (x : Lit). take i c.args.asked.now ++ x ∷ []) (sym c.l-item.is) in
    let next : Reach = record { numbers = c.loop-l.self.numbers; copies = c.loop-l.self.copies; asked = c.insert.new.self } in
    (subst (λ (ls : List Lit). AsksAll ls c.args.self.now next) (sym taken) (asks_one _ _ _ _ next c.loop-l.invariant.0 c.in_ok-insert.ensures.keys), c.loop-l.invariant.1, c.loop-l.invariant.2)
