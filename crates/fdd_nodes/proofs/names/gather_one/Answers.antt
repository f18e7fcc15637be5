use Rattle.std.proofs.Common.{◌≡◌, true, false, List, [], ◌∷◌, sym, subst, ◌∙◌}
use Rattle.nk_values.specs.declared.lit.Lit.{Lit}
use Rattle.nk_values.specs.Members.{IsIn}
use Rattle.fdd_nodes.specs.Names.{Gathers}
use Rattle.fdd_nodes.proofs.NameLaws.{gathers_one}
use Rattle.fdd_nodes.proofs.names.gather_one.Goals as goal

true-false : true ≡ false → ⊥
true-false e = cc

pub returns-in_ok-push : goal.returns-in_ok-push
returns-in_ok-push c =
    let lacks : ¬ IsIn c.args.names.now.items c.args.l.now = λ h. true-false (sym (c.has.ensures.1 (subst (λ (ls : List Lit). IsIn ls c.args.l.now) (sym c.deref.ensures.value) h)) ∙ c.if-not-has.true) in
    subst (λ (ns : List Lit). Gathers (c.args.l.now ∷ []) c.args.names.now.items ns) (sym c.in_ok-push.ensures.items) (gathers_one _ _ lacks)
