-- Each number in a policy is a literal of its field.
use Rattle.std.proofs.Common.{List, [], ◌∷◌, map, sym, subst}
use Rattle.nk_syntax.specs.Views.{guard_of, guards_of, guard_row, term_of, terms_of, term_row}
use Rattle.nk_syntax.specs.declared.pred.Pred.{Pred}
use Rattle.nk_syntax.specs.declared.pred.Preds.{Preds}
use Rattle.nk_syntax.specs.declared.pred.Pred.TheVariants as pred
use Rattle.nk_syntax.specs.declared.pred.Pred.TheFolds.{ind-Pred, map-Pred}
use Rattle.nk_syntax.specs.declared.pred.Pred.TheOpen.{Pred-F}
use Rattle.nk_syntax.specs.declared.pred.Pred.TheViews.{roll-Pred, roll-Preds}
use Rattle.nk_syntax.specs.declared.pol.Pol.{Pol}
use Rattle.nk_syntax.specs.declared.pol.Pols.{Pols}
use Rattle.nk_syntax.specs.declared.pol.Pol.TheVariants as pol
use Rattle.nk_syntax.specs.declared.pol.Pol.TheFolds.{ind-Pol, map-Pol}
use Rattle.nk_syntax.specs.declared.pol.Pol.TheOpen.{Pol-F}
use Rattle.nk_syntax.specs.declared.pol.Pol.TheViews.{roll-Pol, roll-Pols}
use Rattle.nk_syntax.proofs.Equations.{guard_of-one, guard_of-zero, guard_of-test, guard_of-or, guard_of-and, guard_of-not, term_of-filter, term_of-assign, term_of-sum, term_of-seq, term_of-star, term_of-dup}
use Rattle.netkat_parser.specs.Printed.{HasGuardLiterals, HaveGuardLiterals, HasLiterals, HaveLiterals}

abbrev OfPred : Pred → Type 0
OfPred a = HasGuardLiterals (guard_of a)

abbrev OfPreds : Preds → Type 0
OfPreds as' = HaveGuardLiterals (guards_of as')

-- one level, where it holds of each predicate inside
pred-level : (S T : Type 0) (one : S → Pred) (each : (s : S) → OfPred (one s)) (row : T → Preds) (each_row : (t : T) → OfPreds (row t)) (y : Pred-F S T)
    → OfPred (roll-Pred (map-Pred S T Pred Preds one row y))
pred-level S T one each row each_row Pred-F.One = subst OfPred (sym pred.rolls-One) (subst HasGuardLiterals (sym guard_of-one) tt)
pred-level S T one each row each_row Pred-F.Zero = subst OfPred (sym pred.rolls-Zero) (subst HasGuardLiterals (sym guard_of-zero) tt)
pred-level S T one each row each_row (Pred-F.Test l) = subst OfPred (sym (pred.rolls-Test l)) (subst HasGuardLiterals (sym (guard_of-test l)) l.literal)
pred-level S T one each row each_row (Pred-F.Or t) = subst OfPred (sym (pred.rolls-Or (row t))) (subst HasGuardLiterals (sym (guard_of-or (row t))) (each_row t))
pred-level S T one each row each_row (Pred-F.And t) = subst OfPred (sym (pred.rolls-And (row t))) (subst HasGuardLiterals (sym (guard_of-and (row t))) (each_row t))
pred-level S T one each row each_row (Pred-F.Not b) = subst OfPred (sym (pred.rolls-Not _)) (subst HasGuardLiterals (sym (guard_of-not _)) (each b.value))

pred-members : (S : Type 0) (one : S → Pred) (each : (s : S) → OfPred (one s)) (ys : List S) → HaveGuardLiterals (guard_row (map guard_of (map one ys)))
pred-members S one each [] = tt
pred-members S one each (y ∷ ys) = (each y, pred-members S one each ys)

pub pred-literals : (a : Pred) → HasGuardLiterals (guard_of a)
pred-literals =
    ind-Pred OfPred OfPreds (λ x y e. subst (λ z. OfPred (roll-Pred z)) e (pred-level _ _ (λ s. s.0) (λ s. s.1) (λ t. t.0) (λ t. t.1) y))
    (λ x y e. subst (λ z. OfPreds (roll-Preds z)) e (pred-members _ (λ s. s.0) (λ s. s.1) y.items.items))

abbrev OfPol : Pol → Type 0
OfPol p = HasLiterals (term_of p)

abbrev OfPols : Pols → Type 0
OfPols ps = HaveLiterals (terms_of ps)

-- one level, where it holds of each policy inside
pol-level : (S T : Type 0) (one : S → Pol) (each : (s : S) → OfPol (one s)) (row : T → Pols) (each_row : (t : T) → OfPols (row t)) (y : Pol-F S T)
    → OfPol (roll-Pol (map-Pol S T Pol Pols one row y))
pol-level S T one each row each_row (Pol-F.Filter a) = subst OfPol (sym (pol.rolls-Filter a)) (subst HasLiterals (sym (term_of-filter a)) (pred-literals a))
pol-level S T one each row each_row (Pol-F.Assign l) = subst OfPol (sym (pol.rolls-Assign l)) (subst HasLiterals (sym (term_of-assign l)) l.literal)
pol-level S T one each row each_row (Pol-F.Sum t) = subst OfPol (sym (pol.rolls-Sum (row t))) (subst HasLiterals (sym (term_of-sum (row t))) (each_row t))
pol-level S T one each row each_row (Pol-F.Seq t) = subst OfPol (sym (pol.rolls-Seq (row t))) (subst HasLiterals (sym (term_of-seq (row t))) (each_row t))
pol-level S T one each row each_row (Pol-F.Star b) = subst OfPol (sym (pol.rolls-Star _)) (subst HasLiterals (sym (term_of-star _)) (each b.value))
pol-level S T one each row each_row Pol-F.Dup = subst OfPol (sym pol.rolls-Dup) (subst HasLiterals (sym term_of-dup) tt)

pol-members : (S : Type 0) (one : S → Pol) (each : (s : S) → OfPol (one s)) (ys : List S) → HaveLiterals (term_row (map term_of (map one ys)))
pol-members S one each [] = tt
pol-members S one each (y ∷ ys) = (each y, pol-members S one each ys)

pub pol-literals : (p : Pol) → HasLiterals (term_of p)
pol-literals =
    ind-Pol OfPol OfPols (λ x y e. subst (λ z. OfPol (roll-Pol z)) e (pol-level _ _ (λ s. s.0) (λ s. s.1) (λ t. t.0) (λ t. t.1) y))
    (λ x y e. subst (λ z. OfPols (roll-Pols z)) e (pol-members _ (λ s. s.0) (λ s. s.1) y.items.items))
