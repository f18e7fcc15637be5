-- Chains of operands.
use Rattle.std.proofs.Common.{◌≡◌, ◌≢◌, Bool, true, false, List, [], ◌∷◌, length, map, refl, sym, ap, ◌∙◌, Vec}
use Rattle.std.specs.declared.alloc.Global.{Global}
use Rattle.nk_syntax.specs.Terms.{Guard, Or, And, guard, Term, Filter, Sum, Seq}
use Rattle.nk_syntax.specs.Views.{term_of, guard_of, term_row, guard_row}
use Rattle.nk_syntax.specs.declared.pred.Pred.{Pred}
use Rattle.nk_syntax.specs.declared.pol.Pol.{Pol}
use Rattle.netkat_parser.specs.Grammar.{sum_of, seq_of, taken, all_taken}
use Rattle.netkat_parser.specs.declared.chain.Operands.TheVariants.{Predicates}
use Rattle.netkat_parser.specs.Showing.{or_of, and_of, IsOperand, AreOperands}

pub sum_of_many : (ps : List Term) → length ps ≢ 1 → sum_of ps ≡ Sum (term_row ps)
sum_of_many [] ne = refl
sum_of_many (p ∷ []) ne = absurd (ne refl)
sum_of_many (p ∷ q ∷ ps) ne = refl

pub seq_of_many : (ps : List Term) → length ps ≢ 1 → seq_of ps ≡ Seq (term_row ps)
seq_of_many [] ne = refl
seq_of_many (p ∷ []) ne = absurd (ne refl)
seq_of_many (p ∷ q ∷ ps) ne = refl

pub or_of_many : (as' : List Guard) → length as' ≢ 1 → or_of as' ≡ Or (guard_row as')
or_of_many [] ne = refl
or_of_many (a ∷ []) ne = absurd (ne refl)
or_of_many (a ∷ b ∷ as') ne = refl

pub and_of_many : (as' : List Guard) → length as' ≢ 1 → and_of as' ≡ And (guard_row as')
and_of_many [] ne = refl
and_of_many (a ∷ []) ne = absurd (ne refl)
and_of_many (a ∷ b ∷ as') ne = refl

-- members that are taken one by one
taken-all : (ps : List Term) → all_taken (term_row ps) ≡ guard_row (map taken ps)
taken-all [] = refl
taken-all (p ∷ ps) = ap (guard (taken p)) (taken-all ps)

pub taken-sum : (ps : List Term) → taken (sum_of ps) ≡ or_of (map taken ps)
taken-sum [] = refl
taken-sum (p ∷ []) = refl
taken-sum (p ∷ q ∷ ps) = ap Or (taken-all (p ∷ q ∷ ps))

pub taken-seq : (ps : List Term) → taken (seq_of ps) ≡ and_of (map taken ps)
taken-seq [] = refl
taken-seq (p ∷ []) = refl
taken-seq (p ∷ q ∷ ps) = ap And (taken-all (p ∷ q ∷ ps))

-- operands inside a `not`, as one
pub inside-sum : (i : Bool) (pol : Pol) (a : Pred) (preds : Vec Pred Global) (ps : List Term) → term_of pol ≡ Filter (guard_of a) → guard_of a ≡ or_of (map guard_of preds.items)
    → AreOperands i (Predicates preds) ps → IsOperand i pol (sum_of ps)
inside-sum false pol a preds ps f e h = absurd h
inside-sum true pol a preds ps f e h = f ∙ ap Filter (e ∙ ap or_of h ∙ sym (taken-sum ps))

pub inside-seq : (i : Bool) (pol : Pol) (a : Pred) (preds : Vec Pred Global) (ps : List Term) → term_of pol ≡ Filter (guard_of a) → guard_of a ≡ and_of (map guard_of preds.items)
    → AreOperands i (Predicates preds) ps → IsOperand i pol (seq_of ps)
inside-seq false pol a preds ps f e h = absurd h
inside-seq true pol a preds ps f e h = f ∙ ap Filter (e ∙ ap and_of h ∙ sym (taken-seq ps))
