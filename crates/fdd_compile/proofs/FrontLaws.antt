-- The tests at the front of sequences.
use Rattle.std.proofs.Common.{◌≡◌, ℕ, ◌+◌, ◌<◌, refl, ap, sym, ◌∙◌, List, [], ◌∷◌, ◌++◌, length, map, get_or, take}
use Rattle.std.proofs.lemmas.List.{map-append, take_more}
use Rattle.nk_values.specs.declared.lit.Lit.{Lit}
use Rattle.nk_values.specs.Lits.{lit_field, lit_value}
use Rattle.nk_syntax.specs.Terms.{Guard, Term, Filter, Test}
use Rattle.nk_syntax.specs.Views.{guard_of, term_of}
use Rattle.nk_syntax.specs.declared.pol.Pol.{Pol}
use Rattle.nk_syntax.specs.declared.pred.Pred.{Pred}
use Rattle.fdd_compile.specs.Sums.{guards_of_tests, tests_of}

tests_more : (ls : List Lit) (l : Lit) → tests_of (ls ++ l ∷ []) ≡ tests_of ls ++ Filter (Test (lit_field l) (lit_value l)) ∷ []
tests_more [] l = refl
tests_more (m ∷ ls) l = ap (λ (ts : List Term). Filter (Test (lit_field m) (lit_value m)) ∷ ts) (tests_more ls l)

pub front_more : (pols : List Pol) (i : ℕ) (x : Pol) (l : Lit) (ls new : List Lit) → i < length pols → x ≡ get_or pols i x → term_of x ≡ Filter (Test (lit_field l) (lit_value l)) → new ≡ ls ++ l ∷ [] → map term_of (take i pols) ≡ tests_of ls → map term_of (take (i + 1) pols) ≡ tests_of new
front_more pols i x l ls new h e one en k =
    let t : take (i + 1) pols ≡ take i pols ++ x ∷ [] = take_more pols i x h ∙ ap (λ (y : Pol). take i pols ++ y ∷ []) (sym e) in
    ap (map term_of) t ∙ map-append term_of (take i pols) (x ∷ []) ∙ (λ j. k j ++ one j ∷ []) ∙ sym (tests_more ls l) ∙ ap tests_of (sym en)

guards_more : (ls : List Lit) (l : Lit) → guards_of_tests (ls ++ l ∷ []) ≡ guards_of_tests ls ++ Test (lit_field l) (lit_value l) ∷ []
guards_more [] l = refl
guards_more (m ∷ ls) l = ap (λ (as' : List Guard). Test (lit_field m) (lit_value m) ∷ as') (guards_more ls l)

pub tests_more_front : (preds : List Pred) (i : ℕ) (x : Pred) (l : Lit) (ls new : List Lit) → i < length preds → x ≡ get_or preds i x → guard_of x ≡ Test (lit_field l) (lit_value l) → new ≡ ls ++ l ∷ [] → map guard_of (take i preds) ≡ guards_of_tests ls → map guard_of (take (i + 1) preds) ≡ guards_of_tests new
tests_more_front preds i x l ls new h e one en k =
    let t : take (i + 1) preds ≡ take i preds ++ x ∷ [] = take_more preds i x h ∙ ap (λ (y : Pred). take i preds ++ y ∷ []) (sym e) in
    ap (map guard_of) t ∙ map-append guard_of (take i preds) (x ∷ []) ∙ (λ j. k j ++ one j ∷ []) ∙ sym (guards_more ls l) ∙ ap guards_of_tests (sym en)
