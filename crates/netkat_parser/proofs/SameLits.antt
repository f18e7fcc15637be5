-- Literals are compared by field and number.
use Rattle.std.proofs.Common.{◌≡◌, ℕ, ◌+◌, ◌*◌, ◌<◌, Bool, true, false, ◌&&◌, ◌==◌, List, [], ◌∷◌, ◌++◌, map, cond, refl, ap, sym, ◌∙◌, arith}
use Rattle.std.proofs.lemmas.Bool.{eq-eqb, eqb-true}
use Rattle.std.proofs.lemmas.List.{map-append}
use Rattle.indexmap.specs.IndexSet.{insert_key}
use Rattle.std.specs.List.{list_any}
use Rattle.nk_values.specs.Ranges.{place}
use Rattle.nk_values.specs.declared.lit.Lit.{Lit}
use Rattle.nk_values.specs.Lits.{lit_field, lit_value}
use Rattle.nk_values.specs.Ranks.{step, lit_eq}
use Rattle.nk_values.proofs.LitLaws.{lit_small}
use Rattle.netkat_parser.specs.Grammar.{is_pair, is_named}
use Rattle.netkat_parser.specs.Pairs.{pair_of}

true-not-false : true ≡ false → ⊥
true-not-false e = cc

-- by the place of the field and the number, which is below a step
ranked : (p q v w : ℕ) (same field number : Bool) → v < step → w < step
    → (step * p + v == step * q + w) ≡ same → (p == q) ≡ field → (v == w) ≡ number → same ≡ (field && number)
ranked p q v w true true true hv hw e f g = refl
ranked p q v w false false number hv hw e f g = refl
ranked p q v w false true false hv hw e f g = refl
ranked p q v w true false number hv hw e f g =
    let same : step * p + v ≡ step * q + w = eqb-true _ _ e in
    let place : p ≡ q = omega (arith, same) in
    absurd (true-not-false (sym (eq-eqb p q place) ∙ f))
ranked p q v w true true false hv hw e f g =
    let same : step * p + v ≡ step * q + w = eqb-true _ _ e in
    let value : v ≡ w = omega (arith, same) in
    absurd (true-not-false (sym (eq-eqb v w value) ∙ g))
ranked p q v w false true true hv hw e f g =
    let place : p ≡ q = eqb-true _ _ f in
    let value : v ≡ w = eqb-true _ _ g in
    let same : step * p + v ≡ step * q + w = omega (arith, place, value) in
    absurd (true-not-false (sym (eq-eqb (step * p + v) (step * q + w) same) ∙ e))

same-pair : (l x : Lit) → lit_eq l x ≡ is_pair (lit_field l) (lit_value l) (pair_of x)
same-pair l x =
    ranked (place (lit_field l)) (place (lit_field x)) (lit_value l) (lit_value x) (lit_eq l x) (place (lit_field l) == place (lit_field x)) (lit_value l == lit_value x)
    (lit_small l) (lit_small x) refl refl refl

pub has-named : (l : Lit) (ks : List Lit) → list_any (lit_eq l) ks ≡ is_named (map pair_of ks) (lit_field l) (lit_value l)
has-named l [] = refl
has-named l (x ∷ ks) = rw (same-pair l x, has-named l ks) refl

inserted : (ks : List Lit) (l : Lit) (b : Bool) → b ≡ false → cond b ks (ks ++ l ∷ []) ≡ ks ++ l ∷ []
inserted ks l b e = rw e refl

-- a new literal goes last
pub pairs-insert : (l : Lit) (ks ks' : List Lit) → ks' ≡ insert_key lit_eq ks l → is_named (map pair_of ks) (lit_field l) (lit_value l) ≡ false
    → map pair_of ks' ≡ map pair_of ks ++ (lit_field l, lit_value l) ∷ []
pairs-insert l ks ks' e new =
    ap (map pair_of) (e ∙ inserted ks l (list_any (lit_eq l) ks) (has-named l ks ∙ new)) ∙ map-append pair_of ks (l ∷ [])
