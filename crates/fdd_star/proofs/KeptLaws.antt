-- What is kept by keys: what is found is right, and so is what is added.
use Rattle.std.specs.Prelude.{IfSome, option_copied}
use Rattle.std.proofs.Common.{Bor, ◌≡◌, refl, sym, subst, Bool, true, false, cond, List, [], ◌∷◌, Option, Some, None, if◌then◌else◌}
use Rattle.std.specs.Map.{lookup}
use Rattle.indexmap.specs.IndexMap.{insert_entry}
use Rattle.fdd_star.specs.Kept.{EachIs}

lent : {V : Type 0} (P : V → Type 0) (o : Option (Bor V)) → IfSome (option_copied o) P → IfSome o (λ v. P v.now)
lent P None h = tt
lent P (Some v) h = h

-- keys are the same where a test tells so
module _ {K V : Type 0} (eq : K → K → Bool) (same : (x y : K) → eq x y ≡ true → x ≡ y) (P : K → V → Type 0) where
  right_found : (q : K) (es : List (K × V)) → EachIs P es → IfSome (lookup (eq q) es) (P q)
  right_found q [] h = tt
  right_found q (x ∷ xs) h = by (eq q x.0) refl (right_found q xs h.1)
    where
      by : (b : Bool) → eq q x.0 ≡ b → IfSome (lookup (eq q) xs) (P q) → IfSome (cond b (Some x.1) (lookup (eq q) xs)) (P q)
      by true e k = subst (λ (p : K). P p x.1) (sym (same q x.0 e)) h.0
      by false e k = k

  pub found_right : (q : K) (es : List (K × V)) (o : Option (Bor V)) → EachIs P es → option_copied o ≡ lookup (eq q) es → IfSome o (λ v. P q v.now)
  found_right q es o h e = lent (P q) o (subst (λ (x : Option V). IfSome x (P q)) (sym e) (right_found q es h))

  pub right_added : (q : K) (v : V) (es : List (K × V)) → EachIs P es → P q v → EachIs P (insert_entry eq es q v)
  right_added q v [] h k = (k, tt)
  right_added q v (x ∷ xs) h k = by (eq q x.0) refl (right_added q v xs h.1 k)
    where
      by : (b : Bool) → eq q x.0 ≡ b → EachIs P (insert_entry eq xs q v) → EachIs P (if b then (x.0, v) ∷ xs else x ∷ insert_entry eq xs q v)
      by true e n = (subst (λ (p : K). P p v) (same q x.0 e) k, h.1)
      by false e n = (h.0, n)

-- what is kept stays right where a law leads from old to new
pub each_on : {K V : Type 0} (P Q : K → V → Type 0) (es : List (K × V)) → ((x : K) (v : V) → P x v → Q x v) → EachIs P es → EachIs Q es
each_on P Q [] f h = tt
each_on P Q (e ∷ es) f h = (f e.0 e.1 h.0, each_on P Q es f h.1)
