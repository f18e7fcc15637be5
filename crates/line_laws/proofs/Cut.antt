-- Texts cut at the first character that fails a test.
use Rattle.std.proofs.Common.{◌≡◌, ℕ, Bool, true, false, ◌&&◌, not, List, [], ◌∷◌, ◌++◌, refl, sym, ◌∙◌, ap, subst}
use Rattle.std.proofs.lemmas.Bool.{false≢true}

-- each element passes
abbrev pub every : (ℕ → Bool) → List ℕ → Bool
every p [] = true
every p (c ∷ cs) = p c && every p cs

-- empty, or it begins with one that fails
abbrev pub stops : (ℕ → Bool) → List ℕ → Bool
stops p [] = true
stops p (c ∷ cs) = not (p c)

pub and-left : (x y : Bool) → (x && y) ≡ true → x ≡ true
and-left true y e = refl
and-left false y e = e

pub and-right : (x y : Bool) → (x && y) ≡ true → y ≡ true
and-right true y e = e
and-right false y e = absurd (false≢true e)

pub and-both : (x y : Bool) → x ≡ true → y ≡ true → (x && y) ≡ true
and-both x y a b = subst (λ (z : Bool). (z && y) ≡ true) (sym a) b

clash : (p : ℕ → Bool) (c : ℕ) (us vs : List ℕ) → us ≡ c ∷ vs → stops p us ≡ true → p c ≡ true → ⊥
clash p c us vs e u g =
    let s : not (p c) ≡ true = subst (λ (xs : List ℕ). stops p xs ≡ true) e u in
    let t : false ≡ true = sym (ap not g) ∙ s in
    false≢true t

pub first : (c d : ℕ) (as' bs : List ℕ) → c ∷ as' ≡ d ∷ bs → c ≡ d
first c d as' bs e = cc

pub rest : (c d : ℕ) (as' bs : List ℕ) → c ∷ as' ≡ d ∷ bs → as' ≡ bs
rest c d as' bs e = cc

-- a text that passes a test, in front of one that doesn't begin so, is told apart from what follows
pub cut : (p : ℕ → Bool) (as' bs us vs : List ℕ) → every p as' ≡ true → every p bs ≡ true → stops p us ≡ true → stops p vs ≡ true → as' ++ us ≡ bs ++ vs → (as' ≡ bs) × (us ≡ vs)
cut p [] [] us vs a b u v e = (refl, e)
cut p [] (c ∷ bs) us vs a b u v e = absurd (clash p c us (bs ++ vs) e u (and-left (p c) (every p bs) b))
cut p (c ∷ as') [] us vs a b u v e = absurd (clash p c vs (as' ++ us) (sym e) v (and-left (p c) (every p as') a))
cut p (c ∷ as') (d ∷ bs) us vs a b u v e =
    let r = cut p as' bs us vs (and-right (p c) (every p as') a) (and-right (p d) (every p bs) b) u v (rest c d (as' ++ us) (bs ++ vs) e) in
    let f = first c d (as' ++ us) (bs ++ vs) e in
    ((λ i. f i ∷ r.0 i), r.1)

pub every-append : (p : ℕ → Bool) (as' bs : List ℕ) → every p as' ≡ true → every p bs ≡ true → every p (as' ++ bs) ≡ true
every-append p [] bs a b = b
every-append p (c ∷ as') bs a b = and-both (p c) (every p (as' ++ bs)) (and-left (p c) (every p as') a) (every-append p as' bs (and-right (p c) (every p as') a) b)

pub every-weaker : (p q : ℕ → Bool) → ((c : ℕ) → p c ≡ true → q c ≡ true) → (as' : List ℕ) → every p as' ≡ true → every q as' ≡ true
every-weaker p q h [] a = refl
every-weaker p q h (c ∷ as') a = and-both (q c) (every q as') (h c (and-left (p c) (every p as') a)) (every-weaker p q h as' (and-right (p c) (every p as') a))
