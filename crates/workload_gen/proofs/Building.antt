-- Lists of policies, lines and packets, made one by one.
use Rattle.std.proofs.Common.{◌≡◌, ◌≢◌, ℕ, zero, suc, ◌+◌, ◌-◌, ◌*◌, ◌<◌, ◌≤◌, Bool, true, false, not, ◌==◌, cond, List, [], ◌∷◌, ◌++◌, map, None, refl, sym, ◌∙◌, ap, append_assoc, arith}
use Rattle.std.specs.Prelude.{filter}
use Rattle.std.specs.List.{flat_map}
use Rattle.std.proofs.lemmas.Bool.Decides.{Decides-eqb}
use Rattle.rand_pcg.specs.Lcg.{Lcg}
use Rattle.nk_syntax.specs.Terms.{Term}
use Rattle.document_text.specs.declared.document.PacketLine.{PacketLine}
use Rattle.workload_laws.specs.Workload.{numbers, hop, hops_at, workload}
use Rattle.workload_gen.specs.Documents.{packet, packets, policies, number_by}
use Rattle.workload_gen.specs.Words.{behind}
use Rattle.workload_gen.proofs.Enabled.{append-none}

-- ---- numbers in a row

numbers-more : (k n : ℕ) → numbers k (suc n) ≡ numbers k n ++ (k + n) ∷ []
numbers-more k zero = ap (λ (i : ℕ). i ∷ []) (omega arith)
numbers-more k (suc n) = ap (λ (is : List ℕ). k ∷ is) (numbers-more (k + 1) n) ∙ ap (λ (i : ℕ). k ∷ (numbers (k + 1) n ++ i ∷ [])) (omega arith)

-- up to the one before i, and with i
pub numbers-up : (i : ℕ) → 1 ≤ i → numbers 1 (i + 1 - 1) ≡ numbers 1 (i - 1) ++ i ∷ []
numbers-up zero l = absurd (omega (arith, l))
numbers-up (suc n) l =
    ap (λ (j : ℕ). numbers 1 j) (let e : suc n + 1 - 1 ≡ suc n = omega arith in e) ∙ numbers-more 1 n
    ∙ (λ j. numbers 1 (less j) ++ one j ∷ [])
  where
    less : n ≡ suc n - 1
    less = omega arith

    one : 1 + n ≡ suc n
    one = omega arith

pub map-more : {X Y : Type 0} (f : X → Y) (xs : List X) (x : X) → map f (xs ++ x ∷ []) ≡ map f xs ++ f x ∷ []
map-more f [] x = refl
map-more f (z ∷ zs) x = ap (λ ys. f z ∷ ys) (map-more f zs x)

flat-more : {X Y : Type 0} (f : X → List Y) (xs : List X) (x : X) → flat_map f (xs ++ x ∷ []) ≡ flat_map f xs ++ f x
flat-more f [] x = append-none (f x)
flat-more f (z ∷ zs) x = ap (λ ys. f z ++ ys) (flat-more f zs x) ∙ sym (append_assoc (f z) (flat_map f zs) (f x))

filter-more : {X : Type 0} (p : X → Bool) (xs : List X) (x : X) (b : Bool) → p x ≡ b → filter p (xs ++ x ∷ []) ≡ filter p xs ++ cond b (x ∷ []) []
filter-more {X} p [] x b e = ap (λ (c : Bool). cond c (x ∷ []) []) e
filter-more {X} p (z ∷ zs) x b e = split (p z) (filter-more p zs x b e)
  where
    split : (c : Bool) → filter p (zs ++ x ∷ []) ≡ filter p zs ++ cond b (x ∷ []) [] →
        cond c (z ∷ filter p (zs ++ x ∷ [])) (filter p (zs ++ x ∷ [])) ≡ cond c (z ∷ filter p zs) (filter p zs) ++ cond b (x ∷ []) []
    split true h = ap (λ (ys : List X). z ∷ ys) h
    split false h = h

-- a list of what f makes of numbers, and one more
pub mapped-up : {Y : Type 0} (f : ℕ → Y) (i : ℕ) (before ys zs : List Y) → 1 ≤ i → ys ≡ before ++ map f (numbers 1 (i - 1)) → zs ≡ ys ++ f i ∷ [] → zs ≡ before ++ map f (numbers 1 (i + 1 - 1))
mapped-up f i before ys zs l e d =
    d ∙ ap (λ us. us ++ f i ∷ []) e ∙ append_assoc before (map f (numbers 1 (i - 1))) (f i ∷ [])
    ∙ ap (λ us. before ++ us) (sym (map-more f (numbers 1 (i - 1)) i) ∙ ap (λ (is : List ℕ). map f is) (sym (numbers-up i l)))

-- ---- policies

-- what switch i does with packets to the destinations before d, and to d
pub hops-up : (b i d : ℕ) (before ys zs : List Term) → 1 ≤ d → d ≢ b → ys ≡ before ++ map (hop i) (filter (λ e. not (e == b)) (numbers 1 (d - 1))) → zs ≡ ys ++ hop i d ∷ [] →
    zs ≡ before ++ map (hop i) (filter (λ e. not (e == b)) (numbers 1 (d + 1 - 1)))
hops-up b i d before ys zs l n e h =
    let p : ℕ → Bool = λ e. not (e == b) in
    h ∙ ap (λ (us : List Term). us ++ hop i d ∷ []) e ∙ append_assoc before (map (hop i) (filter (λ e. not (e == b)) (numbers 1 (d - 1)))) (hop i d ∷ [])
    ∙ ap (λ (us : List Term). before ++ us)
    (sym (map-more (hop i) (filter (λ e. not (e == b)) (numbers 1 (d - 1))) d)
    ∙ ap (λ (ds : List ℕ). map (hop i) ds) (sym (filter-more (λ e. not (e == b)) (numbers 1 (d - 1)) d true (other (d == b) refl)) ∙ ap (λ (ds : List ℕ). filter (λ e. not (e == b)) ds) (sym (numbers-up d l))))
  where
    other : (c : Bool) → (d == b) ≡ c → not (d == b) ≡ true
    other true q = absurd (n ((Decides-eqb d b).0 q))
    other false q = ap not q

pub hops-skip : (b i d : ℕ) (before ys : List Term) → 1 ≤ d → d ≡ b → ys ≡ before ++ map (hop i) (filter (λ e. not (e == b)) (numbers 1 (d - 1))) →
    ys ≡ before ++ map (hop i) (filter (λ e. not (e == b)) (numbers 1 (d + 1 - 1)))
hops-skip b i d before ys l n e =
    e ∙ ap (λ (ds : List ℕ). before ++ map (hop i) ds)
    (sym (append-none (filter (λ e. not (e == b)) (numbers 1 (d - 1)))) ∙ sym (filter-more (λ e. not (e == b)) (numbers 1 (d - 1)) d false (ap not ((Decides-eqb d b).1 n)))
    ∙ ap (λ (ds : List ℕ). filter (λ e. not (e == b)) ds) (sym (numbers-up d l)))

-- switch by switch
pub switches-up : (s b i : ℕ) (ys zs : List Term) → 1 ≤ i → ys ≡ flat_map (hops_at s b) (numbers 1 (i - 1)) → zs ≡ ys ++ hops_at s b i → zs ≡ flat_map (hops_at s b) (numbers 1 (i + 1 - 1))
switches-up s b i ys zs l e d =
    d ∙ ap (λ (us : List Term). us ++ hops_at s b i) e ∙ sym (flat-more (hops_at s b) (numbers 1 (i - 1)) i) ∙ ap (λ (is : List ℕ). flat_map (hops_at s b) is) (sym (numbers-up i l))

-- ---- drawn one by one

-- so many are left to be drawn, and one fewer
left-one : (n k : ℕ) → k < n → n - k ≡ suc (n - (k + 1))
left-one n k l = omega (arith, l)

left-none : (n k : ℕ) → n ≤ k → n - k ≡ 0
left-none n k l = omega (arith, l)

pub policies-more : (s n k : ℕ) (g h : Lcg) (ps qs all : List Term) (p : Term) → k < n → ps ++ policies s (n - k) g ≡ all → qs ≡ ps ++ p ∷ [] → p ≡ workload s (number_by s g) → h ≡ behind 1 g → qs ++ policies s (n - (k + 1)) h ≡ all
policies-more s n k g h ps qs all p l e a b c =
    (λ i. a i ++ policies s (n - (k + 1)) (c i)) ∙ append_assoc ps (p ∷ []) (policies s (n - (k + 1)) (behind 1 g))
    ∙ ap (λ (q : Term). ps ++ q ∷ policies s (n - (k + 1)) (behind 1 g)) b
    ∙ ap (λ (m : ℕ). ps ++ policies s m g) (sym (left-one n k l)) ∙ e

pub policies-all : (s n k : ℕ) (g : Lcg) (ps all : List Term) → n ≤ k → ps ++ policies s (n - k) g ≡ all → ps ≡ all
policies-all s n k g ps all l e = sym (append-none ps) ∙ ap (λ (m : ℕ). ps ++ policies s m g) (sym (left-none n k l)) ∙ e

pub words-more : (n k : ℕ) (g h z : Lcg) → k < n → behind (n - k) g ≡ z → h ≡ behind 1 g → behind (n - (k + 1)) h ≡ z
words-more n k g h z l e c = ap (λ (x : Lcg). behind (n - (k + 1)) x) c ∙ ap (λ (m : ℕ). behind m g) (sym (left-one n k l)) ∙ e

pub words-all : (n k : ℕ) (g z : Lcg) → n ≤ k → behind (n - k) g ≡ z → g ≡ z
words-all n k g z l e = ap (λ (m : ℕ). behind m g) (sym (left-none n k l)) ∙ e

pub packets-more : (s n k : ℕ) (g h : Lcg) (ps qs all : List PacketLine) (p : PacketLine) → k < n → ps ++ packets s (n - k) g ≡ all → qs ≡ ps ++ p ∷ [] →
    p ≡ record { packet = packet (number_by s g) (number_by s (behind 1 g)); tag = None } → h ≡ behind 2 g → qs ++ packets s (n - (k + 1)) h ≡ all
packets-more s n k g h ps qs all p l e a b c =
    (λ i. a i ++ packets s (n - (k + 1)) (c i)) ∙ append_assoc ps (p ∷ []) (packets s (n - (k + 1)) (behind 2 g))
    ∙ ap (λ (q : PacketLine). ps ++ q ∷ packets s (n - (k + 1)) (behind 2 g)) b
    ∙ ap (λ (m : ℕ). ps ++ packets s m g) (sym (left-one n k l)) ∙ e

pub packets-all : (s n k : ℕ) (g : Lcg) (ps all : List PacketLine) → n ≤ k → ps ++ packets s (n - k) g ≡ all → ps ≡ all
packets-all s n k g ps all l e = sym (append-none ps) ∙ ap (λ (m : ℕ). ps ++ packets s m g) (sym (left-none n k l)) ∙ e

left-two : (n k : ℕ) → k < n → 2 * (n - k) ≡ suc (suc (2 * (n - (k + 1))))
left-two n k l = omega (arith, l)

pub pairs-more : (n k : ℕ) (g h z : Lcg) → k < n → behind (2 * (n - k)) g ≡ z → h ≡ behind 2 g → behind (2 * (n - (k + 1))) h ≡ z
pairs-more n k g h z l e c = ap (λ (x : Lcg). behind (2 * (n - (k + 1))) x) c ∙ ap (λ (m : ℕ). behind m g) (sym (left-two n k l)) ∙ e

pub pairs-all : (n k : ℕ) (g z : Lcg) → n ≤ k → behind (2 * (n - k)) g ≡ z → g ≡ z
pairs-all n k g z l e = ap (λ (m : ℕ). behind m g) none ∙ e
  where
    none : 0 ≡ 2 * (n - k)
    none = omega (arith, l)
