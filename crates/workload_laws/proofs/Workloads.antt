-- Policies of workloads.
use Rattle.nk_values.specs.declared.field.Field.TheVariants.{Sw, Pt, EthDst}
use Rattle.std.proofs.Common.{◌≡◌, ℕ, zero, suc, ◌+◌, ◌≤◌, ◌<◌, ◌⊎◌, inl, inr, refl, sym, subst, arith, cond, Bool, true, false, ◌==◌, List, [], ◌∷◌, map}
use Rattle.std.specs.Prelude.{nat_lt, not, filter}
use Rattle.nk_values.specs.declared.field.Field.{Field}
use Rattle.nk_values.specs.Members.{IsIn}
use Rattle.nk_values.proofs.MemberLaws.{from-flat_map}
use Rattle.nk_syntax.specs.Terms.{Term}
use Rattle.nk_syntax.specs.Views.{term_row}
use Rattle.fdd_compile.specs.Named.{TermTests, TermsTest, TermAssigns, TermsAssign}
use Rattle.workload_laws.specs.Forwards.{IsDirect, AreDirect, IsAmong}
use Rattle.workload_laws.specs.Laws.{WorkloadsForward}
use Rattle.workload_laws.specs.Workload.{numbers, exit, hop, hops_at}
use Rattle.std.specs.List.{flat_map}

pub in_map : {X Y : Type 0} (f : X → Y) (xs : List X) (y : Y) → IsIn (map f xs) y → (x : X) × IsIn xs x × (f x ≡ y)
in_map f [] y h = absurd h
in_map f (x ∷ xs) y (inl e) = (x, inl refl, e)
in_map f (x ∷ xs) y (inr h) = let r = in_map f xs y h in (r.0, inr r.1, r.2)

pub in_filter : {X : Type 0} (p : X → Bool) (xs : List X) (x : X) → IsIn (filter p xs) x → IsIn xs x
in_filter p [] x h = h
in_filter p (y ∷ xs) x h = split (p y) (in_filter p xs x) h
  where
    split : (b : Bool) → (IsIn (filter p xs) x → IsIn xs x) → IsIn (cond b (y ∷ filter p xs) (filter p xs)) x → IsIn (y ∷ xs) x
    split true r (inl e) = inl e
    split true r (inr k) = inr (r k)
    split false r k = inr (r k)

pub in_numbers : (k n x : ℕ) → IsIn (numbers k n) x → (k ≤ x) × (x < k + n)
in_numbers k zero x h = absurd h
in_numbers k (suc n) x (inl e) = (omega (arith, e), omega (arith, e))
in_numbers k (suc n) x (inr h) = let r = in_numbers (k + 1) n x h in (omega (arith, r.0), omega (arith, r.1))

pub record IsHop (s : ℕ) (p : Term) : Type 0 where
  pub switch : ℕ
  pub goal : ℕ
  pub first : 1 ≤ switch
  pub last : switch ≤ s
  pub low : 1 ≤ goal
  pub high : goal ≤ s
  pub is : hop switch goal ≡ p

pub hop_of : (s b : ℕ) (p : Term) → IsIn (flat_map (hops_at s b) (numbers 1 s)) p → IsHop s p
hop_of s b p h =
    let at = from-flat_map (hops_at s b) (numbers 1 s) p h in
    let one = in_map (hop at.0) (filter (λ d. not (d == b)) (numbers 1 s)) p at.2 in
    let range = in_numbers 1 s one.0 (in_filter (λ d. not (d == b)) (numbers 1 s) one.0 one.1) in
    let sites = in_numbers 1 s at.0 at.1 in
    record { switch = at.0; goal = one.0; first = sites.0; last = omega (arith, sites.1); low = range.0; high = omega (arith, range.1); is = one.2 }

direct_row : (ps : List Term) → ((p : Term) → IsIn ps p → IsDirect p) → AreDirect (term_row ps)
direct_row [] h = tt
direct_row (p ∷ ps) h = (h p (inl refl), direct_row ps (λ q k. h q (inr k)))

tests_row : (ps : List Term) (f : Field) (n : ℕ) → TermsTest (term_row ps) f n → (p : Term) × IsIn ps p × TermTests p f n
tests_row [] f n h = absurd h
tests_row (p ∷ ps) f n (inl h) = (p, inl refl, h)
tests_row (p ∷ ps) f n (inr h) = let r = tests_row ps f n h in (r.0, inr r.1, r.2)

assigns_row : (ps : List Term) (f : Field) (n : ℕ) → TermsAssign (term_row ps) f n → (p : Term) × IsIn ps p × TermAssigns p f n
assigns_row [] f n h = absurd h
assigns_row (p ∷ ps) f n (inl h) = (p, inl refl, h)
assigns_row (p ∷ ps) f n (inr h) = let r = assigns_row ps f n h in (r.0, inr r.1, r.2)

hop_direct : (s : ℕ) (p : Term) → IsHop s p → IsDirect p
hop_direct s p h = subst IsDirect h.is (tt, (tt, (tt, tt)))

hop_tests : (s : ℕ) (p : Term) (f : Field) (n : ℕ) → IsHop s p → TermTests p f n → IsAmong Sw s f n ⊎ IsAmong EthDst s f n
hop_tests s p f n h k = split (subst (λ (q : Term). TermTests q f n) (sym h.is) k)
  where
    split : TermTests (hop h.switch h.goal) f n → IsAmong Sw s f n ⊎ IsAmong EthDst s f n
    split (inl e) = inl (record { field = sym e.0; low = subst (λ m. 1 ≤ m) e.1 h.first; high = subst (λ m. m ≤ s) e.1 h.last })
    split (inr (inl e)) = inr (record { field = sym e.0; low = subst (λ m. 1 ≤ m) e.1 h.low; high = subst (λ m. m ≤ s) e.1 h.high })
    split (inr (inr (inl e))) = absurd e
    split (inr (inr (inr e))) = absurd e

small_exit : (i d : ℕ) → (1 ≤ exit i d) × (exit i d ≤ 3)
small_exit i d = split (d == i) (nat_lt i d)
  where
    split : (a b : Bool) → (1 ≤ cond a 3 (cond b 2 1)) × (cond a 3 (cond b 2 1) ≤ 3)
    split true b = (omega arith, omega arith)
    split false true = (omega arith, omega arith)
    split false false = (omega arith, omega arith)

hop_assigns : (s : ℕ) (p : Term) (f : Field) (n : ℕ) → IsHop s p → TermAssigns p f n → IsAmong Pt 3 f n
hop_assigns s p f n h k = split (subst (λ (q : Term). TermAssigns q f n) (sym h.is) k)
  where
    split : TermAssigns (hop h.switch h.goal) f n → IsAmong Pt 3 f n
    split (inl e) = absurd e
    split (inr (inl e)) = absurd e
    split (inr (inr (inl e))) = let x = small_exit h.switch h.goal in record { field = sym e.0; low = subst (λ m. 1 ≤ m) e.1 x.0; high = subst (λ m. m ≤ 3) e.1 x.1 }
    split (inr (inr (inr e))) = absurd e

pub forwards : WorkloadsForward
forwards s b =
    let ps : List Term = flat_map (hops_at s b) (numbers 1 s) in
    record {
      direct = direct_row ps (λ p k. hop_direct s p (hop_of s b p k));
      tests = λ f n k. let r = tests_row ps f n k in hop_tests s r.0 f n (hop_of s b r.0 r.1) r.2;
      assigns = λ f n k. let r = assigns_row ps f n k in hop_assigns s r.0 f n (hop_of s b r.0 r.1) r.2;
    }
