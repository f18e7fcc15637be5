-- Texts of steps and of histories are told apart.
use Rattle.std.proofs.Common.{◌≡◌, ℕ, ◌<◌, ◌≤◌, ◌^◌, arith, Bool, true, false, ◌==◌, not, inl, inr, List, [], ◌∷◌, ◌++◌, filter, cond, reverse, refl, sym, ◌∙◌, ap, subst, append-nil}
use Rattle.std.proofs.lemmas.Bool.{false≢true}
use Rattle.std.proofs.lemmas.Bool.Decides.{Decides-eqb}
use Rattle.std.proofs.lemmas.List.{append_assoc, append_cancel_left, reverse-append, reverse-reverse}
use Rattle.std.specs.Fmt.{decimal}
use Rattle.nk_values.specs.declared.field.Field.{Field}
use Rattle.nk_values.specs.declared.field.Field.TheVariants.{Sw, Pt, EthTyp, IpProto, EthSrc, EthDst, Ip4Src, Ip4Dst, TcpSrcPort, TcpDstPort}
use Rattle.nk_values.specs.declared.packet.Packet.{Packet}
use Rattle.nk_values.specs.Members.{IsIn}
use Rattle.nk_values.specs.Names.{header_fields}
use Rattle.nk_values.specs.Packets.{IsInRange, get}
use Rattle.nk_values.specs.Trails.{Trail, packets}
use Rattle.nk_values.proofs.MemberLaws.{in-either}
use Rattle.value_text.specs.Histories.{changed, braced, step_text, steps_text, path_text}
use Rattle.value_text.specs.Values.{location_text}
use Rattle.packet_tracer.specs.Ways.{oldest_of}
use Rattle.line_laws.specs.Laws.{TextsTell}
use Rattle.line_laws.proofs.Cut.{stops, cut, rest}
use Rattle.line_laws.proofs.Fields.{in_step, Agree, braces-same, braces-stop}
use Rattle.line_laws.proofs.Values.{digit, digits, decimal-same}

-- ---- what changed

keep : (b : Bool) (g : Field) (gs : List Field) (f : Field) → IsIn gs f → IsIn (cond b (g ∷ gs) gs) f
keep true g gs f m = inr m
keep false g gs f m = m

in-filter : (p : Field → Bool) (fs : List Field) (f : Field) → IsIn fs f → p f ≡ true → IsIn (filter p fs) f
in-filter p [] f m e = absurd m
in-filter p (g ∷ fs) f (inl d) e = subst (λ (b : Bool). IsIn (cond b (g ∷ filter p fs) (filter p fs)) f) (sym (ap p d ∙ e)) (inl d)
in-filter p (g ∷ fs) f (inr m) e = keep (p g) g (filter p fs) f (in-filter p fs f m e)

from-filter : (p : Field → Bool) (fs : List Field) (f : Field) → IsIn (filter p fs) f → p f ≡ true
from-filter p [] f m = absurd m
from-filter p (g ∷ fs) f m = pass (p g) refl m (from-filter p fs f)
  where
    pass : (b : Bool) → p g ≡ b → IsIn (cond b (g ∷ filter p fs) (filter p fs)) f → (IsIn (filter p fs) f → p f ≡ true) → p f ≡ true
    pass true e (inl d) later = sym (ap p d) ∙ e
    pass true e (inr m) later = later m
    pass false e m later = later m

abbrev differs : Packet → Packet → Field → Bool
differs p q f = not (get p f == get q f)

-- a field that changed alike, or in neither, has one number
field-tells : (p q r : Packet) (f : Field) → IsIn header_fields f → Agree q r (changed p q) (changed p r) → get q f ≡ get r f
field-tells p q r f m a = split (get p f == get q f) (get p f == get r f) refl refl
  where
    split : (b c : Bool) → (get p f == get q f) ≡ b → (get p f == get r f) ≡ c → get q f ≡ get r f
    split false c e d = a.numbers f (in-filter (differs p q) header_fields f m (ap not e))
    split true true e d = sym ((Decides-eqb (get p f) (get q f)).0 e) ∙ (Decides-eqb (get p f) (get r f)).0 d
    split true false e d =
        let there : IsIn (changed p q) f = subst (λ (fs : List Field). IsIn fs f) (sym a.fields) (in-filter (differs p r) header_fields f m (ap not d)) in
        absurd (false≢true (sym (ap not e) ∙ from-filter (differs p q) header_fields f there))

header-same : (p q r : Packet) → Agree q r (changed p q) (changed p r) → q.header ≡ r.header
header-same p q r a =
    let b = field-tells p q r EthTyp (inl refl) a in
    let c = field-tells p q r IpProto (inr (inl refl)) a in
    let d = field-tells p q r EthSrc (inr (inr (inl refl))) a in
    let e = field-tells p q r EthDst (inr (inr (inr (inl refl)))) a in
    let f = field-tells p q r Ip4Src (inr (inr (inr (inr (inl refl))))) a in
    let g = field-tells p q r Ip4Dst (inr (inr (inr (inr (inr (inl refl)))))) a in
    let h = field-tells p q r TcpSrcPort (inr (inr (inr (inr (inr (inr (inl refl))))))) a in
    let k = field-tells p q r TcpDstPort (inr (inr (inr (inr (inr (inr (inr (inl refl)))))))) a in
    λ i. record { eth_typ = b i; ip_proto = c i; eth_src = d i; eth_dst = e i; ip4_src = f i; ip4_dst = g i; tcp_src_port = h i; tcp_dst_port = k i }

-- ---- a step

step-is : (p q : Packet) (u : List ℕ) → step_text p q ++ u ≡ 62 ∷ (decimal q.sw ++ (58 ∷ (decimal q.pt ++ (braced q (changed p q) ++ u))))
step-is p q u =
    ap (λ (xs : List ℕ). 62 ∷ xs) (append_assoc (location_text q.sw q.pt) (braced q (changed p q)) u
    ∙ append_assoc (decimal q.sw) (58 ∷ decimal q.pt) (braced q (changed p q) ++ u))

small : (n : ℕ) → n ≤ 65535 → n < 2 ^ 64
small n h = omega (arith, h)

sw-high : (q : Packet) → IsInRange q → q.sw ≤ 65535
sw-high q k = (k Sw).high

pt-high : (q : Packet) → IsInRange q → q.pt ≤ 65535
pt-high q k = omega (arith, (k Pt).high)

step-same : (p q r : Packet) (u v : List ℕ) → IsInRange q → IsInRange r → stops in_step u ≡ true → stops in_step v ≡ true → step_text p q ++ u ≡ step_text p r ++ v → (q ≡ r) × (u ≡ v)
step-same p q r u v k l s t e =
    let a = cut digit (decimal q.sw) (decimal r.sw) (58 ∷ (decimal q.pt ++ (braced q (changed p q) ++ u))) (58 ∷ (decimal r.pt ++ (braced r (changed p r) ++ v)))
    (digits q.sw (small q.sw (sw-high q k))) (digits r.sw (small r.sw (sw-high r l))) refl refl (rest 62 62 _ _ (sym (step-is p q u) ∙ e ∙ step-is p r v)) in
    let b = cut digit (decimal q.pt) (decimal r.pt) (braced q (changed p q) ++ u) (braced r (changed p r) ++ v) (digits q.pt (small q.pt (pt-high q k))) (digits r.pt (small r.pt (pt-high r l)))
    (braces-stop q (changed p q) u s) (braces-stop r (changed p r) v t) (rest 58 58 _ _ a.1) in
    let c = braces-same q r k l (changed p q) (changed p r) u v s t b.1 in
    let sw = decimal-same q.sw r.sw (sw-high q k) (sw-high r l) a.0 in
    let pt = decimal-same q.pt r.pt (pt-high q k) (pt-high r l) b.0 in
    let header = header-same p q r c.0 in
    ((λ i. record { sw = sw i; pt = pt i; header = header i }), c.1)

-- ---- steps

steps-stop : (p : Packet) (ps : List Packet) (q : Packet) → stops in_step (steps_text p ps q) ≡ true
steps-stop p [] q = refl
steps-stop p (r ∷ rs) q = refl

some-steps : (p : Packet) (ps : List Packet) (q : Packet) → [] ≡ steps_text p ps q → ⊥
some-steps p [] q e = absurd (cc)
some-steps p (r ∷ rs) q e = absurd (cc)

steps-same : (p : Packet) (ps rs : List Packet) (q r : Packet) → ((x : Packet) → IsIn (q ∷ ps) x → IsInRange x) → ((x : Packet) → IsIn (r ∷ rs) x → IsInRange x) → steps_text p ps q ≡ steps_text p rs r → (ps ≡ rs) × (q ≡ r)
steps-same p [] [] q r k l e = (refl, (step-same p q r [] [] (k q (inl refl)) (l r (inl refl)) refl refl (ap (λ (xs : List ℕ). xs ++ []) e)).0)
steps-same p [] (y ∷ ys) q r k l e =
    absurd (some-steps y ys r (step-same p q y [] (steps_text y ys r) (k q (inl refl)) (l y (inr (inl refl))) refl (steps-stop y ys r) (append-nil (step_text p q) ∙ e)).1)
steps-same p (x ∷ xs) [] q r k l e =
    absurd (some-steps x xs q (sym (step-same p x r (steps_text x xs q) [] (k x (inr (inl refl))) (l r (inl refl)) (steps-stop x xs q) refl (e ∙ sym (append-nil (step_text p r)))).1))
steps-same p (x ∷ xs) (y ∷ ys) q r k l e =
    let a = step-same p x y (steps_text x xs q) (steps_text y ys r) (k x (inr (inl refl))) (l y (inr (inl refl))) (steps-stop x xs q) (steps-stop y ys r) e in
    let b = steps-same x xs ys q r (λ z m. k z (less q x xs z m)) (λ z m. l z (less r y ys z m)) (a.1 ∙ ap (λ (z : Packet). steps_text z ys r) (sym a.0)) in
    ((λ i. a.0 i ∷ b.0 i), b.1)
  where
    less : (q x : Packet) (xs : List Packet) (z : Packet) → IsIn (q ∷ xs) z → IsIn (q ∷ x ∷ xs) z
    less q x xs z (inl d) = inl d
    less q x xs z (inr m) = inr (inr m)

-- ---- paths

-- the oldest packet of a path
abbrev first_of : List Packet → Packet → Packet
first_of [] q = q
first_of (p ∷ ps) q = p

path-same : (ps rs : List Packet) (q r : Packet) → ((x : Packet) → IsIn (q ∷ ps) x → IsInRange x) → ((x : Packet) → IsIn (r ∷ rs) x → IsInRange x) → first_of ps q ≡ first_of rs r → path_text ps q ≡ path_text rs r → (ps ≡ rs) × (q ≡ r)
path-same [] [] q r k l same e = (refl, same)
path-same [] (y ∷ ys) q r k l same e =
    absurd (some-steps y ys r (append_cancel_left (location_text y.sw y.pt) [] (steps_text y ys r) (append-nil (location_text y.sw y.pt) ∙ ap (λ (z : Packet). location_text z.sw z.pt) (sym same) ∙ e)))
path-same (x ∷ xs) [] q r k l same e =
    absurd (some-steps x xs q (append_cancel_left (location_text x.sw x.pt) [] (steps_text x xs q) (append-nil (location_text x.sw x.pt) ∙ ap (λ (z : Packet). location_text z.sw z.pt) same ∙ sym e)))
path-same (x ∷ xs) (y ∷ ys) q r k l same e =
    let a = append_cancel_left (location_text x.sw x.pt) (steps_text x xs q) (steps_text x ys r) (e ∙ ap (λ (z : Packet). location_text z.sw z.pt ++ steps_text z ys r) (sym same)) in
    let b = steps-same x xs ys q r (λ z m. k z (less q x xs z m)) (λ z m. l z (less r y ys z m)) a in
    ((λ i. same i ∷ b.0 i), b.1)
  where
    less : (q x : Packet) (xs : List Packet) (z : Packet) → IsIn (q ∷ xs) z → IsIn (q ∷ x ∷ xs) z
    less q x xs z (inl d) = inl d
    less q x xs z (inr m) = inr (inr m)

-- ---- histories

first-behind : (ps : List Packet) (p q : Packet) → first_of (ps ++ p ∷ []) q ≡ first_of ps p
first-behind [] p q = refl
first-behind (x ∷ ps) p q = refl

turned : (p : Packet) (ps : List Packet) → reverse (p ∷ ps) ≡ reverse ps ++ p ∷ []
turned p ps = reverse-append (p ∷ []) ps

first-oldest : (ps : List Packet) (q : Packet) → first_of (reverse ps) q ≡ oldest_of q ps
first-oldest [] q = refl
first-oldest (p ∷ ps) q = ap (λ (xs : List Packet). first_of xs q) (turned p ps) ∙ first-behind (reverse ps) p q ∙ first-oldest ps p

in-turned : (ps : List Packet) (x : Packet) → IsIn (reverse ps) x → IsIn ps x
in-turned [] x m = m
in-turned (p ∷ ps) x m = elim (in-either (reverse ps) (p ∷ []) x (subst (λ (xs : List Packet). IsIn xs x) (turned p ps) m)) [
  | inl k ↦ inr (in-turned ps x k)
  | inr k ↦ elim k [ inl d ↦ inl d | inr n ↦ absurd n ]
]

in-path : (h : Trail) (x : Packet) → IsIn (h.newest ∷ reverse h.older) x → IsIn (packets h) x
in-path h x (inl d) = inl d
in-path h x (inr m) = inr (in-turned h.older x m)

pub tell : TextsTell
tell pk g h k l e =
    let same : first_of (reverse g.older) g.newest ≡ first_of (reverse h.older) h.newest = first-oldest g.older g.newest ∙ k.begins ∙ sym l.begins ∙ sym (first-oldest h.older h.newest) in
    let a = path-same (reverse g.older) (reverse h.older) g.newest h.newest (λ x m. k.ranged x (in-path g x m)) (λ x m. l.ranged x (in-path h x m)) same e in
    let older : g.older ≡ h.older = sym (reverse-reverse g.older) ∙ ap (λ (ps : List Packet). reverse ps) a.0 ∙ reverse-reverse h.older in
    λ i. record { newest = a.1 i; older = older i }
