-- Values that diagrams leave unnamed, and how many they name.
use Rattle.std.proofs.Common.{◌≡◌, ◌≢◌, ℕ, zero, suc, ◌+◌, ◌<◌, ◌≤◌, ◌⊎◌, inl, inr, refl, ap, sym, ◌∙◌, subst, arith, Bool, true, false, cond, eqb, ◌||◌, List, [], ◌∷◌, ◌++◌, length, append-nil, append_assoc}
use Rattle.std.proofs.lemmas.Bool.Decides.{eqb_tells}
use Rattle.nk_values.specs.declared.field.Field.{Field}
use Rattle.nk_values.specs.declared.field.Field.TheVariants.{Sw, Pt, EthTyp, IpProto, EthSrc, EthDst, Ip4Src, Ip4Dst, TcpSrcPort, TcpDstPort}
use Rattle.nk_values.specs.declared.packet.Packet.{Packet}
use Rattle.nk_values.specs.declared.lit.Lit.{Lit}
use Rattle.nk_values.specs.Held.{Holds}
use Rattle.nk_values.specs.Lits.{lit_field, lit_value}
use Rattle.nk_values.specs.Members.{IsIn, EachOnce}
use Rattle.nk_values.specs.Packets.{get, IsInRange}
use Rattle.nk_values.specs.Ranges.{place, least_value, least_literal, greatest, IsValue}
use Rattle.nk_values.specs.Ranks.{lit_eq}
use Rattle.nk_values.proofs.LitLaws.{lit_eq-Decides}
use Rattle.nk_values.proofs.MemberLaws.{in-left, in-right, in-either}
use Rattle.fdd_nodes.specs.Trees.{Tree, Leaf, Node, Tests, IsSetBy, Assigns}
use Rattle.fdd_nodes.specs.Cells.{IsFresh}
use Rattle.fdd_nodes.specs.Names.{literals_of, literals, has_lit, distinct, Gathers, AreFew, IsFreshFor}

-- a list without a number
abbrev without : ℕ → List ℕ → List ℕ
without v [] = []
without v (x ∷ xs) = cond (eqb x v) (without v xs) (x ∷ without v xs)

without_length : (v : ℕ) (xs : List ℕ) → length (without v xs) ≤ length xs
without_length v [] = omega arith
without_length v (x ∷ xs) = elim (eqb_tells x v) [
  | inl y ↦ subst (λ (b : Bool). length (cond b (without v xs) (x ∷ without v xs)) ≤ length (x ∷ xs)) (sym y.0) (let h = without_length v xs in omega (arith, h))
  | inr n ↦ subst (λ (b : Bool). length (cond b (without v xs) (x ∷ without v xs)) ≤ length (x ∷ xs)) (sym n.0) (let h = without_length v xs in omega (arith, h))
]

without_shorter : (v : ℕ) (xs : List ℕ) → IsIn xs v → length (without v xs) < length xs
without_shorter v [] h = absurd h
without_shorter v (x ∷ xs) h = elim (eqb_tells x v) [
  | inl y ↦ subst (λ (b : Bool). length (cond b (without v xs) (x ∷ without v xs)) < length (x ∷ xs)) (sym y.0) (let k = without_length v xs in omega (arith, k))
  | inr n ↦ subst (λ (b : Bool). length (cond b (without v xs) (x ∷ without v xs)) < length (x ∷ xs)) (sym n.0)
      (elim h [ inl e ↦ absurd (n.1 e) | inr m ↦ let k = without_shorter v xs m in omega (arith, k) ])
]

among_without : (v w : ℕ) (xs : List ℕ) → w ≢ v → IsIn xs w → IsIn (without v xs) w
among_without v w [] d h = h
among_without v w (x ∷ xs) d h = elim (eqb_tells x v) [
  | inl y ↦ subst (λ (b : Bool). IsIn (cond b (without v xs) (x ∷ without v xs)) w) (sym y.0)
      (elim h [ inl e ↦ absurd (d (sym e ∙ y.1)) | inr m ↦ among_without v w xs d m ])
  | inr n ↦ subst (λ (b : Bool). IsIn (cond b (without v xs) (x ∷ without v xs)) w) (sym n.0)
      (elim h [ inl e ↦ inl e | inr m ↦ inr (among_without v w xs d m) ])
]

among_dec : (v : ℕ) (xs : List ℕ) → IsIn xs v ⊎ (IsIn xs v → ⊥)
among_dec v [] = inr (λ h. h)
among_dec v (x ∷ xs) = elim (eqb_tells x v) [
  | inl y ↦ inl (inl y.1)
  | inr n ↦ elim (among_dec v xs) [ inl h ↦ inl (inr h) | inr h ↦ inr (λ k. elim k [ inl e ↦ n.1 e | inr m ↦ h m ]) ]
]

-- n numbers leave one of n + 1 free
pub free_value : (n lo : ℕ) (xs : List ℕ) → length xs ≤ n → (v : ℕ) × (lo ≤ v) × (v ≤ lo + n) × (IsIn xs v → ⊥)
free_value zero lo [] h = (lo, omega arith, omega arith, λ k. k)
free_value zero lo (x ∷ xs) h = absurd (omega (arith, h))
free_value (suc n) lo xs h = elim (among_dec (lo + suc n) xs) [
  | inr k ↦ (lo + suc n, omega arith, omega arith, k)
  | inl k ↦
      let s = without_shorter (lo + suc n) xs k in
      let r = free_value n lo (without (lo + suc n) xs) (omega (arith, h, s)) in
      (r.0, r.1, omega (arith, r.2), λ m. r.3 (among_without (lo + suc n) r.0 xs (λ e. omega (arith, r.2, e)) m))
]

-- the values that are named at a field
abbrev pub values_at : Field → List Lit → List ℕ
values_at f [] = []
values_at f (l ∷ ls) = cond (eqb (place (lit_field l)) (place f)) (lit_value l ∷ values_at f ls) (values_at f ls)

pub values_length : (f : Field) (ls : List Lit) → length (values_at f ls) ≤ length ls
values_length f [] = omega arith
values_length f (l ∷ ls) = elim (eqb_tells (place (lit_field l)) (place f)) [
  | inl y ↦ subst (λ (b : Bool). length (cond b (lit_value l ∷ values_at f ls) (values_at f ls)) ≤ length (l ∷ ls)) (sym y.0) (let h = values_length f ls in omega (arith, h))
  | inr n ↦ subst (λ (b : Bool). length (cond b (lit_value l ∷ values_at f ls) (values_at f ls)) ≤ length (l ∷ ls)) (sym n.0) (let h = values_length f ls in omega (arith, h))
]

pub among_values : (ls : List Lit) (m : Lit) → IsIn ls m → IsIn (values_at (lit_field m) ls) (lit_value m)
among_values [] m h = absurd h
among_values (l ∷ ls) m h = elim (eqb_tells (place (lit_field l)) (place (lit_field m))) [
  | inl y ↦ subst (λ (b : Bool). IsIn (cond b (lit_value l ∷ values_at (lit_field m) ls) (values_at (lit_field m) ls)) (lit_value m)) (sym y.0)
      (elim h [ inl e ↦ inl (ap (λ (z : Lit). lit_value z) e) | inr k ↦ inr (among_values ls m k) ])
  | inr n ↦ subst (λ (b : Bool). IsIn (cond b (lit_value l ∷ values_at (lit_field m) ls) (values_at (lit_field m) ls)) (lit_value m)) (sym n.0)
      (elim h [ inl e ↦ absurd (n.1 (ap (λ (z : Lit). place (lit_field z)) e)) | inr k ↦ among_values ls m k ])
]

-- at each field either the least value is no literal, or 4,001 values are there
pub room : (f : Field) → (least_value f < least_literal f) ⊎ (least_value f + 4000 ≤ greatest f)
room Sw = inr (omega arith)
room Pt = inr (omega arith)
room EthTyp = inr (omega arith)
room IpProto = inl (omega arith)
room EthSrc = inr (omega arith)
room EthDst = inr (omega arith)
room Ip4Src = inr (omega arith)
room Ip4Dst = inr (omega arith)
room TcpSrcPort = inr (omega arith)
room TcpDstPort = inr (omega arith)

pub least-greatest : (f : Field) → least_value f ≤ greatest f
least-greatest Sw = omega arith
least-greatest Pt = omega arith
least-greatest EthTyp = omega arith
least-greatest IpProto = omega arith
least-greatest EthSrc = omega arith
least-greatest EthDst = omega arith
least-greatest Ip4Src = omega arith
least-greatest Ip4Dst = omega arith
least-greatest TcpSrcPort = omega arith
least-greatest TcpDstPort = omega arith

-- the values that are looked through end before the type number of a tag
pub is_value : (f : Field) (n : ℕ) → least_value f ≤ n → n ≤ least_value f + 4000 → n ≤ greatest f → IsValue f n
is_value f n l u g = record {
  low = l;
  high = g;
  no_tag = λ e z. let b : n ≤ least_value EthTyp + 4000 = subst (λ (k : Field). n ≤ least_value k + 4000) e u in omega (arith, b, z);
}

record Free (f : Field) (ls : List Lit) : Type 0 where
  value : ℕ
  in_range : IsValue f value
  missing : (m : Lit) → lit_field m ≡ f → IsIn ls m → value ≢ lit_value m

free_at : (f : Field) (ls : List Lit) → length ls ≤ 4000 → Free f ls
free_at f ls h = elim (room f) [
  | inl k ↦ record {
    value = least_value f;
    in_range = is_value f (least_value f) (omega arith) (omega arith) (least-greatest f);
    missing = λ m e a z. let r : least_literal f ≤ lit_value m = subst (λ (g : Field). least_literal g ≤ lit_value m) e m.literal.low in omega (arith, r, z, k);
  }
  | inr k ↦
      let r = free_value 4000 (least_value f) (values_at f ls) (let w = values_length f ls in omega (arith, w, h)) in
      record {
        value = r.0;
        in_range = is_value f r.0 r.1 r.2 (omega (arith, r.2, k));
        missing = λ m e a z. r.3 (subst (λ (x : ℕ). IsIn (values_at f ls) x) (sym z) (subst (λ (g : Field). IsIn (values_at g ls) (lit_value m)) e (among_values ls m a)));
      }
]

-- a packet in range with none of the literals
pub record Avoids (ls : List Lit) : Type 0 where
  pub packet : Packet
  pub in_range : IsInRange packet
  pub missing : (m : Lit) → IsIn ls m → ¬ Holds packet m

abbrev packet_of : (Field → ℕ) → Packet
packet_of v = record {
  sw = v Sw;
  pt = v Pt;
  header = record {
    eth_typ = v EthTyp;
    ip_proto = v IpProto;
    eth_src = v EthSrc;
    eth_dst = v EthDst;
    ip4_src = v Ip4Src;
    ip4_dst = v Ip4Dst;
    tcp_src_port = v TcpSrcPort;
    tcp_dst_port = v TcpDstPort;
  };
}

get-packet_of : (v : Field → ℕ) (f : Field) → get (packet_of v) f ≡ v f
get-packet_of v Sw = refl
get-packet_of v Pt = refl
get-packet_of v EthTyp = refl
get-packet_of v IpProto = refl
get-packet_of v EthSrc = refl
get-packet_of v EthDst = refl
get-packet_of v Ip4Src = refl
get-packet_of v Ip4Dst = refl
get-packet_of v TcpSrcPort = refl
get-packet_of v TcpDstPort = refl

pub avoids : (ls : List Lit) → length ls ≤ 4000 → Avoids ls
avoids ls h =
    let v = λ (f : Field). (free_at f ls h).value in
    record {
      packet = packet_of v;
      in_range = λ f. subst (IsValue f) (sym (get-packet_of v f)) (free_at f ls h).in_range;
      missing = λ m a z. (free_at (lit_field m) ls h).missing m refl a (sym (get-packet_of v (lit_field m)) ∙ z);
    }

-- what is named stands among the literals, and among the distinct ones

told : (b : Bool) → (b ≡ true) ⊎ (b ≡ false)
told true = inl refl
told false = inr refl

has_lit_true : (l : Lit) (ls : List Lit) → has_lit l ls ≡ true → IsIn ls l
has_lit_true l [] h = absurd (let k : false ≡ true = h in cc)
has_lit_true l (m ∷ ms) h = elim (told (lit_eq l m)) [
  | inl e ↦ inl (sym ((lit_eq-Decides l m).0 e))
  | inr e ↦ inr (has_lit_true l ms (subst (λ (b : Bool). (b || has_lit l ms) ≡ true) e h))
]

pub among_distinct : (ls : List Lit) (m : Lit) → IsIn ls m → IsIn (distinct ls) m
among_distinct [] m h = h
among_distinct (l ∷ ls) m h = elim (told (has_lit l ls)) [
  | inl e ↦ subst (λ (b : Bool). IsIn (cond b (distinct ls) (l ∷ distinct ls)) m) (sym e)
      (elim h [ inl k ↦ among_distinct ls m (subst (λ (z : Lit). IsIn ls z) k (has_lit_true l ls e)) | inr k ↦ among_distinct ls m k ])
  | inr e ↦ subst (λ (b : Bool). IsIn (cond b (distinct ls) (l ∷ distinct ls)) m) (sym e)
      (elim h [ inl k ↦ inl k | inr k ↦ inr (among_distinct ls m k) ])
]

assigned_literal : (cs : List (List Lit)) (m : Lit) → IsSetBy cs m → IsIn (literals_of cs) m
assigned_literal [] m h = absurd h
assigned_literal (c ∷ cs) m (inl h) = in-left c (literals_of cs) m h
assigned_literal (c ∷ cs) m (inr h) = in-right c (literals_of cs) m (assigned_literal cs m h)

pub tests_literal : (t : Tree) (m : Lit) → Tests t m → IsIn (literals t) m
tests_literal (Leaf cs) m h = absurd h
tests_literal (Node l t e) m (inl k) = inl k
tests_literal (Node l t e) m (inr (inl k)) = inr (in-left (literals t) (literals e) m (tests_literal t m k))
tests_literal (Node l t e) m (inr (inr k)) = inr (in-right (literals t) (literals e) m (tests_literal e m k))

pub assigns_literal : (t : Tree) (m : Lit) → Assigns t m → IsIn (literals t) m
assigns_literal (Leaf cs) m h = assigned_literal cs m h
assigns_literal (Node l t e) m (inl k) = inr (in-left (literals t) (literals e) m (assigns_literal t m k))
assigns_literal (Node l t e) m (inr k) = inr (in-right (literals t) (literals e) m (assigns_literal e m k))

-- few values leave a fresh packet
pub fresh_packet : (a b : Tree) → AreFew a b → (g : Packet) × IsFreshFor a b g
fresh_packet a b h =
    let ls = literals a ++ literals b in
    let r = avoids (distinct ls) h.bound in (
      r.packet,
      record {
        in_range = r.in_range;
        fresh_a = record { tested = λ m k. r.missing m (among_distinct ls m (in-left _ _ m (tests_literal a m k))); assigned = λ m k. r.missing m (among_distinct ls m (in-left _ _ m (assigns_literal a m k))) };
        fresh_b = record { tested = λ m k. r.missing m (among_distinct ls m (in-right _ _ m (tests_literal b m k))); assigned = λ m k. r.missing m (among_distinct ls m (in-right _ _ m (assigns_literal b m k))) };
      },
    )

-- one diagram
pub fresh_of_one : (a : Tree) → length (distinct (literals a)) ≤ 4000 → (g : Packet) × IsInRange g × IsFresh g a
fresh_of_one a h =
    let r = avoids (distinct (literals a)) h in (
      r.packet,
      r.in_range,
      record {
        tested = λ m k. r.missing m (among_distinct (literals a) m (tests_literal a m k));
        assigned = λ m k. r.missing m (among_distinct (literals a) m (assigns_literal a m k));
      },
    )

-- the count of distinct literals

distinct_among : (ls : List Lit) (m : Lit) → IsIn (distinct ls) m → IsIn ls m
distinct_among [] m h = h
distinct_among (l ∷ ls) m h = elim (told (has_lit l ls)) [
  | inl e ↦ inr (distinct_among ls m (subst (λ (b : Bool). IsIn (cond b (distinct ls) (l ∷ distinct ls)) m) e h))
  | inr e ↦
      let h' : IsIn (l ∷ distinct ls) m = subst (λ (b : Bool). IsIn (cond b (distinct ls) (l ∷ distinct ls)) m) e h in
      elim h' [ inl k ↦ inl k | inr k ↦ inr (distinct_among ls m k) ]
]

among_has : (l : Lit) (ls : List Lit) → IsIn ls l → has_lit l ls ≡ true
among_has l [] h = absurd h
among_has l (m ∷ ms) h = elim (told (lit_eq l m)) [
  | inl e ↦ ap (λ b. b || has_lit l ms) e
  | inr e ↦ elim h [
    | inl k ↦ absurd (let w : false ≡ true = sym e ∙ (lit_eq-Decides l m).1 (sym k) in cc)
    | inr k ↦ ap (λ b. b || has_lit l ms) e ∙ among_has l ms k
  ]
]

distinct_once : (ls : List Lit) → EachOnce (distinct ls)
distinct_once [] = tt
distinct_once (l ∷ ls) = elim (told (has_lit l ls)) [
  | inl e ↦ subst (λ (b : Bool). EachOnce (cond b (distinct ls) (l ∷ distinct ls))) (sym e) (distinct_once ls)
  | inr e ↦ subst (λ (b : Bool). EachOnce (cond b (distinct ls) (l ∷ distinct ls))) (sym e)
      ((λ y k s. let w : false ≡ true = sym e ∙ among_has l ls (distinct_among ls l (subst (λ (z : Lit). IsIn (distinct ls) z) (sym s) k)) in cc), distinct_once ls)
]

-- a list without a literal
abbrev lacking : Lit → List Lit → List Lit
lacking v [] = []
lacking v (x ∷ xs) = cond (lit_eq x v) (lacking v xs) (x ∷ lacking v xs)

lacking_length : (v : Lit) (xs : List Lit) → length (lacking v xs) ≤ length xs
lacking_length v [] = omega arith
lacking_length v (x ∷ xs) = elim (told (lit_eq x v)) [
  | inl y ↦ subst (λ (b : Bool). length (cond b (lacking v xs) (x ∷ lacking v xs)) ≤ length (x ∷ xs)) (sym y) (let h = lacking_length v xs in omega (arith, h))
  | inr n ↦ subst (λ (b : Bool). length (cond b (lacking v xs) (x ∷ lacking v xs)) ≤ length (x ∷ xs)) (sym n) (let h = lacking_length v xs in omega (arith, h))
]

lacking_shorter : (v : Lit) (xs : List Lit) → IsIn xs v → length (lacking v xs) < length xs
lacking_shorter v [] h = absurd h
lacking_shorter v (x ∷ xs) h = elim (told (lit_eq x v)) [
  | inl y ↦ subst (λ (b : Bool). length (cond b (lacking v xs) (x ∷ lacking v xs)) < length (x ∷ xs)) (sym y) (let k = lacking_length v xs in omega (arith, k))
  | inr n ↦ subst (λ (b : Bool). length (cond b (lacking v xs) (x ∷ lacking v xs)) < length (x ∷ xs)) (sym n)
      (elim h [ inl e ↦ absurd (let w : false ≡ true = sym n ∙ (lit_eq-Decides x v).1 e in cc) | inr m ↦ let k = lacking_shorter v xs m in omega (arith, k) ])
]

among_lacking : (v w : Lit) (xs : List Lit) → w ≢ v → IsIn xs w → IsIn (lacking v xs) w
among_lacking v w [] d h = h
among_lacking v w (x ∷ xs) d h = elim (told (lit_eq x v)) [
  | inl y ↦ subst (λ (b : Bool). IsIn (cond b (lacking v xs) (x ∷ lacking v xs)) w) (sym y)
      (elim h [ inl e ↦ absurd (d (sym e ∙ (lit_eq-Decides x v).0 y)) | inr m ↦ among_lacking v w xs d m ])
  | inr n ↦ subst (λ (b : Bool). IsIn (cond b (lacking v xs) (x ∷ lacking v xs)) w) (sym n)
      (elim h [ inl e ↦ inl e | inr m ↦ inr (among_lacking v w xs d m) ])
]

-- what has no literal twice is no longer than what has all of them
pub once_shorter : (xs ys : List Lit) → EachOnce xs → ((m : Lit) → IsIn xs m → IsIn ys m) → length xs ≤ length ys
once_shorter [] ys o h = omega arith
once_shorter (x ∷ xs) ys o h =
    let s = lacking_shorter x ys (h x (inl refl)) in
    let r = once_shorter xs (lacking x ys) o.1 (λ m k. among_lacking x m ys (λ e. o.0 m k (sym e)) (h m (inr k))) in
    omega (arith, s, r)

-- what names no more is counted no higher
pub count_within : (xs ys : List Lit) → ((m : Lit) → IsIn xs m → IsIn ys m) → length (distinct xs) ≤ length (distinct ys)
count_within xs ys h = once_shorter (distinct xs) (distinct ys) (distinct_once xs) (λ m k. among_distinct ys m (h m (distinct_among xs m k)))

named_lists : (cs : List (List Lit)) (m : Lit) → IsIn (literals_of cs) m → IsSetBy cs m
named_lists [] m h = absurd h
named_lists (c ∷ cs) m h = elim (in-either c (literals_of cs) m h) [ inl k ↦ inl k | inr k ↦ inr (named_lists cs m k) ]

pub named : (t : Tree) (m : Lit) → IsIn (literals t) m → Tests t m ⊎ Assigns t m
named (Leaf cs) m h = inr (named_lists cs m h)
named (Node l t e) m (inl k) = inl (inl k)
named (Node l t e) m (inr h) = elim (in-either (literals t) (literals e) m h) [
  | inl k ↦ elim (named t m k) [ inl w ↦ inl (inr (inl w)) | inr w ↦ inr (inl w) ]
  | inr k ↦ elim (named e m k) [ inl w ↦ inl (inr (inr w)) | inr w ↦ inr (inr w) ]
]

-- what tests and assigns no more than a and b do names no more
pub few_of_both : (a b r : Tree) → ((m : Lit) → Tests r m → Tests a m ⊎ Tests b m) → ((m : Lit) → Assigns r m → Assigns a m ⊎ Assigns b m) → AreFew a b → length (distinct (literals r)) ≤ 4000
few_of_both a b r ht ha h =
    let k = count_within (literals r) (literals a ++ literals b) (λ m w. elim (named r m w) [
      | inl x ↦ elim (ht m x) [ inl y ↦ in-left _ _ m (tests_literal a m y) | inr y ↦ in-right (literals a) _ m (tests_literal b m y) ]
      | inr x ↦ elim (ha m x) [ inl y ↦ in-left _ _ m (assigns_literal a m y) | inr y ↦ in-right (literals a) _ m (assigns_literal b m y) ]
    ]) in
    omega (arith, k, h.bound)

-- literals gathered one list after another

pub gathers_none : (ls : List Lit) → Gathers [] ls ls
gathers_none ls = record { kept = λ m k. k; has = λ m k. absurd k; only = λ m k. inl k; once = λ o. o }

pub gathers_there : (l : Lit) (ls : List Lit) → IsIn ls l → Gathers (l ∷ []) ls ls
gathers_there l ls h = record {
  kept = λ m k. k;
  has = λ m k. elim k [ inl e ↦ subst (λ (z : Lit). IsIn ls z) e h | inr n ↦ absurd n ];
  only = λ m k. inl k;
  once = λ o. o;
}

once_more : (ls : List Lit) (l : Lit) → EachOnce ls → (¬ IsIn ls l) → EachOnce (ls ++ l ∷ [])
once_more [] l o n = ((λ y k. absurd k), tt)
once_more (x ∷ ls) l o n = (
  (λ y k. elim (in-either ls (l ∷ []) y k) [ inl h ↦ o.0 y h | inr h ↦ elim h [ inl e ↦ (λ s. n (inl (s ∙ sym e))) | inr z ↦ absurd z ] ]),
  once_more ls l o.1 (λ k. n (inr k)),
)

pub gathers_one : (l : Lit) (ls : List Lit) → (¬ IsIn ls l) → Gathers (l ∷ []) ls (ls ++ l ∷ [])
gathers_one l ls n = record {
  kept = λ m k. in-left ls (l ∷ []) m k;
  has = λ m k. in-right ls (l ∷ []) m k;
  only = λ m k. in-either ls (l ∷ []) m k;
  once = λ o. once_more ls l o n;
}

pub gathers_both : (xs ys us vs ws : List Lit) → Gathers xs us vs → Gathers ys vs ws → Gathers (xs ++ ys) us ws
gathers_both xs ys us vs ws g h = record {
  kept = λ m k. h.kept m (g.kept m k);
  has = λ m k. elim (in-either xs ys m k) [ inl x ↦ h.kept m (g.has m x) | inr y ↦ h.has m y ];
  only = λ m k. elim (h.only m k) [
    | inl b ↦ elim (g.only m b) [ inl a ↦ inl a | inr x ↦ inr (in-left xs ys m x) ]
    | inr y ↦ inr (in-right xs ys m y)
  ];
  once = λ o. h.once (g.once o);
}

-- what is gathered from nothing is as long as the distinct literals
pub gathered_length : (ls ns : List Lit) → Gathers ls [] ns → length ns ≡ length (distinct ls)
gathered_length ls ns g =
    let a = once_shorter ns (distinct ls) (g.once tt) (λ m k. elim (g.only m k) [ inl z ↦ absurd z | inr h ↦ among_distinct ls m h ]) in
    let b = once_shorter (distinct ls) ns (distinct_once ls) (λ m k. g.has m (distinct_among ls m k)) in
    omega (arith, a, b)

pub literals_of-push : (cs : List (List Lit)) (c : List Lit) → literals_of (cs ++ c ∷ []) ≡ literals_of cs ++ c
literals_of-push [] c = append-nil c
literals_of-push (d ∷ cs) c = ap (λ (x : List Lit). d ++ x) (literals_of-push cs c) ∙ sym (append_assoc d (literals_of cs) c)

-- where a list is gathered and one more after it, in the forms in which walks meet them
pub gathers_next : (xs rest : List Lit) (l : Lit) (us vs ws : List Lit) → rest ≡ xs ++ l ∷ [] → Gathers xs us vs → Gathers (l ∷ []) vs ws → Gathers rest us ws
gathers_next xs rest l us vs ws e g h = subst (λ (ls : List Lit). Gathers ls us ws) (sym e) (gathers_both xs (l ∷ []) us vs ws g h)

pub gathers_next_copy : (cs rest : List (List Lit)) (c : List Lit) (us vs ws : List Lit) → rest ≡ cs ++ c ∷ [] → Gathers (literals_of cs) us vs → Gathers c vs ws → Gathers (literals_of rest) us ws
gathers_next_copy cs rest c us vs ws e g h =
    subst (λ (ls : List Lit). Gathers ls us ws) (sym (ap literals_of e ∙ literals_of-push cs c)) (gathers_both (literals_of cs) c us vs ws g h)

pub gathers_test : (l : Lit) (t e : Tree) (us vs ws xs : List Lit) → Gathers (l ∷ []) us vs → Gathers (literals t) vs ws → Gathers (literals e) ws xs → Gathers (literals (Node l t e)) us xs
gathers_test l t e us vs ws xs g h k = gathers_both (l ∷ []) (literals t ++ literals e) us vs xs g (gathers_both (literals t) (literals e) vs ws xs h k)

-- the literals of two diagrams, gathered
pub gathers_pair : (a b x y : Tree) (us vs ws : List Lit) → x ≡ a → y ≡ b → Gathers (literals x) us vs → Gathers (literals y) vs ws → Gathers (literals a ++ literals b) us ws
gathers_pair a b x y us vs ws ea eb g h =
    gathers_both (literals a) (literals b) us vs ws (subst (λ (t : Tree). Gathers (literals t) us vs) ea g) (subst (λ (t : Tree). Gathers (literals t) vs ws) eb h)
