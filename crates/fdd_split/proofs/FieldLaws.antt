-- Threats of a leaf, by the field of their literal.
use Rattle.std.specs.Prelude.{◌↔◌, IsTrue, get_or}
use Rattle.std.proofs.Common.{◌≡◌, ◌<◌, ◌+◌, ℕ, zero, suc, ◌⊎◌, inl, inr, refl, sym, ◌∙◌, ap, subst, arith, Bool, true, false, List, [], ◌∷◌, ◌++◌, length, take, Option, Some, None}
use Rattle.std.proofs.lemmas.List.{take_more}
use Rattle.nk_values.specs.declared.field.Field.{Field}
use Rattle.nk_values.specs.declared.field.Field.TheVariants.{Sw, Pt, EthTyp, IpProto, EthSrc, EthDst, Ip4Src, Ip4Dst, TcpSrcPort, TcpDstPort}
use Rattle.nk_values.specs.declared.lit.Lit.{Lit}
use Rattle.nk_values.specs.Lits.{lit_field}
use Rattle.nk_values.specs.Members.{IsIn}
use Rattle.nk_values.specs.Ranges.{place}
use Rattle.nk_values.proofs.MemberLaws.{in-left, in-right, in-either}
use Rattle.fdd_nodes.specs.Copies.{IsCopy, IsCopyFrom}
use Rattle.fdd_nodes.specs.Trees.{Tree, Leaf, IsSetBy}
use Rattle.fdd_store.specs.Digests.{SetsField}
use Rattle.fdd_store.specs.Canonical.{IsCanonical, AreProper}
use Rattle.fdd_split.specs.declared.bars.Bar.{Bar}
use Rattle.fdd_split.specs.Bars.{SomeBars}
use Rattle.fdd_split.specs.Pairs.{FieldThreat, Meets, MeetsSome, IsBefore, IsCandidate, IsFirstOf, IsFirstWith}
use Rattle.fdd_split.specs.Threats.{Threat, KeepsField}
use Rattle.fdd_split.proofs.CopyLaws.{behind_leaves, held}
use Rattle.fdd_split.proofs.FirstLaws.{first_as, first_stays, first_moves, first_found}

-- one element more is taken
pub next_taken : {X : Type 0} (xs : List X) (i : ℕ) (x : X) → i < length xs → x ≡ get_or xs i x → take (i + 1) xs ≡ take i xs ++ x ∷ []
next_taken xs i x h e = take_more xs i x h ∙ ap (λ y. take i xs ++ y ∷ []) (sym e)

pub taken_in : {X : Type 0} (xs : List X) (i : ℕ) (x : X) → i < length xs → x ≡ get_or xs i x → IsIn xs x
taken_in [] i x h e = absurd (omega (arith, h))
taken_in (y ∷ xs) zero x h e = inl (sym e)
taken_in (y ∷ xs) (suc i) x h e = inr (taken_in xs i x (omega (arith, h)) e)

pub denied : {P : Type 0} (b : Bool) → (P → IsTrue b) → b ≡ false → ¬ P
denied b h e p = let w : true ≡ false = sym (h p) ∙ e in cc

-- a copy assigns one literal of a field
pub one_set : (c : List Lit) (k : ℕ) (x l : Lit) → IsCopyFrom k c → IsIn c x → IsIn c l → lit_field x ≡ lit_field l → x ≡ l
one_set [] k x l o i j e = absurd i
one_set (m ∷ c) k x l o (inl a) (inl b) e = sym a ∙ b
one_set (m ∷ c) k x l o (inl a) (inr j) e =
    absurd (behind_leaves m c (place (lit_field m) + 1) (omega arith) o.1 l j (sym e ∙ ap lit_field (sym a)))
one_set (m ∷ c) k x l o (inr i) (inl b) e =
    absurd (behind_leaves m c (place (lit_field m) + 1) (omega arith) o.1 x i (e ∙ ap lit_field (sym b)))
one_set (m ∷ c) k x l o (inr i) (inr j) e = one_set c (place (lit_field m) + 1) x l o.1 i j e

-- a threat of a leaf, whose field is one of these
pub record LeafThreat (k : List Bar) (cs : List (List Lit)) (fs : List Field) (x : Lit) : Type 0 where
  pub threat : Threat k (Leaf cs) x
  pub among : IsIn fs (lit_field x)

to_leaf : (k : List Bar) (cs : List (List Lit)) (f : Field) (x : Lit) → FieldThreat k cs cs f x → Threat k (Leaf cs) x
to_leaf k cs f x t = record {
  packet = t.meets.packet;
  clear = t.meets.clear;
  one = t.one;
  other = t.other;
  has_one = t.among;
  has_other = t.has_other;
  same = t.meets.same;
  alone = inl (t.sets, subst (λ (g : Field). KeepsField t.other g) (sym t.field) t.keeps);
}

of_leaf : (k : List Bar) (cs : List (List Lit)) (f : Field) (x : Lit) → lit_field x ≡ f → Threat k (Leaf cs) x → FieldThreat k cs cs f x
of_leaf k cs f x e t = elim t.alone [
  | inl a ↦ record {
    one = t.one;
    among = t.has_one;
    sets = a.0;
    field = e;
    other = t.other;
    has_other = t.has_other;
    keeps = subst (λ (g : Field). KeepsField t.other g) e a.1;
    meets = record { packet = t.packet; clear = t.clear; same = t.same };
  }
  | inr a ↦ record {
    one = t.other;
    among = t.has_other;
    sets = a.0;
    field = e;
    other = t.one;
    has_other = t.has_one;
    keeps = subst (λ (g : Field). KeepsField t.one g) e a.1;
    meets = record { packet = t.packet; clear = t.clear; same = sym t.same };
  }
]

pub no_field : (k : List Bar) (cs : List (List Lit)) → IsFirstOf (LeafThreat k cs []) None
no_field k cs = λ x t. t.among

-- one field more
pub field_more : (k : List Bar) (cs : List (List Lit)) (fs gs : List Field) (f : Field) (o : Option Lit) → gs ≡ fs ++ f ∷ [] → IsFirstOf (λ x. LeafThreat k cs fs x ⊎ FieldThreat k cs cs f x) o → IsFirstOf (LeafThreat k cs gs) o
field_more k cs fs gs f o e h = subst (λ (z : List Field). IsFirstOf (LeafThreat k cs z) o) (sym e)
    (first_as (λ x. LeafThreat k cs fs x ⊎ FieldThreat k cs cs f x) (LeafThreat k cs (fs ++ f ∷ [])) o
    (λ x v. elim v [
      | inl t ↦ record { threat = t.threat; among = in-left fs (f ∷ []) (lit_field x) t.among }
      | inr t ↦ record { threat = to_leaf k cs f x t; among = in-right fs (f ∷ []) (lit_field x) (inl (sym t.field)) }
    ])
    (λ x t. elim (in-either fs (f ∷ []) (lit_field x) t.among) [
      | inl i ↦ inl (record { threat = t.threat; among = i })
      | inr i ↦ elim i [ inl s ↦ inr (of_leaf k cs f x (sym s) t.threat) | inr b ↦ absurd b ]
    ])
    h)

pub leaf_copies : (a : Tree) (cs : List (List Lit)) → IsCanonical a → a ≡ Leaf cs → (c : List Lit) → IsIn cs c → IsCopy c
leaf_copies a cs made is = (subst (λ (z : Tree). AreProper z) is made.proper).copies

set_by : (cs : List (List Lit)) (c : List Lit) (x : Lit) → IsIn cs c → IsIn c x → IsSetBy cs x
set_by [] c x i j = absurd i
set_by (d ∷ cs) c x (inl e) j = inl (subst (λ (z : List Lit). IsIn z x) (sym e) j)
set_by (d ∷ cs) c x (inr i) j = inr (set_by cs c x i j)

-- a field that the leaf does not assign
pub field_unset : (k : List Bar) (a : Tree) (cs : List (List Lit)) (fs gs : List Field) (f : Field) (o : Option Lit) → a ≡ Leaf cs → ¬ SetsField a f → gs ≡ fs ++ f ∷ [] → IsFirstOf (LeafThreat k cs fs) o → IsFirstOf (LeafThreat k cs gs) o
field_unset k a cs fs gs f o is n e h =
    field_more k cs fs gs f o e
    (first_stays (LeafThreat k cs fs) (FieldThreat k cs cs f) (λ x. LeafThreat k cs fs x ⊎ FieldThreat k cs cs f x) o
    (λ x t. inl t) (λ x v. v) h
    (λ x t b. n (subst (λ (z : Tree). SetsField z f) (sym is) (record { lit = x; assigned = set_by cs t.one x t.among t.sets; field = t.field }))))

abbrev pub fields : List Field
fields = Sw ∷ Pt ∷ EthTyp ∷ IpProto ∷ EthSrc ∷ EthDst ∷ Ip4Src ∷ Ip4Dst ∷ TcpSrcPort ∷ TcpDstPort ∷ []

pub every_field : (f : Field) → IsIn fields f
every_field Sw = inl refl
every_field Pt = inr (inl refl)
every_field EthTyp = inr (inr (inl refl))
every_field IpProto = inr (inr (inr (inl refl)))
every_field EthSrc = inr (inr (inr (inr (inl refl))))
every_field EthDst = inr (inr (inr (inr (inr (inl refl)))))
every_field Ip4Src = inr (inr (inr (inr (inr (inr (inl refl))))))
every_field Ip4Dst = inr (inr (inr (inr (inr (inr (inr (inl refl)))))))
every_field TcpSrcPort = inr (inr (inr (inr (inr (inr (inr (inr (inl refl))))))))
every_field TcpDstPort = inr (inr (inr (inr (inr (inr (inr (inr (inr (inl refl)))))))))

pub each_field : (k : List Bar) (cs : List (List Lit)) (fs : List Field) (o : Option Lit) → ((f : Field) → IsIn fs f) → IsFirstOf (LeafThreat k cs fs) o → IsFirstOf (Threat k (Leaf cs)) o
each_field k cs fs o every h =
    first_as (LeafThreat k cs fs) (Threat k (Leaf cs)) o (λ x t. t.threat) (λ x t. record { threat = t; among = every (lit_field x) }) h

-- no literal of a threat is barred
pub field_free : (k : List Bar) (cs ds : List (List Lit)) (f : Field) (x : Lit) → ((c : List Lit) → IsIn cs c → IsCopy c) → ((d : List Lit) → IsIn ds d → IsCopy d) → FieldThreat k cs ds f x → ¬ SomeBars k x
field_free k cs ds f x hc hd t b =
    t.meets.clear x b (held t.one t.other t.meets.packet x (hc t.one t.among) (hd t.other t.has_other) t.meets.same
    (inl (t.sets, subst (λ (g : Field). KeepsField t.other g) (sym t.field) t.keeps)))

-- with no candidate, what was found stays the first
pub no_candidate : (k : List Bar) (cs : List (List Lit)) (f : Field) (found : Option Lit) → ((c : List Lit) → IsIn cs c → IsCopy c) → ((c : List Lit) → IsIn cs c → (x : Lit) → IsIn c x → lit_field x ≡ f → ¬ IsCandidate k x found) → IsFirstWith found (FieldThreat k cs cs f) found
no_candidate k cs f found copies none =
    first_stays (λ x. found ≡ Some x) (FieldThreat k cs cs f) (λ x. (found ≡ Some x) ⊎ FieldThreat k cs cs f x) found
    (λ x t. inl t) (λ x v. v) (first_found found)
    (λ x t b. none t.one t.among x t.sets t.field (b, field_free k cs cs f x copies copies t))

-- with no copy that leaves the field too
pub no_keepers : (k : List Bar) (cs ds : List (List Lit)) (f : Field) (found : Option Lit) → length ds ≡ 0 → IsFirstWith found (FieldThreat k cs ds f) found
no_keepers k cs [] f found e =
    first_stays (λ x. found ≡ Some x) (FieldThreat k cs [] f) (λ x. (found ≡ Some x) ⊎ FieldThreat k cs [] f x) found
    (λ x t. inl t) (λ x v. v) (first_found found) (λ x t b. t.has_other)
no_keepers k cs (d ∷ ds) f found e = absurd (omega (arith, e))

abbrev pub AreKeepers : List (List Lit) → List (List Lit) → Field → Type 0
AreKeepers cs ds f = (d : List Lit) → IsIn ds d ↔ (IsIn cs d × KeepsField d f)

pub keeper_added : (cs ds : List (List Lit)) (c : List Lit) (f : Field) → KeepsField c f → AreKeepers cs ds f → AreKeepers (cs ++ c ∷ []) (ds ++ c ∷ []) f
keeper_added cs ds c f k h d = (
  λ i. elim (in-either ds (c ∷ []) d i) [
    | inl a ↦ (in-left cs (c ∷ []) d ((h d).0 a).0, ((h d).0 a).1)
    | inr a ↦ elim a [ inl e ↦ (in-right cs (c ∷ []) d (inl e), subst (λ (z : List Lit). KeepsField z f) e k) | inr b ↦ absurd b ]
  ],
  λ p. elim (in-either cs (c ∷ []) d p.0) [
    | inl a ↦ in-left ds (c ∷ []) d ((h d).1 (a, p.1))
    | inr a ↦ in-right ds (c ∷ []) d a
  ],
)

pub keeper_left : (cs ds : List (List Lit)) (c : List Lit) (f : Field) → ¬ KeepsField c f → AreKeepers cs ds f → AreKeepers (cs ++ c ∷ []) ds f
keeper_left cs ds c f n h d = (
  λ i. (in-left cs (c ∷ []) d ((h d).0 i).0, ((h d).0 i).1),
  λ p. elim (in-either cs (c ∷ []) d p.0) [
    | inl a ↦ (h d).1 (a, p.1)
    | inr a ↦ elim a [ inl e ↦ absurd (n (subst (λ (z : List Lit). KeepsField z f) (sym e) p.1)) | inr b ↦ absurd b ]
  ],
)

-- those that leave the field are all that count
pub of_keepers : (k : List Bar) (cs ds : List (List Lit)) (f : Field) (found o : Option Lit) → ((d : List Lit) → IsIn ds d → IsIn cs d × KeepsField d f) → ((d : List Lit) → IsIn cs d × KeepsField d f → IsIn ds d) → IsFirstWith found (FieldThreat k cs ds f) o → IsFirstWith found (FieldThreat k cs cs f) o
of_keepers k cs ds f found o to of h =
    first_as (λ x. (found ≡ Some x) ⊎ FieldThreat k cs ds f x) (λ x. (found ≡ Some x) ⊎ FieldThreat k cs cs f x) o
    (λ x v. elim v [
      | inl e ↦ inl e
      | inr t ↦ inr (record { one = t.one; among = t.among; sets = t.sets; field = t.field; other = t.other; has_other = (to t.other t.has_other).0; keeps = t.keeps; meets = t.meets })
    ])
    (λ x v. elim v [
      | inl e ↦ inl e
      | inr t ↦ inr (record { one = t.one; among = t.among; sets = t.sets; field = t.field; other = t.other; has_other = of t.other (t.has_other, t.keeps); keeps = t.keeps; meets = t.meets })
    ])
    h

more : (k : List Bar) (cs ds : List (List Lit)) (c : List Lit) (f : Field) (found : Option Lit) (x : Lit) → (found ≡ Some x) ⊎ FieldThreat k cs ds f x → (found ≡ Some x) ⊎ FieldThreat k (cs ++ c ∷ []) ds f x
more k cs ds c f found x (inl e) = inl e
more k cs ds c f found x (inr t) =
    inr (record { one = t.one; among = in-left cs (c ∷ []) t.one t.among; sets = t.sets; field = t.field; other = t.other; has_other = t.has_other; keeps = t.keeps; meets = t.meets })

less : (k : List Bar) (cs ds : List (List Lit)) (c : List Lit) (f : Field) (found : Option Lit) (x : Lit) → (found ≡ Some x) ⊎ FieldThreat k (cs ++ c ∷ []) ds f x → ((found ≡ Some x) ⊎ FieldThreat k cs ds f x) ⊎ FieldThreat k (c ∷ []) ds f x
less k cs ds c f found x (inl e) = inl (inl e)
less k cs ds c f found x (inr t) = elim (in-either cs (c ∷ []) t.one t.among) [
  | inl i ↦ inl (inr (record { one = t.one; among = i; sets = t.sets; field = t.field; other = t.other; has_other = t.has_other; keeps = t.keeps; meets = t.meets }))
  | inr i ↦ inr (record { one = t.one; among = i; sets = t.sets; field = t.field; other = t.other; has_other = t.has_other; keeps = t.keeps; meets = t.meets })
]

-- a copy that gives no threat before the first
pub copy_stays : (k : List Bar) (cs ds gs : List (List Lit)) (c : List Lit) (f : Field) (found o : Option Lit) → gs ≡ cs ++ c ∷ [] → ((x : Lit) → FieldThreat k (c ∷ []) ds f x → ¬ IsBefore x o) → IsFirstWith found (FieldThreat k cs ds f) o → IsFirstWith found (FieldThreat k gs ds f) o
copy_stays k cs ds gs c f found o e n h = subst (λ (z : List (List Lit)). IsFirstWith found (FieldThreat k z ds f) o) (sym e)
    (first_stays (λ x. (found ≡ Some x) ⊎ FieldThreat k cs ds f x) (FieldThreat k (c ∷ []) ds f) (λ x. (found ≡ Some x) ⊎ FieldThreat k (cs ++ c ∷ []) ds f x) o
    (more k cs ds c f found) (less k cs ds c f found) h n)

of_one : (k : List Bar) (ds : List (List Lit)) (c : List Lit) (f : Field) (x l : Lit) → IsCopy c → IsIn c l → lit_field l ≡ f → FieldThreat k (c ∷ []) ds f x → x ≡ l
of_one k ds c f x l h i e t = elim t.among [
  | inl s ↦ one_set c 0 x l h (subst (λ (z : List Lit). IsIn z x) (sym s) t.sets) i (t.field ∙ sym e)
  | inr b ↦ absurd b
]

-- a copy whose literal is an earlier threat
pub copy_moves : (k : List Bar) (cs ds gs : List (List Lit)) (c : List Lit) (f : Field) (found o : Option Lit) (l : Lit) → gs ≡ cs ++ c ∷ [] → IsCopy c → IsIn c l → lit_field l ≡ f → IsBefore l o → ((d : List Lit) → IsIn ds d → KeepsField d f) → MeetsSome k c ds → IsFirstWith found (FieldThreat k cs ds f) o → IsFirstWith found (FieldThreat k gs ds f) (Some l)
copy_moves k cs ds gs c f found o l e hc i s b keep m h = subst (λ (z : List (List Lit)). IsFirstWith found (FieldThreat k z ds f) (Some l)) (sym e)
    (first_moves (λ x. (found ≡ Some x) ⊎ FieldThreat k cs ds f x) (FieldThreat k (c ∷ []) ds f) (λ x. (found ≡ Some x) ⊎ FieldThreat k (cs ++ c ∷ []) ds f x) o l
    (inr (record { one = c; among = in-right cs (c ∷ []) c (inl refl); sets = i; field = s; other = m.other; has_other = m.among; keeps = keep m.other m.among; meets = m.meets }))
    (less k cs ds c f found) h b (λ x t. of_one k ds c f x l hc i s t))

-- why a copy gives no threat before the first

pub sets_none : (k : List Bar) (ds : List (List Lit)) (c : List Lit) (f : Field) (o : Option Lit) → KeepsField c f → (x : Lit) → FieldThreat k (c ∷ []) ds f x → ¬ IsBefore x o
sets_none k ds c f o keep x t b = elim t.among [
  | inl s ↦ keep x (subst (λ (z : List Lit). IsIn z x) (sym s) t.sets) t.field
  | inr a ↦ a
]

pub is_no_candidate : (k : List Bar) (ds : List (List Lit)) (c : List Lit) (f : Field) (o : Option Lit) (l : Lit) → IsCopy c → IsIn c l → lit_field l ≡ f → ((d : List Lit) → IsIn ds d → IsCopy d) → ¬ IsCandidate k l o → (x : Lit) → FieldThreat k (c ∷ []) ds f x → ¬ IsBefore x o
is_no_candidate k ds c f o l hc i e hd n x t b =
    n (subst (λ (y : Lit). IsCandidate k y o) (of_one k ds c f x l hc i e t)
    (b, field_free k (c ∷ []) ds f x (λ z a. elim a [ inl s ↦ subst (λ (w : List Lit). IsCopy w) s hc | inr q ↦ absurd q ]) hd t))

pub meets_none : (k : List Bar) (ds : List (List Lit)) (c : List Lit) (f : Field) (o : Option Lit) → ¬ MeetsSome k c ds → (x : Lit) → FieldThreat k (c ∷ []) ds f x → ¬ IsBefore x o
meets_none k ds c f o n x t b = elim t.among [
  | inl s ↦ n (record { other = t.other; among = t.has_other; meets = subst (λ (z : List Lit). Meets k z t.other) (sym s) t.meets })
  | inr a ↦ a
]
