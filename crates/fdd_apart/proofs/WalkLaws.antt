-- A walk to a difference: where it ends, and why no step back is needed.
use Rattle.std.proofs.Common.{◌≡◌, ◌≢◌, ℕ, ◌+◌, ◌<◌, ◌≤◌, ◌⊎◌, inl, inr, refl, sym, ap, subst, ◌∙◌, List, arith}
use Rattle.std.proofs.lemmas.Bool.Decides.{eqb_tells}
use Rattle.nk_values.specs.declared.field.Field.{Field}
use Rattle.nk_values.specs.declared.field.Field.TheVariants.{Sw, Pt, EthTyp, IpProto, EthSrc, EthDst, Ip4Src, Ip4Dst, TcpSrcPort, TcpDstPort}
use Rattle.nk_values.specs.declared.packet.Packet.{Packet}
use Rattle.nk_values.specs.declared.lit.Lit.{Lit}
use Rattle.nk_values.specs.Held.{Holds, put}
use Rattle.nk_values.specs.Lits.{lit_field, lit_value}
use Rattle.nk_values.specs.Members.{IsIn}
use Rattle.nk_values.specs.Packets.{get, with_value}
use Rattle.nk_values.specs.Ranges.{place}
use Rattle.nk_values.specs.Ranks.{rank}
use Rattle.nk_values.proofs.LitLaws.{same_lit, same_rank}
use Rattle.nk_values.proofs.PacketLaws.{get-with_same, get-with_other, field_cases}
use Rattle.fdd_nodes.specs.Cells.{unset, whole_cell, IsUnset}
use Rattle.fdd_nodes.specs.Names.{literals}
use Rattle.fdd_nodes.specs.Roots.{IsLeaf, HasRoot, IsFirst, IsFrom}
use Rattle.fdd_nodes.specs.Trees.{Tree, Leaf, Node, answers, SameAnswers, IsSetBy, Tests, Assigns}
use Rattle.fdd_nodes.proofs.CellLaws.{holds_fixed, lit_not_free, get-open}
use Rattle.fdd_nodes.proofs.NameLaws.{tests_literal, assigns_literal}
use Rattle.fdd_nodes.proofs.SplitLaws.{first_tested, sizes_fall}
use Rattle.fdd_apart.specs.Walks.{NamesLit, IsReady, IsFixedBy, StartsAt, CellApart}
use Rattle.fdd_store.specs.Canonical.{IsCanonical, IsProper, IsBeyond, IsLater, IsNotBefore}
use Rattle.fdd_store.specs.Results.{Rests, Cuts}
use Rattle.fdd_store.specs.Stores.{Kept, Has, Gives, tree_at}
use Rattle.fdd_store.proofs.CopyLaws.{one_of_leaves}
use Rattle.fdd_store.proofs.ForkLaws.{level, depth, level_later, node_else_as}
use Rattle.fdd_store.proofs.MadeLaws.{tests_from, else_later, past_later}
use Rattle.fdd_store.proofs.MoveLaws.{Ignores, moved}
use Rattle.fdd_store.proofs.SameLaws.{same_trans, same_sym}
use Rattle.fdd_store.proofs.UniqueLaws.{one_diagram}
use Rattle.fdd_store.proofs.UniteLaws.{rests_itself}

-- ---- the end: two leaves

-- the packet holds no literal of the copies
abbrev pub IsNew : List (List Lit) → Packet → Type 0
IsNew cs p = (m : Lit) → IsSetBy cs m → ¬ Holds p m

ignores : (cs : List (List Lit)) (p : Packet) (f : Field) → IsNew cs p → Ignores (Leaf cs) f (get p f) unset
ignores cs p f new = record {
  tests = λ m k e. absurd k;
  assigns = λ m k e v. new m k (ap (λ (g : Field). get p g) e ∙ sym v);
}

-- one field more holds no number
clear : (cs ds : List (List Lit)) (p r : Packet) (f : Field) → IsNew cs p → IsNew ds p → get r f ≡ get p f
    → SameAnswers (answers (Leaf cs) r) (answers (Leaf ds) r) → SameAnswers (answers (Leaf cs) (with_value r f unset)) (answers (Leaf ds) (with_value r f unset))
clear cs ds p r f a b e s =
    moved (Leaf cs) (Leaf ds) f (get p f) unset r (with_value r f unset) (ignores cs p f a) (ignores ds p f b) e (get-with_same r f unset)
    (λ g d. sym (get-with_other r f g unset d)) s

all-clear : (cs ds : List (List Lit)) (p : Packet) → IsNew cs p → IsNew ds p → SameAnswers (answers (Leaf cs) p) (answers (Leaf ds) p)
    → SameAnswers (answers (Leaf cs) whole_cell) (answers (Leaf ds) whole_cell)
all-clear cs ds p a b s =
    let p1 = with_value p Sw unset in
    let s1 = clear cs ds p p Sw a b refl s in
    let p2 = with_value p1 Pt unset in
    let s2 = clear cs ds p p1 Pt a b refl s1 in
    let p3 = with_value p2 EthTyp unset in
    let s3 = clear cs ds p p2 EthTyp a b refl s2 in
    let p4 = with_value p3 IpProto unset in
    let s4 = clear cs ds p p3 IpProto a b refl s3 in
    let p5 = with_value p4 EthSrc unset in
    let s5 = clear cs ds p p4 EthSrc a b refl s4 in
    let p6 = with_value p5 EthDst unset in
    let s6 = clear cs ds p p5 EthDst a b refl s5 in
    let p7 = with_value p6 Ip4Src unset in
    let s7 = clear cs ds p p6 Ip4Src a b refl s6 in
    let p8 = with_value p7 Ip4Dst unset in
    let s8 = clear cs ds p p7 Ip4Dst a b refl s7 in
    let p9 = with_value p8 TcpSrcPort unset in
    let s9 = clear cs ds p p8 TcpSrcPort a b refl s8 in
    clear cs ds p p9 TcpDstPort a b refl s9

-- two leaves of a store that answer alike one packet without their literals are one
pub leaves-apart : (cs ds : List (List Lit)) (p : Packet) → IsProper cs → IsProper ds → IsNew cs p → IsNew ds p → SameAnswers (answers (Leaf cs) p) (answers (Leaf ds) p) → cs ≡ ds
leaves-apart cs ds p hc hd a b s = one_of_leaves cs ds hc hd (all-clear cs ds p a b s)

-- ---- a step

alike-at : (x y z w : Tree) (p : Packet) → SameAnswers (answers z p) (answers x p) → SameAnswers (answers w p) (answers y p) → z ≡ w → SameAnswers (answers x p) (answers y p)
alike-at x y z w p a b e =
    same_trans _ _ _ (same_sym _ _ a) (subst (λ (t : Tree). SameAnswers (answers t p) (answers y p)) (sym e) b)

-- Where the parts without l are one, and those with l too, the diagrams are. So of two diagrams one of the parts differs.
pub no-step-back : (l : Lit) (x y u v g h : Tree) → IsCanonical x → IsCanonical y → Rests l x u → Rests l y v → Cuts l x g → Cuts l y h → u ≡ v → g ≡ h → x ≡ y
no-step-back l x y u v g h mx my ex ey gx gy e k =
    one_diagram x y mx my (record {
      at = λ p. elim (eqb_tells (get p (lit_field l)) (lit_value l)) [
        | inl t ↦ alike-at x y g h p (gx.same p t.1) (gy.same p t.1) k
        | inr n ↦ alike-at x y u v p (ex.same p n.1) (ey.same p n.1) e
      ];
    })

-- ---- the parts of a test

-- a diagram from a test on that begins with another, or with none, tests only later literals
rooted_after : (l m : Lit) (t e : Tree) → IsCanonical (Node m t e) → rank l ≤ rank m → ¬ (m ≡ l) → IsLater l (Node m t e)
rooted_after l m t e h k n = λ j w.
    let a = tests_from (Node m t e) (rank m) j (omega arith, h.ordered.1, h.ordered.2) w in
    let b : ¬ (rank l ≡ rank m) = λ z. n (sym (same_rank l m z)) in
    omega (arith, a, b, k)

pub else_there : (l m : Lit) (t e x : Tree) → x ≡ Node m t e → IsCanonical x → m ≡ l → Rests l x e
else_there l m t e x is made same =
    subst (λ (y : Tree). Rests l y e) (sym is) (subst (λ (k : Lit). Rests k (Node m t e) e) same (record {
      same = λ p n. node_else_as m t e p n;
      tests = λ j w. inr (inr w);
      assigns = λ j w. inr w;
      later = else_later m t e (subst IsCanonical is made);
    }))

pub else_leaf : (l : Lit) (x : Tree) → IsLeaf x → Rests l x x
else_leaf l (Leaf cs) h = rests_itself l (Leaf cs) (λ j w. absurd w)
else_leaf l (Node m t e) h = absurd h

pub else_same_root : (l m : Lit) (t e x : Tree) → x ≡ Node m t e → IsCanonical x → IsFrom l x → ¬ (m ≡ l) → Rests l x x
else_same_root l m t e x is made from n =
    subst (λ (y : Tree). Rests l y y) (sym is) (rests_itself l (Node m t e) (rooted_after l m t e (subst IsCanonical is made) (subst (IsFrom l) is from) n))

pub tests_at : (l : Lit) (x : Tree) → IsCanonical x → IsFrom l x → IsNotBefore l x
tests_at l (Leaf cs) h f = λ j w. absurd w
tests_at l (Node m t e) h f = λ j w. let a = tests_from (Node m t e) (rank m) j (omega arith, h.ordered.1, h.ordered.2) w in omega (arith, a, f)

-- ---- how many literals are named

pub literal_named : (t : Tree) (m : Lit) → NamesLit t m → IsIn (literals t) m
literal_named t m h = elim h [ inl k ↦ tests_literal t m k | inr k ↦ assigns_literal t m k ]

first_named : (l : Lit) (x y : Tree) → IsFirst l x y → NamesLit x l ⊎ NamesLit y l
first_named l x y f = elim (first_tested l x y f) [ inl k ↦ inl (inl k) | inr k ↦ inr (inl k) ]

-- ---- how far a walk is from its end

level_within : (x u : Tree) → IsCanonical x → ((m : Lit) → Tests u m → Tests x m) → level u ≤ level x
level_within x (Leaf cs) h f = omega arith
level_within (Leaf cs) (Node m t e) h f = absurd (f m (inl refl))
level_within (Node l a b) (Node m t e) h f =
    let k = tests_from (Node l a b) (rank l) m (omega arith, h.ordered.1, h.ordered.2) (f m (inl refl)) in omega (arith, k)

level_below : (l : Lit) (x u : Tree) → HasRoot l x → IsLater l u → level u < level x
level_below l (Leaf cs) u h f = absurd h
level_below l (Node m t e) u h f = let a = level_later l u f in let b : depth m ≡ depth l = ap depth h in omega (arith, a, b)

pub nearer : (l : Lit) (x y u v : Tree) → IsCanonical x → IsCanonical y → IsFirst l x y → ((m : Lit) → Tests u m → Tests x m) → ((m : Lit) → Tests v m → Tests y m) → IsLater l u → IsLater l v → level u + level v < level x + level y
nearer l x y u v mx my f tu tv lu lv =
    sizes_fall (level x) (level y) (level u) (level v) (HasRoot l x) (HasRoot l y) f.one (level_within x u mx tu) (level_within y v my tv)
    (λ h. level_below l x u h lu) (λ h. level_below l y v h lv)

pub beyond_later : (l : Lit) (g : Tree) → IsBeyond l g → IsLater l g
beyond_later l g h = λ m w. past_later l m (h.past m w)

-- ---- what holds all along

names_within : (x u : Tree) → ((m : Lit) → Tests u m → Tests x m) → ((m : Lit) → Assigns u m → Assigns x m) → (m : Lit) → NamesLit u m → NamesLit x m
names_within x u t a m h = elim h [ inl k ↦ inl (t m k) | inr k ↦ inr (a m k) ]

either_within : (x y u v : Tree) → ((m : Lit) → NamesLit u m → NamesLit x m) → ((m : Lit) → NamesLit v m → NamesLit y m) → (m : Lit) → NamesLit u m ⊎ NamesLit v m → NamesLit x m ⊎ NamesLit y m
either_within x y u v f g m h = elim h [ inl k ↦ inl (f m k) | inr k ↦ inr (g m k) ]

pub names_else : (l : Lit) (x u : Tree) → Rests l x u → (m : Lit) → NamesLit u m → NamesLit x m
names_else l x u h = names_within x u h.tests h.assigns

pub names_then : (l : Lit) (x g : Tree) → Cuts l x g → (m : Lit) → NamesLit g m → NamesLit x m
names_then l x g h = names_within x g h.tests h.assigns

pub ready_open : (x : Tree) → IsReady whole_cell x
ready_open x = record { untold = λ m k. get-open (lit_field m); clean = λ m k h. lit_not_free m (sym h ∙ get-open (lit_field m)) }

pub ready_else : (c : Packet) (l : Lit) (x u : Tree) → Rests l x u → IsReady c x → IsReady c u
ready_else c l x u h r = record { untold = λ m k. r.untold m (h.tests m k); clean = λ m k. r.clean m (h.assigns m k) }

-- what a cell with one literal more holds
put_holds : (c : Packet) (l m : Lit) → Holds (put l c) m → (m ≡ l) ⊎ Holds c m
put_holds c l m h = elim (field_cases (lit_field l) (lit_field m)) [
  | inl e ↦ inl (same_lit m l (sym e) (sym h ∙ ap (get (put l c)) (sym e) ∙ get-with_same c (lit_field l) (lit_value l)))
  | inr d ↦ inr (sym (get-with_other c (lit_field l) (lit_field m) (lit_value l) d) ∙ h)
]

pub ready_then : (c : Packet) (l : Lit) (x g : Tree) → Cuts l x g → IsReady c x → IsReady (put l c) g
ready_then c l x g h r = record {
  untold = λ m k.
      let d : lit_field l ≢ lit_field m = λ e. let a : place (lit_field l) ≡ place (lit_field m) = ap place e in let b = h.beyond.past m k in omega (arith, a, b) in
      get-with_other c (lit_field l) (lit_field m) (lit_value l) d ∙ r.untold m (h.tests m k);
  clean = λ m k w. elim (put_holds c l m w) [
    | inl e ↦ h.beyond.clean (subst (λ (j : Lit). Assigns g j) e k)
    | inr z ↦ r.clean m (h.assigns m k) z
  ];
}

untold_first : (c : Packet) (l : Lit) (x y : Tree) → IsFirst l x y → IsReady c x → IsReady c y → IsUnset c (lit_field l)
untold_first c l x y f rx ry = elim (first_tested l x y f) [ inl k ↦ rx.untold l k | inr k ↦ ry.untold l k ]

starts_first : (k : ℕ) (l : Lit) (x y : Tree) → IsFirst l x y → StartsAt k x → StartsAt k y → k ≤ rank l
starts_first k l x y f sx sy = elim (first_tested l x y f) [ inl w ↦ sx l w | inr w ↦ sy l w ]

fixed_within : (q : Packet) (x y u v : Tree) (f : Field) → ((m : Lit) → Tests u m → Tests x m) → ((m : Lit) → Tests v m → Tests y m) → IsFixedBy q u v f → IsFixedBy q x y f
fixed_within q x y u v f a b h = record {
  lit = h.lit;
  tested = elim h.tested [ inl k ↦ inl (a h.lit k) | inr k ↦ inr (b h.lit k) ];
  field = h.field;
  holds = h.holds;
}

-- ---- the cell that is found

pub apart_leaf : (c : Packet) (x y : Tree) → IsLeaf x → IsLeaf y → IsCanonical x → IsCanonical y → x ≢ y → IsReady c x → IsReady c y → CellApart c x y c
apart_leaf c (Leaf cs) (Leaf ds) hx hy mx my n rx ry = record {
  keeps = λ f w. refl;
  fixed = λ f w. inl w;
  beyond = λ k sx sy m w. inl w;
  differs = λ p a o s. n (ap Leaf (leaves-apart cs ds p mx.proper my.proper (λ m k w. rx.clean m k (o m (inl (inr k)) w)) (λ m k w. ry.clean m k (o m (inr (inr k)) w)) s));
}
apart_leaf c (Node l t e) y hx hy mx my n rx ry = absurd hx
apart_leaf c (Leaf cs) (Node m t e) hx hy mx my n rx ry = absurd hy

pub apart_else : (c : Packet) (l : Lit) (x y u v : Tree) (q : Packet) → IsFirst l x y → IsReady c x → IsReady c y → Rests l x u → Rests l y v → CellApart c u v q → CellApart c x y q
apart_else c l x y u v q f rx ry ex ey h =
    let wide = either_within x y u v (names_else l x u ex) (names_else l y v ey) in
    let missing : ¬ Holds q l = λ w. elim (h.beyond (rank l + 1) (λ m k. let a = ex.later m k in omega (arith, a)) (λ m k. let a = ey.later m k in omega (arith, a)) l w) [
      | inl z ↦ holds_fixed c l z (untold_first c l x y f rx ry)
      | inr z ↦ absurd (omega (arith, z))
    ] in
    record {
      keeps = h.keeps;
      fixed = λ g w. elim (h.fixed g w) [ inl z ↦ inl z | inr z ↦ inr (fixed_within q x y u v g ex.tests ey.tests z) ];
      beyond = λ k sx sy m w. h.beyond k (λ j z. sx j (ex.tests j z)) (λ j z. sy j (ey.tests j z)) m w;
      differs = λ p a o s.
          let n : ¬ Holds p l = λ w. missing (o l (first_named l x y f) w) in
          h.differs p a (λ m k. o m (wide m k)) (same_trans _ _ _ (ex.same p n) (same_trans _ _ _ s (same_sym _ _ (ey.same p n))));
    }

pub apart_then : (c : Packet) (l : Lit) (x y g h : Tree) (q : Packet) → IsFirst l x y → IsReady c x → IsReady c y → Cuts l x g → Cuts l y h → CellApart (put l c) g h q → CellApart c x y q
apart_then c l x y g h q f rx ry gx gy i =
    let wide = either_within x y g h (names_then l x g gx) (names_then l y h gy) in
    let here = get-with_same c (lit_field l) (lit_value l) in
    let told : ¬ IsUnset (put l c) (lit_field l) = holds_fixed (put l c) l here in
    let has : Holds q l = i.keeps (lit_field l) told ∙ here in
    let other : (j : Field) → ¬ IsUnset c j → lit_field l ≢ j = λ j n e. n (ap (get c) (sym e) ∙ untold_first c l x y f rx ry) in
    record {
      keeps = λ j n. let e = get-with_other c (lit_field l) j (lit_value l) (other j n) in i.keeps j (λ z. n (sym e ∙ z)) ∙ e;
      fixed = λ j w. elim (field_cases (lit_field l) j) [
        | inl e ↦ inr (record { lit = l; tested = first_tested l x y f; field = e; holds = has })
        | inr d ↦ elim (i.fixed j w) [
          | inl z ↦ inl (λ k. z (get-with_other c (lit_field l) j (lit_value l) d ∙ k))
          | inr z ↦ inr (fixed_within q x y g h j gx.tests gy.tests z)
        ]
      ];
      beyond = λ k sx sy m w.
          let first = starts_first k l x y f sx sy in
          elim (i.beyond k (λ j z. sx j (gx.tests j z)) (λ j z. sy j (gy.tests j z)) m w) [
            | inl z ↦ elim (put_holds c l m z) [ inl e ↦ inr (let r : rank m ≡ rank l = ap rank e in omega (arith, r, first)) | inr y ↦ inl y ]
            | inr z ↦ inr z
          ];
      differs = λ p a o s.
          let n : Holds p l = a.at (lit_field l) (holds_fixed q l has) ∙ has in
          i.differs p a (λ m k. o m (wide m k)) (same_trans _ _ _ (gx.same p n) (same_trans _ _ _ s (same_sym _ _ (gy.same p n))));
    }

-- ---- places of a store

pub gives_at : (k : Kept) (i j : ℕ) (P : Tree → Type 0) → j ≡ i → Has k i → IsCanonical (tree_at k i) → P (tree_at k i) → Gives k j P
gives_at k i j P e has made is = subst (λ (n : ℕ). Gives k n P) (sym e) (record { has = has; made = made; is = is })
