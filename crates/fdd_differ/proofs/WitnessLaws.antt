-- One candidate is enough: where some well-shaped packet of a kind is on a path, it is one too.
use Rattle.std.proofs.Common.{◌≡◌, ◌≢◌, ℕ, ◌⊎◌, inl, inr, refl, ap, sym, ◌∙◌, subst, arith, Bool, cond, List, [], ◌∷◌}
use Rattle.std.proofs.lemmas.Bool.Decides.{eqb_tells}
use Rattle.nk_values.specs.declared.field.Field.{Field}
use Rattle.nk_values.specs.declared.field.Field.TheVariants.{EthTyp, IpProto, Ip4Src, Ip4Dst, TcpSrcPort, TcpDstPort}
use Rattle.nk_values.specs.declared.packet.Packet.{Packet}
use Rattle.nk_values.specs.declared.lit.Lit.{Lit}
use Rattle.nk_values.specs.Held.{Holds, put}
use Rattle.nk_values.specs.Lits.{lit_field, lit_value}
use Rattle.nk_values.specs.Members.{IsIn}
use Rattle.nk_values.specs.Packets.{get, with_value, IsInRange, IsWellShaped}
use Rattle.nk_values.specs.Ranges.{IsValue}
use Rattle.nk_values.proofs.MemberLaws.{in-right}
use Rattle.nk_values.proofs.PacketLaws.{get-with_same, get-with_other, field_cases}
use Rattle.fdd_nodes.specs.Cells.{whole_cell, Agrees, fill, IsUnset}
use Rattle.fdd_nodes.specs.Paths.{Way, tests_on}
use Rattle.fdd_nodes.proofs.CellLaws.{tells_open, lit_not_free, agrees_with, open_agrees, fill_fixed, fill_open}
use Rattle.fdd_differ.specs.declared.frame.Frame.{Frame}
use Rattle.fdd_differ.specs.declared.frame.Frame.TheVariants.{NoIp, OtherIp, Tcp, Udp}
use Rattle.fdd_differ.specs.Frames.{IsFrame, frame_cell}
use Rattle.fdd_differ.specs.Unnamed.{IsFreshOf}
use Rattle.fdd_differ.specs.Witness.{IsWitness, IsWitnessOf, narrowed_by_one, narrowed}

-- what is fixed stays as one literal more comes, and the literal's field is fixed then
one_keeps : (c : Packet) (l : Lit) (f : Field) → ¬ IsUnset c f → get (narrowed_by_one c l) f ≡ get c f
one_keeps c l f n = elim (tells_open c (lit_field l)) [
  | inl y ↦ ap (λ b. get (cond b (put l c) c) f) y.0 ∙ get-with_other c (lit_field l) f (lit_value l) (λ e. n (ap (get c) (sym e) ∙ y.1))
  | inr k ↦ ap (λ b. get (cond b (put l c) c) f) k.0
]

one_fixes : (c : Packet) (l : Lit) → ¬ IsUnset (narrowed_by_one c l) (lit_field l)
one_fixes c l z = elim (tells_open c (lit_field l)) [
  | inl y ↦ lit_not_free l (sym (get-with_same c (lit_field l) (lit_value l)) ∙ sym (ap (λ b. get (cond b (put l c) c) (lit_field l)) y.0) ∙ z)
  | inr k ↦ k.1 (sym (ap (λ b. get (cond b (put l c) c) (lit_field l)) k.0) ∙ z)
]

one_agrees : (c p : Packet) (l : Lit) → Holds p l → Agrees c p → Agrees (narrowed_by_one c l) p
one_agrees c p l h a = elim (tells_open c (lit_field l)) [
  | inl y ↦ subst (λ (b : Bool). Agrees (cond b (put l c) c) p) (sym y.0) (agrees_with c p l h a)
  | inr k ↦ subst (λ (b : Bool). Agrees (cond b (put l c) c) p) (sym k.0) a
]

keeps : (c : Packet) (ls : List Lit) (f : Field) → ¬ IsUnset c f → get (narrowed c ls) f ≡ get c f
keeps c [] f n = refl
keeps c (l ∷ ls) f n = let e = one_keeps c l f n in keeps (narrowed_by_one c l) ls f (λ z. n (sym e ∙ z)) ∙ e

fixes : (c : Packet) (ls : List Lit) (l : Lit) → IsIn ls l → ¬ IsUnset (narrowed c ls) (lit_field l)
fixes c [] l h = absurd h
fixes c (m ∷ ls) l (inl e) = subst (λ (k : Lit). ¬ IsUnset (narrowed c (m ∷ ls)) (lit_field k)) e
    (λ z. one_fixes c m (sym (keeps (narrowed_by_one c m) ls (lit_field m) (one_fixes c m)) ∙ z))
fixes c (m ∷ ls) l (inr h) = fixes (narrowed_by_one c m) ls l h

agrees : (c p : Packet) (ls : List Lit) → ((l : Lit) → IsIn ls l → Holds p l) → Agrees c p → Agrees (narrowed c ls) p
agrees c p [] h a = a
agrees c p (l ∷ ls) h a = agrees (narrowed_by_one c l) p ls (λ m k. h m (inr k)) (one_agrees c p l (h l (inl refl)) a)

agrees_put : (c p : Packet) (f : Field) (n : ℕ) → get p f ≡ n → Agrees c p → Agrees (with_value c f n) p
agrees_put c p f n h a = record {
  at = λ k d. elim (field_cases f k) [
    | inl e ↦ subst (λ (j : Field). get p j ≡ get (with_value c f n) j) e (h ∙ sym (get-with_same c f n))
    | inr o ↦ let e = get-with_other c f k n o in a.at k (λ z. d (e ∙ z)) ∙ sym e
  ];
}

-- a packet of a kind is in its cell
pub kind_agrees : (k : Frame) (p : Packet) → IsFrame k p → Agrees (frame_cell k) p
kind_agrees NoIp p h = open_agrees p
kind_agrees OtherIp p h = agrees_put whole_cell p EthTyp 2048 h.0 (open_agrees p)
kind_agrees Tcp p h = agrees_put (with_value whole_cell EthTyp 2048) p IpProto 6 h.1 (agrees_put whole_cell p EthTyp 2048 h.0 (open_agrees p))
kind_agrees Udp p h = agrees_put (with_value whole_cell EthTyp 2048) p IpProto 17 h.1 (agrees_put whole_cell p EthTyp 2048 h.0 (open_agrees p))

-- each number of q is p's or g's, and q has what its kind fixes
pub record Mixes (k : Frame) (p g q : Packet) : Type 0 where
  pub either : (f : Field) → (get q f ≡ get p f) ⊎ (get q f ≡ get g f)
  pub fixed : (f : Field) → ¬ IsUnset (frame_cell k) f → get q f ≡ get (frame_cell k) f

from_both : (k : Frame) (p g q : Packet) → Mixes k p g q → (P : ℕ → Type 0) (f : Field) → P (get p f) → P (get g f) → P (get q f)
from_both k p g q m P f x y = elim (m.either f) [ inl e ↦ subst P (sym e) x | inr e ↦ subst P (sym e) y ]

zero_at : (k : Frame) (p g q : Packet) → Mixes k p g q → (f : Field) → get p f ≡ 0 → get g f ≡ 0 → get q f ≡ 0
zero_at k p g q m f x y = from_both k p g q m (λ n. n ≡ 0) f x y

pub mixes_kind : (k : Frame) (p g q : Packet) (ls : List Lit) → Mixes k p g q → IsFrame k p → IsFreshOf ls g → IsFrame k q
mixes_kind NoIp p g q ls m h f = from_both NoIp p g q m (λ n. n ≢ 2048) EthTyp h f.no_ip
mixes_kind OtherIp p g q ls m h f =
    let z = (f.shaped.ip_only f.no_ip).0 in (
      m.fixed EthTyp (λ e. omega (arith, e)),
      from_both OtherIp p g q m (λ n. n ≢ 6) IpProto h.1 (λ e. omega (arith, e, z)),
      from_both OtherIp p g q m (λ n. n ≢ 17) IpProto h.2 (λ e. omega (arith, e, z)),
    )
mixes_kind Tcp p g q ls m h f = (m.fixed EthTyp (λ e. omega (arith, e)), m.fixed IpProto (λ e. omega (arith, e)))
mixes_kind Udp p g q ls m h f = (m.fixed EthTyp (λ e. omega (arith, e)), m.fixed IpProto (λ e. omega (arith, e)))

mixes_in_range : (k : Frame) (p g q : Packet) → Mixes k p g q → IsInRange p → IsInRange g → IsInRange q
mixes_in_range k p g q m x y = λ f. from_both k p g q m (IsValue f) f (x f) (y f)

pub mixes_shaped : (k : Frame) (p g q : Packet) (ls : List Lit) → Mixes k p g q → IsFrame k p → IsFrame k q → IsWellShaped p → IsFreshOf ls g → IsWellShaped q
mixes_shaped NoIp p g q ls m h hq s f =
    let x = s.ip_only h in
    let y = f.shaped.ip_only f.no_ip in
    let u = s.no_ports (inl h) in
    let v = f.shaped.no_ports (inl f.no_ip) in
    record {
      in_range = mixes_in_range NoIp p g q m s.in_range f.shaped.in_range;
      ip_only = λ n. (zero_at NoIp p g q m IpProto x.0 y.0, zero_at NoIp p g q m Ip4Src x.1 y.1, zero_at NoIp p g q m Ip4Dst x.2 y.2);
      no_ports = λ n. (zero_at NoIp p g q m TcpSrcPort u.0 v.0, zero_at NoIp p g q m TcpDstPort u.1 v.1);
    }
mixes_shaped OtherIp p g q ls m h hq s f =
    let u = s.no_ports (inr (h.1, h.2)) in
    let v = f.shaped.no_ports (inl f.no_ip) in
    record {
      in_range = mixes_in_range OtherIp p g q m s.in_range f.shaped.in_range;
      ip_only = λ n. absurd (n hq.0);
      no_ports = λ n. (zero_at OtherIp p g q m TcpSrcPort u.0 v.0, zero_at OtherIp p g q m TcpDstPort u.1 v.1);
    }
mixes_shaped Tcp p g q ls m h hq s f = record {
  in_range = mixes_in_range Tcp p g q m s.in_range f.shaped.in_range;
  ip_only = λ n. absurd (n hq.0);
  no_ports = λ n. elim n [ inl x ↦ absurd (x hq.0) | inr x ↦ absurd (x.0 hq.1) ];
}
mixes_shaped Udp p g q ls m h hq s f = record {
  in_range = mixes_in_range Udp p g q m s.in_range f.shaped.in_range;
  ip_only = λ n. absurd (n hq.0);
  no_ports = λ n. elim n [ inl x ↦ absurd (x hq.0) | inr x ↦ absurd (x.1 hq.1) ];
}

-- each number of a filled cell is one of the cell, which p has too, or one of g
pub fill_cases : (c p g : Packet) → Agrees c p → (f : Field) → ((¬ IsUnset c f) × (get (fill c g) f ≡ get c f) × (get (fill c g) f ≡ get p f)) ⊎ ((IsUnset c f) × (get (fill c g) f ≡ get g f))
fill_cases c p g a f = elim (tells_open c f) [
  | inl y ↦ inr (y.1, fill_open c g f y.1)
  | inr n ↦ inl (n.1, fill_fixed c g f n.1, fill_fixed c g f n.1 ∙ sym (a.at f n.1))
]

-- cells within the cell of a kind, filled with numbers of a fresh packet, mix
pub mixes_fill : (k : Frame) (c p g : Packet) → Agrees c p → ((f : Field) → ¬ IsUnset (frame_cell k) f → get c f ≡ get (frame_cell k) f) → Mixes k p g (fill c g)
mixes_fill k c p g a h = record {
  either = λ f. elim (fill_cases c p g a f) [ inl e ↦ inl e.2 | inr e ↦ inr e.1 ];
  fixed = λ f n. fill_fixed c g f (λ z. n (sym (h f n) ∙ z)) ∙ h f n;
}

-- where some packet is a witness, the candidate is one
pub candidate : (w : Way) (k : Frame) (p g : Packet) → IsFreshOf (tests_on w) g → IsWitnessOf w k p → IsWitnessOf w k (fill (narrowed (frame_cell k) w.trues) g)
candidate w k p g f h =
    let c = narrowed (frame_cell k) w.trues in
    let a = agrees (frame_cell k) p w.trues h.on_path.holds (kind_agrees k p h.kind) in
    let m = mixes_fill k c p g a (keeps (frame_cell k) w.trues) in
    let kind = mixes_kind k p g (fill c g) (tests_on w) m h.kind f in
    record {
      shaped = mixes_shaped k p g (fill c g) (tests_on w) m h.kind kind h.shaped f;
      kind = kind;
      on_path = record {
        holds = λ l i. elim (fill_cases c p g a (lit_field l)) [ inl e ↦ e.2 ∙ h.on_path.holds l i | inr e ↦ absurd (fixes (frame_cell k) w.trues l i e.0) ];
        fails = λ l i z. elim (fill_cases c p g a (lit_field l)) [ inl e ↦ h.on_path.fails l i (sym e.2 ∙ z) | inr e ↦ f.missing l (in-right w.trues w.falses l i) (sym e.1 ∙ z) ];
      };
    }

-- a witness is of one of the four kinds
pub kinds_by : (p : Packet) → IsWellShaped p → ((k : Frame) → ¬ IsFrame k p) → ⊥
kinds_by p s h = elim (eqb_tells p.header.eth_typ 2048) [
  | inr n ↦ h NoIp n.1
  | inl y ↦ elim (eqb_tells p.header.ip_proto 6) [
    | inl z ↦ h Tcp (y.1, z.1)
    | inr n ↦ elim (eqb_tells p.header.ip_proto 17) [ inl z ↦ h Udp (y.1, z.1) | inr o ↦ h OtherIp (y.1, n.1, o.1) ]
  ]
]

pub no_witness : (w : Way) → ((p : Packet) → ¬ IsWitnessOf w NoIp p) → ((p : Packet) → ¬ IsWitnessOf w OtherIp p) → ((p : Packet) → ¬ IsWitnessOf w Tcp p) → ((p : Packet) → ¬ IsWitnessOf w Udp p) → (p : Packet) → ¬ IsWitness w p
no_witness w a b c d p h = kinds_by p h.shaped (elim [
  | NoIp ↦ λ k. a p (record { shaped = h.shaped; on_path = h.on_path; kind = k })
  | OtherIp ↦ λ k. b p (record { shaped = h.shaped; on_path = h.on_path; kind = k })
  | Tcp ↦ λ k. c p (record { shaped = h.shaped; on_path = h.on_path; kind = k })
  | Udp ↦ λ k. d p (record { shaped = h.shaped; on_path = h.on_path; kind = k })
])
