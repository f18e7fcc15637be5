-- The texts of packets that come in are told apart.
use Rattle.std.proofs.Common.{◌≡◌, ℕ, ◌<◌, ◌≤◌, ◌^◌, true, inl, inr, List, [], ◌∷◌, ◌++◌, codes, refl, sym, ◌∙◌, ap, subst, Option, None, Some, arith}
use Rattle.std.proofs.lemmas.Bool.{false≢true}
use Rattle.std.proofs.lemmas.Fmt.{decimal_injective}
use Rattle.std.proofs.lemmas.List.{append_assoc, append_cancel_left}
use Rattle.std.specs.Fmt.{decimal}
use Rattle.nk_values.specs.declared.field.Field.{Field}
use Rattle.nk_values.specs.declared.field.Field.TheVariants.{Sw, Pt, EthTyp, IpProto, EthSrc, EthDst, Ip4Src, Ip4Dst, TcpSrcPort, TcpDstPort}
use Rattle.nk_values.specs.declared.packet.Packet.{Packet}
use Rattle.nk_values.specs.Members.{IsIn}
use Rattle.nk_values.specs.Names.{name_of, header_fields}
use Rattle.nk_values.specs.Packets.{IsInRange, get}
use Rattle.nk_values.specs.Tags.{IsTag}
use Rattle.value_text.specs.Values.{value_text, fields_text, location_text}
use Rattle.report_text.specs.Events.{tag_text, incoming_text}
use Rattle.line_laws.proofs.Cut.{every, stops, cut, rest, every-append}
use Rattle.line_laws.proofs.Values.{digit, digits, decimal-same, value-same}
use Rattle.report_laws.proofs.Printed.{printed, in_line, decimal-printed, decimal-line, value-printed, fields-line}

-- ---- fields

fields-stop : (p : Packet) (fs : List Field) → stops printed (fields_text p fs) ≡ true
fields-stop p [] = refl
fields-stop p (f ∷ fs) = refl

field-is : (p : Packet) (f : Field) (fs : List Field) → fields_text p (f ∷ fs) ≡ 32 ∷ (name_of f ++ (61 ∷ (value_text f (get p f) ++ fields_text p fs)))
field-is p f fs = ap (λ (xs : List ℕ). 32 ∷ xs) (append_assoc (name_of f) (61 ∷ value_text f (get p f)) (fields_text p fs))

fields-same : (p q : Packet) → IsInRange p → IsInRange q → (fs : List Field) → fields_text p fs ≡ fields_text q fs → (f : Field) → IsIn fs f → get p f ≡ get q f
fields-same p q k l [] e f m = absurd m
fields-same p q k l (g ∷ fs) e f m =
    let a = rest 32 32 _ _ (sym (field-is p g fs) ∙ e ∙ field-is q g fs) in
    let b = rest 61 61 _ _ (append_cancel_left (name_of g) _ _ a) in
    let c = cut printed (value_text g (get p g)) (value_text g (get q g)) (fields_text p fs) (fields_text q fs) (value-printed g (get p g) (k g)) (value-printed g (get q g) (l g)) (fields-stop p fs) (fields-stop q fs) b in
    elim m [
      | inl d ↦ subst (λ (h : Field). get p h ≡ get q h) d (value-same g (get p g) (get q g) (k g) (l g) c.0)
      | inr n ↦ fields-same p q k l fs c.1 f n
    ]

-- ---- tags

tag-stops : (tag : Option ℕ) (xs : List ℕ) → stops digit (tag_text tag ++ xs) ≡ true
tag-stops None xs = refl
tag-stops (Some v) xs = refl

small : (v : ℕ) → IsTag (Some v) → v < 2 ^ 64
small v h = omega (arith, h.1)

no-number : (v : ℕ) → v < 2 ^ 64 → codes "none" ≡ decimal v → ⊥
no-number v l e = false≢true (subst (λ (ds : List ℕ). every digit ds ≡ true) (sym e) (digits v l))

tag-same : (tag u : Option ℕ) (xs ys : List ℕ) → IsTag tag → IsTag u → stops printed xs ≡ true → stops printed ys ≡ true → tag_text tag ++ xs ≡ tag_text u ++ ys → (tag ≡ u) × (xs ≡ ys)
tag-same None None xs ys h k s t e = (refl, append_cancel_left (codes " vlan=none") xs ys e)
tag-same None (Some v) xs ys h k s t e =
    absurd (no-number v (small v k) (cut printed (codes "none") (decimal v) xs ys refl (decimal-printed v (small v k)) s t (append_cancel_left (codes " vlan=") (codes "none" ++ xs) (decimal v ++ ys) e)).0)
tag-same (Some v) None xs ys h k s t e =
    absurd (no-number v (small v h) (sym (cut printed (decimal v) (codes "none") xs ys (decimal-printed v (small v h)) refl s t (append_cancel_left (codes " vlan=") (decimal v ++ xs) (codes "none" ++ ys) e)).0))
tag-same (Some v) (Some w) xs ys h k s t e =
    let c = cut printed (decimal v) (decimal w) xs ys (decimal-printed v (small v h)) (decimal-printed w (small w k)) s t (append_cancel_left (codes " vlan=") (decimal v ++ xs) (decimal w ++ ys) e) in
    (ap (λ (n : ℕ). Some n) (decimal_injective v w (small v h) (small w k) c.0), c.1)

-- ---- a packet with its tag

sw-high : (p : Packet) → IsInRange p → p.sw ≤ 65535
sw-high p k = (k Sw).high

pt-high : (p : Packet) → IsInRange p → p.pt ≤ 65535
pt-high p k = omega (arith, (k Pt).high)

wide : (n : ℕ) → n ≤ 65535 → n < 2 ^ 64
wide n h = omega (arith, h)

incoming-is : (p : Packet) (tag : Option ℕ) → incoming_text p tag ≡ decimal p.sw ++ (58 ∷ (decimal p.pt ++ (tag_text tag ++ fields_text p header_fields)))
incoming-is p tag = append_assoc (decimal p.sw) (58 ∷ decimal p.pt) (tag_text tag ++ fields_text p header_fields)

same-packet : (p q : Packet) → p.sw ≡ q.sw → p.pt ≡ q.pt → ((f : Field) → IsIn header_fields f → get p f ≡ get q f) → p ≡ q
same-packet p q sw pt h =
    let b = h EthTyp (inl refl) in
    let c = h IpProto (inr (inl refl)) in
    let d = h EthSrc (inr (inr (inl refl))) in
    let e = h EthDst (inr (inr (inr (inl refl)))) in
    let f = h Ip4Src (inr (inr (inr (inr (inl refl))))) in
    let g = h Ip4Dst (inr (inr (inr (inr (inr (inl refl)))))) in
    let j = h TcpSrcPort (inr (inr (inr (inr (inr (inr (inl refl))))))) in
    let k = h TcpDstPort (inr (inr (inr (inr (inr (inr (inr (inl refl)))))))) in
    λ i. record { sw = sw i; pt = pt i; header = record { eth_typ = b i; ip_proto = c i; eth_src = d i; eth_dst = e i; ip4_src = f i; ip4_dst = g i; tcp_src_port = j i; tcp_dst_port = k i } }

pub incoming-same : (p q : Packet) (tag u : Option ℕ) → IsInRange p → IsInRange q → IsTag tag → IsTag u → incoming_text p tag ≡ incoming_text q u → (p ≡ q) × (tag ≡ u)
incoming-same p q tag u k l h j e =
    let a = cut digit (decimal p.sw) (decimal q.sw) _ _ (digits p.sw (wide p.sw (sw-high p k))) (digits q.sw (wide q.sw (sw-high q l))) refl refl (sym (incoming-is p tag) ∙ e ∙ incoming-is q u) in
    let b = cut digit (decimal p.pt) (decimal q.pt) (tag_text tag ++ fields_text p header_fields) (tag_text u ++ fields_text q header_fields)
    (digits p.pt (wide p.pt (pt-high p k))) (digits q.pt (wide q.pt (pt-high q l))) (tag-stops tag (fields_text p header_fields)) (tag-stops u (fields_text q header_fields)) (rest 58 58 _ _ a.1) in
    let c = tag-same tag u (fields_text p header_fields) (fields_text q header_fields) h j refl refl b.1 in (
      same-packet p q (decimal-same p.sw q.sw (sw-high p k) (sw-high q l) a.0) (decimal-same p.pt q.pt (pt-high p k) (pt-high q l) b.0) (fields-same p q k l header_fields c.1),
      c.0,
    )

tag-line : (tag : Option ℕ) → IsTag tag → every in_line (tag_text tag) ≡ true
tag-line None h = refl
tag-line (Some v) h = decimal-line v (small v h)

pub incoming-line : (p : Packet) (tag : Option ℕ) → IsInRange p → IsTag tag → every in_line (incoming_text p tag) ≡ true
incoming-line p tag k h =
    every-append in_line (location_text p.sw p.pt) (tag_text tag ++ fields_text p header_fields)
    (every-append in_line (decimal p.sw) (58 ∷ decimal p.pt) (decimal-line p.sw (wide p.sw (sw-high p k))) (decimal-line p.pt (wide p.pt (pt-high p k))))
    (every-append in_line (tag_text tag) (fields_text p header_fields) (tag-line tag h) (fields-line p k header_fields))
