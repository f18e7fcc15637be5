-- What holds of every document that is read.
use Rattle.std.proofs.Common.{◌≡◌, ℕ, Bool, true, false, not, ◌&&◌, cond, List, [], ◌∷◌, ◌++◌, Option, Some, None, Result, Ok, refl, ap, ◌∙◌}
use Rattle.std.specs.Prelude.{IfSome, codes}
use Rattle.std.specs.Option.{option_map, option_and_then}
use Rattle.std.specs.List.{list_any, find}
use Rattle.std.specs.Str.{bytes_eq}
use Rattle.nk_values.specs.declared.text_fault.TextFault.{TextFault}
use Rattle.nk_values.specs.declared.field.Field.{Field}
use Rattle.nk_values.specs.declared.field.Field.TheVariants.{EthTyp, IpProto, EthSrc, EthDst, Ip4Src, Ip4Dst, TcpSrcPort, TcpDstPort}
use Rattle.nk_values.specs.declared.packet.Packet.{Packet}
use Rattle.nk_values.specs.Packets.{with_value}
use Rattle.nk_values.specs.Names.{name_of, header_fields}
use Rattle.netkat_parser.specs.Numbers.{number}
use Rattle.topology_model.specs.Layouts.{is_edge, location_of}
use Rattle.document_text.specs.declared.document.PacketLine.{PacketLine}
use Rattle.document_text.specs.Packets.{GivenFields, is_value, pair_of, with_tag, with_number, with_field, with_named, with_pair, with_word, with_words}
use Rattle.document_text.specs.Texts.{numeral}
use Rattle.document_text.specs.States.{State}
use Rattle.document_text.specs.Schedules.{refused_if, formed}
use Rattle.document_text.specs.Lines.{at_edge}

-- the parts of a test that lets pass
pub formed-ok : {A B : Type 0} (o : Option A) (go : A → Result B TextFault) (t : B) → formed o go ≡ Ok t → (a : A) × (o ≡ Some a) × (go a ≡ Ok t)
formed-ok None go t e = absurd (cc)
formed-ok (Some a) go t e = (a, refl, e)

pub refused-ok : {A : Type 0} (b : Bool) (f : TextFault) (r : Result A TextFault) (t : A) → refused_if b f r ≡ Ok t → (b ≡ false) × (r ≡ Ok t)
refused-ok true f r t e = absurd (cc)
refused-ok false f r t e = (refl, e)

-- the words of a packet line leave its place alone
pub record Stays (g h : GivenFields) : Type 0 where
  pub sw : h.packet.sw ≡ g.packet.sw
  pub pt : h.packet.pt ≡ g.packet.pt

stays : (g : GivenFields) → Stays g g
stays g = record { sw = refl; pt = refl }

abbrev pub IsHeader : Field → Type 0
IsHeader f = (p : Packet) (n : ℕ) → ((with_value p f n).sw ≡ p.sw) × ((with_value p f n).pt ≡ p.pt)

found : (b : Bool) (f : Field) (o : Option Field) → IsHeader f → IfSome o IsHeader → IfSome (cond b (Some f) o) IsHeader
found true f o h k = h
found false f o h k = k

pub header-only : (test : Field → Bool) → IfSome (find test header_fields) IsHeader
header-only test =
    found (test EthTyp) EthTyp _ (λ p n. (refl, refl)) (found (test IpProto) IpProto _ (λ p n. (refl, refl)) (found (test EthSrc) EthSrc _ (λ p n. (refl, refl))
    (found (test EthDst) EthDst _ (λ p n. (refl, refl)) (found (test Ip4Src) Ip4Src _ (λ p n. (refl, refl)) (found (test Ip4Dst) Ip4Dst _ (λ p n. (refl, refl))
    (found (test TcpSrcPort) TcpSrcPort _ (λ p n. (refl, refl)) (found (test TcpDstPort) TcpDstPort None (λ p n. (refl, refl)) tt)))))))

abbrev pub Keeps : GivenFields → Option GivenFields → Type 0
Keeps g o = IfSome o (Stays g)

tag-by : (g : GivenFields) (n : ℕ) (b : Bool) → Stays g (cond b (record g { tag = Some n }) (record g { outside = true }))
tag-by g n true = record { sw = refl; pt = refl }
tag-by g n false = record { sw = refl; pt = refl }

number-by : (g : GivenFields) (f : Field) (n : ℕ) (b : Bool) → IsHeader f → Stays g (cond b (record g { packet = with_value g.packet f n }) (record g { outside = true }))
number-by g f n true h = record { sw = (h g.packet n).0; pt = (h g.packet n).1 }
number-by g f n false h = record { sw = refl; pt = refl }

tag-keeps : (g : GivenFields) (o : Option ℕ) → Keeps g (option_map (with_tag g) o)
tag-keeps g None = tt
tag-keeps g (Some n) = tag-by g n _

number-keeps : (g : GivenFields) (f : Field) (o : Option ℕ) → IsHeader f → Keeps g (option_map (with_number g f) o)
number-keeps g f None h = tt
number-keeps g f (Some n) h = number-by g f n (is_value f n) h

field-keeps : (g : GivenFields) (o : Option Field) (run : List ℕ) → IfSome o IsHeader → Keeps g (with_field g o run)
field-keeps g None run h = record { sw = refl; pt = refl }
field-keeps g (Some f) run h = number-keeps g f (number f run) h

named-by : (g : GivenFields) (run : List ℕ) (b : Bool) (o : Option Field) → IfSome o IsHeader
    → Keeps g (cond b (option_map (with_tag g) (numeral run)) (with_field g o run))
named-by g run true o h = tag-keeps g (numeral run)
named-by g run false o h = field-keeps g o run h

rebased : (g k : GivenFields) (o : Option GivenFields) → k.packet ≡ g.packet → Keeps k o → Keeps g o
rebased g k None e h = tt
rebased g k (Some x) e h = record { sw = h.sw ∙ ap (λ p. p.sw) e; pt = h.pt ∙ ap (λ p. p.pt) e }

pair-by : (g : GivenFields) (name run : List ℕ) (b : Bool) → Keeps g (cond b None (with_named (record g { names = g.names ++ name ∷ [] }) name run))
pair-by g name run true = tt
pair-by g name run false =
    rebased g (record g { names = g.names ++ name ∷ [] }) _ refl
    (named-by (record g { names = g.names ++ name ∷ [] }) run (bytes_eq name (codes "vlan")) _ (header-only (λ f. bytes_eq name (name_of f))))

pairs-keep : (g : GivenFields) (o : Option (List ℕ × List ℕ)) → Keeps g (option_and_then (with_pair g) o)
pairs-keep g None = tt
pairs-keep g (Some p) = pair-by g p.0 p.1 (list_any (bytes_eq p.0) g.names)

then-keeps : (g : GivenFields) (o : Option GivenFields) (next : GivenFields → Option GivenFields) → Keeps g o → ((h : GivenFields) → Keeps h (next h)) → Keeps g (option_and_then next o)
then-keeps g None next h k = tt
then-keeps g (Some x) next h k = through g x (next x) h (k x)
  where
    through : (g x : GivenFields) (o : Option GivenFields) → Stays g x → Keeps x o → Keeps g o
    through g x None h k = tt
    through g x (Some y) h k = record { sw = k.sw ∙ h.sw; pt = k.pt ∙ h.pt }

pub words-keep : (ws : List (List ℕ)) (g : GivenFields) → Keeps g (with_words g ws)
words-keep [] g = stays g
words-keep (w ∷ ws) g = then-keeps g (with_word g w) (λ h. with_words h ws) (pairs-keep g (pair_of w)) (λ h. words-keep ws h)

-- a declared port without a link
not-false : (b : Bool) → not b ≡ false → b ≡ true
not-false true h = refl
not-false false h = absurd (cc)

edge-of : (a b : Bool) → a ≡ true → b ≡ false → (a && not b) ≡ true
edge-of a b h k = rw (h, k) refl

pub edge-ok : (s : State) (e : ℕ × ℕ) (r : Result PacketLine TextFault) (p : PacketLine) → at_edge s e r ≡ Ok p → (is_edge s.layout (location_of e) ≡ true) × (r ≡ Ok p)
edge-ok s e r p h =
    let a = refused-ok _ _ _ p h in
    let b = refused-ok _ _ _ p a.1 in
    let c = refused-ok _ _ _ p b.1 in
    (edge-of _ _ (not-false _ b.0) c.0, c.1)
