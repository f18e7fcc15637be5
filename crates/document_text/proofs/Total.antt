-- Each text has an outcome.
use Rattle.std.proofs.Common.{◌≡◌, ◌≢◌, ℕ, ◌+◌, ◌⊎◌, inl, inr, Bool, true, false, ◌==◌, List, [], ◌∷◌, ◌++◌, take, refl, subst}
use Rattle.std.proofs.lemmas.Bool.Decides.{Decides-eqb}
use Rattle.nk_values.specs.declared.field.Field.{Field}
use Rattle.nk_values.specs.declared.field.Field.TheVariants.{Sw, Pt, EthTyp, IpProto, EthSrc, EthDst, Ip4Src, Ip4Dst, TcpSrcPort, TcpDstPort}
use Rattle.nk_values.specs.declared.packet.Packet.{Packet}
use Rattle.nk_values.specs.Packets.{get, IsInRange, IsWellShaped}
use Rattle.nk_values.specs.Ranges.{IsValue}
use Rattle.nk_syntax.specs.Terms.{Term}
use Rattle.netkat_parser.specs.declared.fault.Position.{Position}
use Rattle.netkat_parser.specs.declared.fault.ParseFault.{ParseFault}
use Rattle.netkat_parser.specs.Grammar.{IsText}
use Rattle.netkat_parser.specs.Places.{HasFault, position_after}
use Rattle.netkat_parser.proofs.Outcomes.{no-both, fault-one}
use Rattle.netkat_parser.proofs.Total.{value-or-not, read-or-fault}
use Rattle.nk_values.specs.declared.text_fault.TextFault.TheVariants.{BadLine}
use Rattle.document_text.specs.Documents.{Outcome}
use Rattle.document_text.specs.States.{State, initial_state, with_policy}
use Rattle.document_text.specs.Steps.{Step, Next, Enters, Opens, Stops, step}
use Rattle.document_text.specs.Texts.{lines_of, words_of, is_end}
use Rattle.document_text.specs.Grammar.{Mode, Lines, Block, Does, Closes, Chosen, Goes, IsBehind, LacksEnd, Ends, IsFrom, IsReading, finished, within_limit, most_bytes, line_start, refused_at, refused_in}

-- a fact holds or not
abbrev Either : Type 0 → Type 0
Either A = A ⊎ ¬ A

both-either : {A B : Type 0} → Either A → Either B → Either (A × B)
both-either (inl a) (inl b) = inl (a, b)
both-either (inl a) (inr b) = inr (λ h. b h.1)
both-either (inr a) b = inr (λ h. a h.0)

if-either : {A B : Type 0} → Either A → Either B → Either (A → B)
if-either (inl a) (inl b) = inl (λ h. b)
if-either (inl a) (inr b) = inr (λ h. b (h a))
if-either (inr a) b = inl (λ h. absurd (a h))

neither : {A B : Type 0} → ¬ A → ¬ B → A ⊎ B → ⊥
neither a b (inl h) = a h
neither a b (inr h) = b h

or-either : {A B : Type 0} → Either A → Either B → Either (A ⊎ B)
or-either (inl a) b = inl (inl a)
or-either (inr a) (inl b) = inl (inr b)
or-either (inr a) (inr b) = inr (neither a b)

not-either : {A : Type 0} → Either A → Either (¬ A)
not-either (inl a) = inr (λ h. h a)
not-either (inr a) = inl a

same-either : (m n : ℕ) → Either (m ≡ n)
same-either m n = split (m == n) refl
  where
    split : (b : Bool) → (m == n) ≡ b → Either (m ≡ n)
    split true e = inl ((Decides-eqb m n).0 e)
    split false e = inr (λ h. let t : (m == n) ≡ true = (Decides-eqb m n).1 h in absurd (cc))

-- a packet is well shaped or not
each-field : (P : Field → Type 0) → P Sw → P Pt → P EthTyp → P IpProto → P EthSrc → P EthDst → P Ip4Src → P Ip4Dst → P TcpSrcPort → P TcpDstPort → (f : Field) → P f
each-field P a b c d e f g h i j Sw = a
each-field P a b c d e f g h i j Pt = b
each-field P a b c d e f g h i j EthTyp = c
each-field P a b c d e f g h i j IpProto = d
each-field P a b c d e f g h i j EthSrc = e
each-field P a b c d e f g h i j EthDst = f
each-field P a b c d e f g h i j Ip4Src = g
each-field P a b c d e f g h i j Ip4Dst = h
each-field P a b c d e f g h i j TcpSrcPort = i
each-field P a b c d e f g h i j TcpDstPort = j

range-either : (p : Packet) → Either (IsInRange p)
range-either p =
    split
    (both-either (value-or-not Sw p.sw) (both-either (value-or-not Pt p.pt) (both-either (value-or-not EthTyp p.header.eth_typ) (both-either (value-or-not IpProto p.header.ip_proto) (value-or-not EthSrc p.header.eth_src)))))
    (both-either (value-or-not EthDst p.header.eth_dst) (both-either (value-or-not Ip4Src p.header.ip4_src) (both-either (value-or-not Ip4Dst p.header.ip4_dst) (both-either (value-or-not TcpSrcPort p.header.tcp_src_port) (value-or-not TcpDstPort p.header.tcp_dst_port)))))
  where
    V : Field → Type 0
    V f = IsValue f (get p f)

    split : Either (V Sw × (V Pt × (V EthTyp × (V IpProto × V EthSrc)))) → Either (V EthDst × (V Ip4Src × (V Ip4Dst × (V TcpSrcPort × V TcpDstPort)))) → Either (IsInRange p)
    split (inl a) (inl b) = inl (each-field V a.0 a.1.0 a.1.1.0 a.1.1.1.0 a.1.1.1.1 b.0 b.1.0 b.1.1.0 b.1.1.1.0 b.1.1.1.1)
    split (inr a) b = inr (λ h. a (h Sw, (h Pt, (h EthTyp, (h IpProto, h EthSrc)))))
    split (inl a) (inr b) = inr (λ h. b (h EthDst, (h Ip4Src, (h Ip4Dst, (h TcpSrcPort, h TcpDstPort)))))

three : {A B C : Type 0} → Either (A × (B × C)) → Either (A × B × C)
three (inl h) = inl (h.0, h.1.0, h.1.1)
three (inr h) = inr (λ k. h (k.0, (k.1, k.2)))

shape-either : (p : Packet) → Either (IsWellShaped p)
shape-either p =
    split (range-either p)
    (if-either (not-either (same-either p.header.eth_typ 2048)) (three (both-either (same-either p.header.ip_proto 0) (both-either (same-either p.header.ip4_src 0) (same-either p.header.ip4_dst 0)))))
    (if-either (or-either (not-either (same-either p.header.eth_typ 2048)) (both-either (not-either (same-either p.header.ip_proto 6)) (not-either (same-either p.header.ip_proto 17))))
    (both-either (same-either p.header.tcp_src_port 0) (same-either p.header.tcp_dst_port 0)))
  where
    split : Either (IsInRange p) → Either (p.header.eth_typ ≢ 2048 → (p.header.ip_proto ≡ 0) × (p.header.ip4_src ≡ 0) × (p.header.ip4_dst ≡ 0))
        → Either ((p.header.eth_typ ≢ 2048) ⊎ ((p.header.ip_proto ≢ 6) × (p.header.ip_proto ≢ 17)) → (p.header.tcp_src_port ≡ 0) × (p.header.tcp_dst_port ≡ 0))
        → Either (IsWellShaped p)
    split (inl a) (inl b) (inl c) = inl (record { in_range = a; ip_only = b; no_ports = c })
    split (inr a) b c = inr (λ h. a h.in_range)
    split (inl a) (inr b) c = inr (λ h. b h.ip_only)
    split (inl a) (inl b) (inr c) = inr (λ h. c h.no_ports)

-- going on in a mode comes to an outcome
abbrev Has : (Outcome → Type 0) → Type 0
Has P = (o : Outcome) × P o

does-some : (Go : Mode → Outcome → Type 0) (n : ℕ) (x : Step) → ((m : Mode) → Has (Go m)) → Has (λ o. Does (λ m. Go m o) n o x)
does-some Go n (Next s) go = go (Lines s)
does-some Go n (Enters p s) go = split (shape-either p.packet)
  where
    split : Either (IsWellShaped p.packet) → Has (λ o. Does (λ m. Go m o) n o (Enters p s))
    split (inl h) = let r = go (Lines s) in (r.0, inl (h, r.1))
    split (inr h) = (refused_at n BadLine, inr (h, refl))
does-some Go n (Opens s) go = go (Block s (n + 1) [])
does-some Go n (Stops f) go = (refused_at n f, refl)

closes-some : (Go : Mode → Outcome → Type 0) (s : State) (begin : ℕ) (text : List ℕ) → ((m : Mode) → Has (Go m)) → Has (λ o. Closes (λ m. Go m o) o s begin text)
closes-some Go s begin text go = split (read-or-fault (line_start begin) text)
  where
    split : ((p : Term) × IsText text p) ⊎ ((f : ParseFault) × HasFault (line_start begin) text f) → Has (λ o. Closes (λ m. Go m o) o s begin text)
    split (inl h) = let r = go (Lines (with_policy s h.0)) in (r.0, inl (h.0, h.1, r.1))
    split (inr h) = (refused_in h.0, inr (h.0, h.1, refl))

chosen-some : (Go : Mode → Outcome → Type 0) (s : State) (begin : ℕ) (text line : List ℕ) (b : Bool) → ((m : Mode) → Has (Go m))
    → Has (λ o. Chosen b (Closes (λ m. Go m o) o s begin text) (Go (Block s begin line) o))
chosen-some Go s begin text line true go = closes-some Go s begin text go
chosen-some Go s begin text line false go = go (Block s begin line)

goes-some : (Go : Mode → Outcome → Type 0) (n : ℕ) (m : Mode) (line : List ℕ) → ((t : Mode) → Has (Go t)) → Has (λ o. Goes (λ t. Go t o) n o m line)
goes-some Go n (Lines s) line go = does-some Go n (step s n (words_of line)) go
goes-some Go n (Block s begin text) line go = chosen-some Go s begin text (text ++ line) (is_end (words_of line)) go

-- the place of a fault is after the text or not
place-either : (p : Position) (line column : ℕ) → Either (p ≡ record { line = line; column = column })
place-either p line column = split (same-either p.line line) (same-either p.column column)
  where
    at : Position
    at = record { line = line; column = column }

    split : Either (p.line ≡ line) → Either (p.column ≡ column) → Either (p ≡ record { line = line; column = column })
    split (inl a) (inl b) = inl (λ i. record { line = a i; column = b i })
    split (inr a) b = inr (λ h. a (λ i. (h i).line))
    split (inl a) (inr b) = inr (λ h. b (λ i. (h i).column))

lacks-some : (n begin : ℕ) (text : List ℕ) → Has (LacksEnd n begin text)
lacks-some n begin text = split (read-or-fault (line_start begin) text)
  where
    behind : (f : ParseFault) → HasFault (line_start begin) text f → Either (IsBehind begin text f) → Has (LacksEnd n begin text)
    behind f h (inl b) = (refused_at n BadLine, inr ((λ g k. subst (IsBehind begin text) (fault-one (line_start begin) text f g h k) b), refl))
    behind f h (inr b) = (refused_in f, inl (f, h, b, refl))

    split : ((p : Term) × IsText text p) ⊎ ((f : ParseFault) × HasFault (line_start begin) text f) → Has (LacksEnd n begin text)
    split (inl h) = (refused_at n BadLine, inr ((λ g k. absurd (no-both (line_start begin) text h.0 g h.1 k)), refl))
    split (inr h) = behind h.0 h.1 (place-either (position_after (line_start begin) text) h.0.line h.0.column)

ends-some : (n : ℕ) (m : Mode) → Has (λ o. Ends n o m)
ends-some n (Lines s) = (finished s n, refl)
ends-some n (Block s begin text) = lacks-some n begin text

from-some : (ls : List (List ℕ)) (n : ℕ) (m : Mode) → Has (IsFrom m n ls)
from-some [] n m = ends-some n m
from-some (l ∷ ls) n m = goes-some (λ t o. IsFrom t (n + 1) ls o) n m l (λ t. from-some ls (n + 1) t)

-- what a text is
pub reading-some : (text : List ℕ) → (o : Outcome) × IsReading text o
reading-some text =
    let w = from-some (lines_of (take (most_bytes + 1) text)) 1 (Lines initial_state) in
    (within_limit text w.0, (w.0, w.1, refl))
