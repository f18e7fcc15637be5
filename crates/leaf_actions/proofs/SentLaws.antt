-- Copies that make each packet once send each once.
use Rattle.std.proofs.Common.{◌≡◌, ◌≢◌, ℕ, ◌==◌, Bool, true, false, inl, inr, List, [], ◌∷◌, refl, sym, ◌∙◌, ap, Option, Some, None, if◌then◌else◌}
use Rattle.std.proofs.lemmas.Bool.Decides.{Decides-eqb}
use Rattle.std.specs.List.Sorted.{IsPermutation}
use Rattle.nk_values.specs.declared.packet.Packet.{Packet}
use Rattle.nk_values.specs.declared.lit.Lit.{Lit}
use Rattle.nk_values.specs.declared.sent.SentPacket.{SentPacket}
use Rattle.nk_values.specs.Members.{IsIn, EachOnce}
use Rattle.nk_values.proofs.PairLaws.{pairs-flat_map}
use Rattle.nk_values.proofs.Permuted.{once-permuted}
use Rattle.fdd_nodes.specs.Trees.{outcomes}
use Rattle.leaf_actions.specs.declared.view.PortView.{PortView}
use Rattle.leaf_actions.specs.declared.view.SwitchPort.{SwitchPort}
use Rattle.leaf_actions.specs.Acting.{sent_by_port, sent_at, sendings}
use Rattle.leaf_actions.specs.Views.{port_in}

found-number : (ps : List SwitchPort) (n : ℕ) (s : SwitchPort) → port_in ps n ≡ Some s → s.pt ≡ n
found-number [] n s e = absurd (cc)
found-number (p ∷ ps) n s e = split (p.pt == n) refl e (found-number ps n s)
  where
    split : (b : Bool) → (p.pt == n) ≡ b → (if b then Some p else port_in ps n) ≡ Some s → (port_in ps n ≡ Some s → s.pt ≡ n) → s.pt ≡ n
    split true d k later = let same : p ≡ s = cc in ap (λ (x : SwitchPort). x.pt) (sym same) ∙ (Decides-eqb p.pt n).0 d
    split false d k later = later k

-- what is sent tells the packet's port and header
record Tells (q : Packet) (x : SentPacket) : Type 0 where
  port : x.port ≡ q.pt
  header : x.header ≡ q.header

told : (v : PortView) (q : Packet) (x : SentPacket) → IsIn (sent_at v q) x → Tells q x
told v q x m = split (port_in v.ports q.pt) refl m
  where
    split : (o : Option SwitchPort) → port_in v.ports q.pt ≡ o → IsIn (sent_by_port v q o) x → Tells q x
    split None e k = absurd k
    split (Some s) e (inl d) = record { port = ap (λ (y : SentPacket). y.port) (sym d) ∙ found-number v.ports q.pt s e; header = ap (λ (y : SentPacket). y.header) (sym d) }
    split (Some s) e (inr k) = absurd k

one-sent : (v : PortView) (q : Packet) → EachOnce (sent_at v q)
one-sent v q = split (port_in v.ports q.pt)
  where
    split : (o : Option SwitchPort) → EachOnce (sent_by_port v q o)
    split None = tt
    split (Some s) = ((λ y m. absurd m), tt)

-- copies that differ, and stay at their switch, are sent as different ones
sendings-once : (v : PortView) (cs : List (List Lit)) (p : Packet) → ((q : Packet) → IsIn (outcomes cs p) q → q.sw ≡ p.sw) → EachOnce (outcomes cs p) → EachOnce (sendings v cs p)
sendings-once v cs p stays once = pairs-flat_map (sent_at v) (λ q r. q ≢ r) (λ x y. x ≢ y) (outcomes cs p) once (λ q m. one-sent v q)
    (λ q r x y m n differ i j same. differ (
    let a = told v q x i in
    let b = told v r y j in
    let sw : q.sw ≡ r.sw = stays q m ∙ sym (stays r n) in
    let pt : q.pt ≡ r.pt = sym a.port ∙ ap (λ (z : SentPacket). z.port) same ∙ b.port in
    let header = sym a.header ∙ ap (λ (z : SentPacket). z.header) same ∙ b.header in
    λ k. record { sw = sw k; pt = pt k; header = header k }
    ))

-- and so they are sent once each, in whatever order
pub sent-once : (v : PortView) (cs : List (List Lit)) (p : Packet) (sent : List SentPacket) → ((q : Packet) → IsIn (outcomes cs p) q → q.sw ≡ p.sw) → EachOnce (outcomes cs p) → IsPermutation (sendings v cs p) sent → EachOnce sent
sent-once v cs p sent stays once moved = once-permuted SentPacket (sendings v cs p) sent moved (sendings-once v cs p stays once)
