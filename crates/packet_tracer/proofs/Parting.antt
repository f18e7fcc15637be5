-- What a hop makes of a copy has parted.
use Rattle.std.proofs.Common.{◌≡◌, ◌≢◌, ℕ, suc, inl, inr, List, [], ◌∷◌, length, sym, ◌∙◌, ap, subst, Option, Some, None, arith}
use Rattle.nk_values.specs.declared.packet.Packet.{Packet}
use Rattle.nk_values.specs.declared.row.Row.{Row}
use Rattle.nk_values.specs.declared.sent.SentPacket.{SentPacket}
use Rattle.nk_values.specs.Acts.{acted}
use Rattle.nk_values.specs.Members.{IsIn, Pairs}
use Rattle.nk_values.specs.Trails.{Trail, packets, IsPast, HaveParted}
use Rattle.nk_values.proofs.MemberLaws.{from-flat_map}
use Rattle.nk_values.proofs.PairLaws.{pairs-weaker, pairs-flat_map, pairs-one}
use Rattle.nk_values.proofs.PastLaws.{first-same, past-more, past-same, past-length}
use Rattle.nk_syntax.specs.Terms.{Term}
use Rattle.history_meaning.specs.Network.{Location}
use Rattle.history_meaning.proofs.Runs.{from-filter}
use Rattle.topology_model.specs.Layouts.{Layout, far_end, is_edge, wiring}
use Rattle.topology_model.proofs.Ranges.{edges_apart}
use Rattle.policy_rows.specs.Means.{AnswersPolicy, incoming, standing, sent_packet}
use Rattle.packet_tracer.specs.declared.flight.Flight.{Flight}
use Rattle.packet_tracer.specs.Hops.{ended, carried, arriving, next_flight, ends_of, flights_of}
use Rattle.packet_tracer.specs.Laws.{ComesApart, HopsPart}

-- what is sent, as packets of a switch
abbrev Differ : ℕ → SentPacket → SentPacket → Type 0
Differ sw x y = sent_packet sw x ≢ sent_packet sw y

-- a packet is sent with one tag
same-sent : (t : Layout) (p : Term) (stamp : ℕ) (rows : List Row) (tag : Option ℕ) (pk : Packet) (n : AnswersPolicy (wiring t) p stamp rows tag pk) (x y : SentPacket) →
    IsIn (acted n.row.actions (incoming pk tag)) x → IsIn (acted n.row.actions (incoming pk tag)) y → sent_packet pk.sw x ≡ sent_packet pk.sw y → x ≡ y
same-sent t p stamp rows tag pk n x y k l e =
    let port : x.port ≡ y.port = ap (λ (q : Packet). q.pt) e in
    let header : x.header ≡ y.header = ap (λ (q : Packet). q.header) e in
    let here : standing (sent_packet pk.sw x) ≡ standing (sent_packet pk.sw y) = ap standing e in
    let same : x.tag ≡ y.tag = elim (n.tags x k) [
      | inl a ↦ elim (n.tags y l) [
        | inl b ↦ a.1 ∙ sym b.1
        | inr b ↦ absurd (edges_apart t (standing (sent_packet pk.sw y)) b.0 (subst (λ (z : Location). IsIn (wiring t).edges z) here a.0) b.1)
      ]
      | inr a ↦ elim (n.tags y l) [
        | inl b ↦ absurd (edges_apart t (standing (sent_packet pk.sw x)) a.0 (subst (λ (z : Location). IsIn (wiring t).edges z) (sym here) b.0) a.1)
        | inr b ↦ a.2 ∙ sym b.2
      ]
    ] in
    λ i. record { port = port i; header = header i; tag = same i }

sent-differ : (t : Layout) (p : Term) (stamp : ℕ) (rows : List Row) (tag : Option ℕ) (pk : Packet) (n : AnswersPolicy (wiring t) p stamp rows tag pk) → Pairs (Differ pk.sw) (acted n.row.actions (incoming pk tag))
sent-differ t p stamp rows tag pk n =
    pairs-weaker (λ x y. x ≢ y) (Differ pk.sw) (acted n.row.actions (incoming pk tag)) (λ x y k l d e. d (same-sent t p stamp rows tag pk n x y k l e)) n.once

-- what a sent packet finishes, and what it sends on
end-is : (t : Layout) (f : Flight) (x : SentPacket) (e : Trail) → IsIn (ends_of t f x) e → ended f.history (sent_packet f.history.newest.sw x) ≡ e
end-is t f x e m =
    let q = sent_packet f.history.newest.sw x in
    (from-filter (is_edge t (standing q)) (ended f.history q) e m).1

next-is : (t : Layout) (f : Flight) (x : SentPacket) (g : Flight) → IsIn (flights_of t f x) g → (b : Location) × (g.history ≡ carried f.history (sent_packet f.history.newest.sw x) b)
next-is t f x g m = split (far_end t.links (standing (sent_packet f.history.newest.sw x))) m
  where
    split : (o : Option Location) → IsIn (next_flight f (sent_packet f.history.newest.sw x) x.tag o) g → (b : Location) × (g.history ≡ carried f.history (sent_packet f.history.newest.sw x) b)
    split None k = absurd k
    split (Some b) (inl e) = (b, ap (λ (c : Flight). c.history) (sym e))
    split (Some b) (inr k) = absurd k

-- one sent packet makes one copy at most
one-flight : (t : Layout) (f : Flight) (x : SentPacket) (R : Flight → Flight → Type 0) → Pairs R (flights_of t f x)
one-flight t f x R = split (far_end t.links (standing (sent_packet f.history.newest.sw x)))
  where
    split : (o : Option Location) → Pairs R (next_flight f (sent_packet f.history.newest.sw x) x.tag o)
    split None = tt
    split (Some b) = ((λ y m. absurd m), tt)

-- copies of different packets have parted
carried-apart : (h : Trail) (q r : Packet) (a b : Location) (g k : Trail) → q ≢ r → g ≡ carried h q a → k ≡ carried h r b → ¬ IsPast g k
carried-apart h q r a b g k n d e p =
    let same : length g.older ≡ length k.older = ap (λ (x : Trail). length x.older) d ∙ sym (ap (λ (x : Trail). length x.older) e) in
    let z : g ≡ k = past-same g k p same in
    n (first-same q r (packets h) (packets h) (ap (λ (x : Trail). x.older) (sym d ∙ z ∙ e)))

pub parts : (t : Layout) (f : Flight) (sent : List SentPacket) → Pairs (Differ f.history.newest.sw) sent → ComesApart t f sent
parts t f sent differ = let sw = f.history.newest.sw in record {
  finished = pairs-flat_map (ends_of t f) (Differ sw) (λ e k. e ≢ k) sent differ
      (λ x m. pairs-one (λ e k. e ≢ k) (is_edge t (standing (sent_packet sw x))) (ended f.history (sent_packet sw x)))
      (λ x y e k m n d i j same. d (ap (λ (z : Trail). z.newest) (end-is t f x e i ∙ same ∙ sym (end-is t f y k j))));
  flights = pairs-flat_map (flights_of t f) (Differ sw) (λ g k. HaveParted g.history k.history) sent differ
      (λ x m. one-flight t f x (λ g k. HaveParted g.history k.history))
      (λ x y g k m n d i j.
      let a = next-is t f x g i in
      let b = next-is t f y k j in
      record {
        left = carried-apart f.history (sent_packet sw x) (sent_packet sw y) a.0 b.0 g.history k.history d a.1 b.1;
        right = carried-apart f.history (sent_packet sw y) (sent_packet sw x) b.0 a.0 k.history g.history (λ z. d (sym z)) b.1 a.1;
      });
  landed = λ g e m n p.
      let r = from-flat_map (flights_of t f) sent g m in
      let s = from-flat_map (ends_of t f) sent e n in
      let long : length g.history.older ≡ suc (suc (length f.history.older)) = ap (λ (z : Trail). length z.older) (next-is t f r.0 g r.2).1 in
      let short : suc (length f.history.older) ≡ length e.older = ap (λ (z : Trail). length z.older) (end-is t f s.0 e s.2) in
      omega (arith, long, short, past-length g.history e p);
  ended = λ e m.
      let s = from-flat_map (ends_of t f) sent e m in
      past-more f.history e [] (ap (λ (z : Trail). z.older) (sym (end-is t f s.0 e s.2)));
  went_on = λ g m.
      let r = from-flat_map (flights_of t f) sent g m in
      let b = next-is t f r.0 g r.2 in
      past-more f.history g.history (sent_packet sw r.0 ∷ []) (ap (λ (z : Trail). z.older) b.1);
}

pub hops-part : HopsPart
hops-part t p stamp rows f n = parts t f (acted n.row.actions (arriving f)) (sent-differ t p stamp rows f.tag f.history.newest n)
