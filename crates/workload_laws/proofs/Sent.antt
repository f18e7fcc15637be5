-- What the policies of workloads make of a packet.
use Rattle.std.proofs.Common.{◌≡◌, ℕ, ◌≤◌, inl, inr, ◌==◌, List, [], ◌∷◌, refl, sym, ◌∙◌, ap, subst, arith}
use Rattle.std.specs.List.{flat_map}
use Rattle.std.proofs.lemmas.Bool.Decides.{Decides-eqb}
use Rattle.nk_values.specs.declared.field.Field.TheVariants.{Sw, Pt, EthDst}
use Rattle.nk_values.specs.declared.packet.Packet.{Packet}
use Rattle.nk_values.specs.Members.{IsIn}
use Rattle.nk_values.specs.Packets.{with_value}
use Rattle.nk_values.specs.Trails.{Trail, one_packet, renewed}
use Rattle.nk_values.proofs.MemberLaws.{in-either}
use Rattle.nk_syntax.specs.Terms.{Term, Filter, Assign, Test, no_terms, term}
use Rattle.nk_syntax.specs.Views.{term_row}
use Rattle.history_meaning.specs.Meaning.{den, union}
use Rattle.history_meaning.specs.Plain.{HasResult}
use Rattle.history_meaning.proofs.Runs.{only, from-filter, from-chain}
use Rattle.workload_laws.specs.Workload.{numbers, exit, hop, hops_at, workload}
use Rattle.workload_laws.proofs.Workloads.{hop_of}

-- the policy has sent the packet on, towards a destination on the line
pub record IsSentOn (s : ℕ) (pk q : Packet) : Type 0 where
  pub first : 1 ≤ pk.sw
  pub last : pk.sw ≤ s
  pub low : 1 ≤ pk.header.eth_dst
  pub high : pk.header.eth_dst ≤ s
  pub is : q ≡ record pk { pt = exit pk.sw pk.header.eth_dst }

hop-result : (i d n : ℕ) (pk : Packet) (y : Trail) → IsIn (den (hop i d) n (one_packet pk)) y → (pk.sw ≡ i) × (pk.header.eth_dst ≡ d) × (y.newest ≡ with_value pk Pt (exit i d))
hop-result i d n pk y m =
    let x = one_packet pk in
    let r = from-chain (Filter (Test Sw i)) (term (Filter (Test EthDst d)) (term (Assign Pt (exit i d)) no_terms)) n x y m in
    let q = from-chain (Filter (Test EthDst d)) (term (Assign Pt (exit i d)) no_terms) n r.0 y r.2 in
    let t = from-chain (Assign Pt (exit i d)) no_terms n q.0 y q.2 in
    let f = from-filter (pk.sw == i) x r.0 r.1 in
    let g = from-filter (r.0.newest.header.eth_dst == d) r.0 q.0 q.1 in
    let same : x ≡ q.0 = f.1 ∙ g.1 in (
      (Decides-eqb pk.sw i).0 f.0,
      ap (λ (z : Trail). z.newest.header.eth_dst) f.1 ∙ (Decides-eqb r.0.newest.header.eth_dst d).0 g.0,
      ap (λ (z : Trail). z.newest) (sym (only (renewed q.0 (with_value q.0.newest Pt (exit i d))) t.0 t.1 ∙ only t.0 y t.2)) ∙ ap (λ (z : Trail). with_value z.newest Pt (exit i d)) (sym same),
    )

from-union : (ps : List Term) (n : ℕ) (x y : Trail) → IsIn (union (term_row ps) n x) y → (p : Term) × IsIn ps p × IsIn (den p n x) y
from-union [] n x y m = absurd m
from-union (p ∷ ps) n x y m = elim (in-either (den p n x) (union (term_row ps) n x) y m) [ inl h ↦ (p, inl refl, h) | inr h ↦ let r = from-union ps n x y h in (r.0, inr r.1, r.2) ]

pub sent-on : (s b : ℕ) (policy : Term) (pk q : Packet) → policy ≡ workload s b → HasResult policy pk q → IsSentOn s pk q
sent-on s b policy pk q same r =
    let n = r.is_result.0 in
    let u = from-union (flat_map (hops_at s b) (numbers 1 s)) n (one_packet pk) r.history (subst (λ (p : Term). IsIn (den p n (one_packet pk)) r.history) same r.is_result.1) in
    let h = hop_of s b u.0 u.1 in
    let e = hop-result h.switch h.goal n pk r.history (subst (λ (p : Term). IsIn (den p n (one_packet pk)) r.history) (sym h.is) u.2) in
    record {
      first = omega (arith, e.0, h.first);
      last = omega (arith, e.0, h.last);
      low = omega (arith, e.1, h.low);
      high = omega (arith, e.1, h.high);
      is = sym r.newest ∙ e.2 ∙ (λ i. record pk { pt = exit (sym e.0 i) (sym e.1 i) });
    }
