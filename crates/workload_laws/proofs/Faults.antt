-- Why no such policy is refused.
use Rattle.std.proofs.Common.{◌≡◌, ◌≢◌, ℕ, ◌≤◌, ◌⊎◌, inl, inr, refl, ap, sym, ◌∙◌, subst, arith, Bool, true, false, cond, [], ◌∷◌, Option, Some, None}
use Rattle.nk_values.specs.declared.field.Field.{Field}
use Rattle.nk_values.specs.declared.field.Field.TheVariants.{Sw, Pt, EthTyp, IpProto, EthSrc, EthDst, Ip4Src, Ip4Dst, TcpSrcPort, TcpDstPort}
use Rattle.nk_values.specs.declared.packet.Packet.{Packet}
use Rattle.nk_values.specs.Members.{IsIn}
use Rattle.nk_values.specs.Packets.{with_value, IsInRange, IsWellShaped}
use Rattle.nk_values.specs.Ranges.{IsValue, place}
use Rattle.nk_values.specs.Trails.{Trail, one_packet, renewed}
use Rattle.nk_values.proofs.MemberLaws.{in-either, from-flat_map}
use Rattle.nk_syntax.specs.Terms.{Term, Terms, Filter, Assign, Sum, Seq, Star, Dup, no_terms, term}
use Rattle.history_meaning.specs.Meaning.{meets, den, union, chain}
use Rattle.nk_values.specs.declared.fault.CompileFault.{CompileFault}
use Rattle.nk_values.specs.declared.fault.CompileFault.TheVariants as fault
use Rattle.fdd_compile.specs.declared.fault.CompileError.TheVariants.{Memory, Fault}
use Rattle.fdd_compile.specs.Compiles.{IsUnguarded, IsFaultOf}
use Rattle.fdd_compile.specs.Deep.{IsFirstDeep, IsFirstDeepOf}
use Rattle.fdd_compile.specs.Leftmost.{assignment_fault, first_of, leftmost, leftmost_of}
use Rattle.fdd_compile.specs.Named.{TermAssigns, TermsAssign}
use Rattle.workload_laws.specs.Forwards.{IsDirect, AreDirect, IsAmong, Forwards}
use Rattle.workload_laws.specs.Laws.{CompilesAlways}

-- no `dup`, and no assignment that no table can make
mutual
  no_fault : (o : ℕ) (p : Term) → IsDirect p → ((f : Field) (n : ℕ) → TermAssigns p f n → IsAmong Pt o f n) → leftmost p ≡ None
  no_fault o (Filter a) d h = refl
  no_fault o (Assign f n) d h = ap assignment_fault (h f n (refl, refl)).field
  no_fault o (Sum ps) d h = no_faults o ps d h
  no_fault o (Seq ps) d h = no_faults o ps d h
  no_fault o (Star p) d h = absurd d
  no_fault o Dup d h = absurd d

  no_faults : (o : ℕ) (ps : Terms) → AreDirect ps → ((f : Field) (n : ℕ) → TermsAssign ps f n → IsAmong Pt o f n) → leftmost_of ps ≡ None
  no_faults o no_terms d h = refl
  no_faults o (term p ps) d h =
      ap (λ (x : Option CompileFault). first_of x (leftmost_of ps)) (no_fault o p d.0 (λ f n k. h f n (inl k))) ∙ no_faults o ps d.1 (λ f n k. h f n (inr k))

-- no star
mutual
  no_deep : (p : Term) (pk q : Packet) → IsDirect p → ¬ IsFirstDeep p pk q
  no_deep (Filter a) pk q d k = k
  no_deep (Assign f n) pk q d k = k
  no_deep (Sum ps) pk q d k = none_deep ps pk q d k
  no_deep (Seq ps) pk q d k = none_deep ps pk q d k
  no_deep (Star p) pk q d k = d
  no_deep Dup pk q d k = k

  none_deep : (ps : Terms) (pk q : Packet) → AreDirect ps → ¬ IsFirstDeepOf ps pk q
  none_deep no_terms pk q d k = k
  none_deep (term p ps) pk q d (inl k) = no_deep p pk q d.0 k
  none_deep (term p ps) pk q d (inr k) = none_deep ps pk q d.1 k.1

-- q is p, but for its port, which is in range
record Moved (p q : Packet) : Type 0 where
  switch : q.sw ≡ p.sw
  header : q.header ≡ p.header
  port : IsValue Pt q.pt

again : (h t : Trail) → h ≡ t → IsValue Pt h.newest.pt → Moved h.newest t.newest
again h t e v = subst (λ (u : Trail). Moved h.newest u.newest) e (record { switch = refl; header = refl; port = v })

moved_on : (p q r : Packet) → Moved p q → Moved q r → Moved p r
moved_on p q r a b = record { switch = b.switch ∙ a.switch; header = b.header ∙ a.header; port = b.port }

is_port : (o n : ℕ) → o ≤ 65279 → 1 ≤ n → n ≤ o → IsValue Pt n
is_port o n b l h = record { low = l; high = omega (arith, b, h); no_tag = λ e. absurd (let k : 1 ≡ 2 = ap place e in omega (arith, k)) }

mutual
  moves : (o : ℕ) (p : Term) (n : ℕ) (h t : Trail) → o ≤ 65279 → IsDirect p → ((f : Field) (m : ℕ) → TermAssigns p f m → IsAmong Pt o f m) → IsValue Pt h.newest.pt → IsIn (den p n h) t → Moved h.newest t.newest
  moves o (Filter a) n h t b d e v k = again h t (filter_met' (meets a h.newest) h t k) v
    where
      filter_met' : (b : Bool) (h t : Trail) → IsIn (cond b (h ∷ []) []) t → h ≡ t
      filter_met' true h t (inl i) = i
      filter_met' true h t (inr i) = absurd i
      filter_met' false h t i = absurd i
  moves o (Assign f m) n h t b d e v (inr k) = absurd k
  moves o (Assign f m) n h t b d e v (inl k) =
      let x = e f m (refl, refl) in
      let at : renewed h (with_value h.newest Pt m) ≡ t = ap (λ (g : Field). renewed h (with_value h.newest g m)) (sym x.field) ∙ k in
      subst (λ (u : Trail). Moved h.newest u.newest) at (record { switch = refl; header = refl; port = is_port o m b x.low x.high })
  moves o (Sum ps) n h t b d e v k = moves_one o ps n h t b d e v k
  moves o (Seq ps) n h t b d e v k = moves_all o ps n h t b d e v k
  moves o (Star p) n h t b d e v k = absurd d
  moves o Dup n h t b d e v k = absurd d

  moves_one : (o : ℕ) (ps : Terms) (n : ℕ) (h t : Trail) → o ≤ 65279 → AreDirect ps → ((f : Field) (m : ℕ) → TermsAssign ps f m → IsAmong Pt o f m) → IsValue Pt h.newest.pt → IsIn (union ps n h) t → Moved h.newest t.newest
  moves_one o no_terms n h t b d e v k = absurd k
  moves_one o (term p ps) n h t b d e v k = elim (in-either (den p n h) (union ps n h) t k) [
    | inl i ↦ moves o p n h t b d.0 (λ f m j. e f m (inl j)) v i
    | inr i ↦ moves_one o ps n h t b d.1 (λ f m j. e f m (inr j)) v i
  ]

  moves_all : (o : ℕ) (ps : Terms) (n : ℕ) (h t : Trail) → o ≤ 65279 → AreDirect ps → ((f : Field) (m : ℕ) → TermsAssign ps f m → IsAmong Pt o f m) → IsValue Pt h.newest.pt → IsIn (chain ps n h) t → Moved h.newest t.newest
  moves_all o no_terms n h t b d e v (inl k) = again h t k v
  moves_all o no_terms n h t b d e v (inr k) = absurd k
  moves_all o (term p ps) n h t b d e v k =
      let r = from-flat_map (chain ps n) (den p n h) t k in
      let one = moves o p n h r.0 b d.0 (λ f m j. e f m (inl j)) v r.1 in
      moved_on h.newest r.0.newest t.newest one (moves_all o ps n r.0 t b d.1 (λ f m j. e f m (inr j)) one.port r.2)

-- such a packet is well shaped
in_range : (p q : Packet) → Moved p q → IsInRange p → IsInRange q
in_range p q m r Sw = subst (IsValue Sw) (sym m.switch) (r Sw)
in_range p q m r Pt = m.port
in_range p q m r EthTyp = subst (λ h. IsValue EthTyp h.eth_typ) (sym m.header) (r EthTyp)
in_range p q m r IpProto = subst (λ h. IsValue IpProto h.ip_proto) (sym m.header) (r IpProto)
in_range p q m r EthSrc = subst (λ h. IsValue EthSrc h.eth_src) (sym m.header) (r EthSrc)
in_range p q m r EthDst = subst (λ h. IsValue EthDst h.eth_dst) (sym m.header) (r EthDst)
in_range p q m r Ip4Src = subst (λ h. IsValue Ip4Src h.ip4_src) (sym m.header) (r Ip4Src)
in_range p q m r Ip4Dst = subst (λ h. IsValue Ip4Dst h.ip4_dst) (sym m.header) (r Ip4Dst)
in_range p q m r TcpSrcPort = subst (λ h. IsValue TcpSrcPort h.tcp_src_port) (sym m.header) (r TcpSrcPort)
in_range p q m r TcpDstPort = subst (λ h. IsValue TcpDstPort h.tcp_dst_port) (sym m.header) (r TcpDstPort)

shaped : (p q : Packet) → Moved p q → IsWellShaped p → IsWellShaped q
shaped p q m s = record {
  in_range = in_range p q m s.in_range;
  ip_only = subst (λ h. h.eth_typ ≢ 2048 → (h.ip_proto ≡ 0) × (h.ip4_src ≡ 0) × (h.ip4_dst ≡ 0)) (sym m.header) s.ip_only;
  no_ports = subst (λ h. (h.eth_typ ≢ 2048) ⊎ ((h.ip_proto ≢ 6) × (h.ip_proto ≢ 17)) → (h.tcp_src_port ≡ 0) × (h.tcp_dst_port ≡ 0)) (sym m.header) s.no_ports;
}

guarded : (s o : ℕ) (p : Term) (pk : Packet) → o ≤ 65279 → Forwards s o p → ¬ IsUnguarded p pk
guarded s o p pk b f u =
    let w = moves o p u.result.is_result.0 (one_packet pk) u.result.history b f.direct f.assigns (u.shaped.in_range Pt) u.result.is_result.1 in
    u.misshaped (shaped pk u.output (subst (Moved pk) u.result.newest w) u.shaped)

no_some : (p : Term) (x : CompileFault) → leftmost p ≡ None → ¬ (leftmost p ≡ Some x)
no_some p x e h = let k : Some x ≡ None = sym h ∙ e in cc

none_of : (s o : ℕ) (p : Term) (x : CompileFault) → o ≤ 65279 → Forwards s o p → ¬ IsFaultOf p x
none_of s o p fault.Dup b f h = no_some p fault.Dup (no_fault o p f.direct f.assigns) h
none_of s o p fault.SetsSwitch b f h = no_some p fault.SetsSwitch (no_fault o p f.direct f.assigns) h
none_of s o p fault.SetsType b f h = no_some p fault.SetsType (no_fault o p f.direct f.assigns) h
none_of s o p (fault.StarDeep pk q) b f h = no_deep p pk q f.direct h.deep
none_of s o p (fault.Unguarded pk) b f h = guarded s o p pk b f h.unguarded

pub never_refused : CompilesAlways
never_refused s o p Memory b f h = refl
never_refused s o p (Fault x) b f h = absurd (none_of s o p x b f h)
