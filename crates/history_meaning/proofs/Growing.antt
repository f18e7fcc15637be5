-- A copy's futures have its history as their past, whatever the policy.
use Rattle.std.proofs.Common.{◌≡◌, ℕ, zero, suc, inl, inr, List, [], ◌∷◌, ◌++◌, sym, ◌∙◌, ap, subst}
use Rattle.std.specs.List.{flat_map}
use Rattle.std.proofs.lemmas.List.{append_assoc}
use Rattle.nk_values.specs.declared.packet.Packet.{Packet}
use Rattle.nk_values.specs.Members.{IsIn}
use Rattle.nk_values.specs.Packets.{with_value}
use Rattle.nk_values.specs.Trails.{Trail, renewed, doubled, IsPast}
use Rattle.nk_values.proofs.MemberLaws.{in-either, from-flat_map}
use Rattle.nk_values.proofs.PastLaws.{past-self, past-more, past-then}
use Rattle.nk_syntax.specs.Terms.{Term, Terms, Filter, Assign, Sum, Seq, Star, Dup, no_terms, term}
use Rattle.nk_syntax.specs.Views.{term_row}
use Rattle.history_meaning.specs.Meaning.{meets, den, union, chain, times, up_to}
use Rattle.history_meaning.specs.Network.{Wiring, hop, edge_term, link_term}
use Rattle.history_meaning.specs.Laws.{FuturesGoOn}
use Rattle.history_meaning.proofs.Runs.{only, from-filter, from-chain, from-up_to}

-- the older packets of h are still there, behind others
record Grows (h t : Trail) : Type 0 where
  since : List Packet
  all : t.older ≡ since ++ h.older

record Adds (step : Trail → List Trail) : Type 0 where
  at : (h t : Trail) → IsIn (step h) t → Grows h t

grows-same : (h t : Trail) → h.older ≡ t.older → Grows h t
grows-same h t e = record { since = []; all = sym e }

grows-then : (h t u : Trail) → Grows h t → Grows t u → Grows h u
grows-then h t u a b = record { since = b.since ++ a.since; all = b.all ∙ ap (λ (ps : List Packet). b.since ++ ps) a.all ∙ sym (append_assoc b.since a.since h.older) }

adds-same : Adds (λ h. h ∷ [])
adds-same = record { at = λ h t m. grows-same h t (ap (λ (x : Trail). x.older) (only h t m)) }

adds-then : (f g : Trail → List Trail) → Adds f → Adds g → Adds (λ h. flat_map g (f h))
adds-then f g F G = record { at = λ h t m. let r = from-flat_map g (f h) t m in grows-then h r.0 t (F.at h r.0 r.1) (G.at r.0 t r.2) }

adds-or : (f g : Trail → List Trail) → Adds f → Adds g → Adds (λ h. f h ++ g h)
adds-or f g F G = record { at = λ h t m. elim (in-either (f h) (g h) t m) [ inl a ↦ F.at h t a | inr b ↦ G.at h t b ] }

adds-times : (k : ℕ) (f : Trail → List Trail) → Adds f → Adds (times k f)
adds-times zero f F = adds-same
adds-times (suc k) f F = adds-then (times k f) f (adds-times k f F) F

adds-up_to : (n : ℕ) (f : Trail → List Trail) → Adds f → Adds (up_to n f)
adds-up_to zero f F = adds-same
adds-up_to (suc n) f F = adds-or (up_to n f) (times (suc n) f) (adds-up_to n f F) (adds-times (suc n) f F)

mutual
  adds : (p : Term) (n : ℕ) → Adds (den p n)
  adds (Filter a) n = record { at = λ h t m. grows-same h t (ap (λ (x : Trail). x.older) (from-filter (meets a h.newest) h t m).1) }
  adds (Assign f v) n = record { at = λ h t m. grows-same h t (ap (λ (x : Trail). x.older) (only (renewed h (with_value h.newest f v)) t m)) }
  adds (Sum ps) n = adds-union ps n
  adds (Seq ps) n = adds-chain ps n
  adds (Star p) n = adds-up_to n (den p n) (adds p n)
  adds Dup n = record { at = λ h t m. record { since = h.newest ∷ []; all = ap (λ (x : Trail). x.older) (sym (only (doubled h) t m)) } }

  adds-union : (ps : Terms) (n : ℕ) → Adds (union ps n)
  adds-union no_terms n = record { at = λ h t m. absurd m }
  adds-union (term p ps) n = adds-or (den p n) (union ps n) (adds p n) (adds-union ps n)

  adds-chain : (ps : Terms) (n : ℕ) → Adds (chain ps n)
  adds-chain no_terms n = adds-same
  adds-chain (term p ps) n = adds-then (den p n) (chain ps n) (adds p n) (adds-chain ps n)

-- `dup; ..` leaves a history as it is, and goes on from it
dup-past : (ps : Terms) (n : ℕ) (h e : Trail) → IsIn (chain (term Dup ps) n h) e → IsPast h e
dup-past ps n h e m =
    let r = from-chain Dup ps n h e m in
    let g = (adds-chain ps n).at r.0 e r.2 in
    past-more h e g.since (g.all ∙ ap (λ (x : Trail). g.since ++ x.older) (sym (only (doubled h) r.0 r.1)))

times-past : (w : Wiring) (p : Term) (n k : ℕ) (h z : Trail) → IsIn (times k (den (hop w p) n) h) z → IsPast h z
times-past w p n zero h z m = subst (λ (x : Trail). IsPast h x) (only h z m) (past-self h)
times-past w p n (suc k) h z m =
    let r = from-flat_map (den (hop w p) n) (times k (den (hop w p) n) h) z m in
    past-then h r.0 z (times-past w p n k h r.0 r.1) (dup-past (term_row (p ∷ Dup ∷ link_term w ∷ [])) n r.0 z r.2)

pub future-past : FuturesGoOn
future-past w p h e (n, m) =
    let a = from-chain (Star (hop w p)) (term_row (Dup ∷ p ∷ edge_term w ∷ [])) n h e m in
    let b = from-up_to n (den (hop w p) n) h a.0 a.1 in
    past-then h a.0 e (times-past w p n b.0 h a.0 b.1) (dup-past (term_row (p ∷ edge_term w ∷ [])) n a.0 e a.2)
