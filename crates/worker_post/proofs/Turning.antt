-- One cycle of a worker.
use Rattle.std.proofs.Common.{◌≡◌, ℕ, inl, List, [], ◌∷◌, ◌++◌, Option, Some, None, refl, sym, ap, subst, ◌∙◌, append-nil}
use Rattle.std.specs.Prelude.{IfSome}
use Rattle.std.specs.Io.KnownBytes.{Appends}
use Rattle.openflow_wire.specs.declared.message.Message.{Message}
use Rattle.openflow_wire.specs.Writing.{written}
use Rattle.outside_net.specs.Told.{Grows}
use Rattle.worker_desk.specs.Answers.{grown}
use Rattle.worker_post.specs.Telling.{Spans}
use Rattle.worker_post.specs.Working.{TellsStream, Continues, IsFollowing}
use Rattle.worker_post.specs.Works.{IsWorkAt, IsEnd}
use Rattle.worker_post.specs.Cycles.{HasEnd, GoesOn, Works, EndIs, GoesOnWith, SentCycle, ToldCycle}
use Rattle.worker_post.specs.declared.post.CycleEnd.{CycleEnd}
use Rattle.worker_post.specs.declared.post.CycleEnd.TheVariants.{Going, Shut, New, Stop, Memory, Kept}
use Rattle.worker_post.proofs.Streaming.{grows-more, spans-more}
use Rattle.worker_post.proofs.Sending.{at-sent, end-sent}

pub grown-none : {X : Type 0} (a : Option (List X)) → grown a [] ≡ a
grown-none {X} None = refl
grown-none {X} (Some xs) = ap (λ (ys : List X). Some ys) (append-nil xs)

pub following-more : (r r1 : Option (List ℕ)) (held now more : List ℕ) (k : ℕ) → IsFollowing r held k → Grows r r1 more → now ≡ held ++ more → IsFollowing r1 now k
following-more None r1 held now more k f g is = subst (λ (o : Option (List ℕ)). IsFollowing o now k) (sym g) tt
following-more (Some xs) r1 held now more k f g is =
    let x : IsFollowing (Some (xs ++ more)) now k = (f.0, subst (λ (ys : List ℕ). Spans (xs ++ more) f.0 ys) (sym is) (spans-more f.0 xs held more f.1), f.2) in
    subst (λ (o : Option (List ℕ)). IsFollowing o now k) (sym g) x

pub memory-tells : (t0 t t1 : Option (List (List ℕ))) (r0 r r1 : Option (List ℕ)) (held more : List ℕ) (k : ℕ) → Continues t0 t r0 r held k → Grows r r1 more → t1 ≡ t → TellsStream t0 t1 r0 r1
memory-tells t0 t t1 r0 r r1 held more k h g same = record {
  pieces = h.pieces;
  bytes = h.bytes ++ more;
  were_told = same ∙ h.were_told;
  were_received = grows-more r0 r r1 h.bytes more h.were_received g;
  beginning = inl (held ++ more, spans-more h.pieces h.bytes held more h.spans);
}

pub goes-with : {E : Type 0} (received : E → Option (List ℕ)) (end : E) (held : List ℕ) (k : ℕ) (kept : Option E) (a : CycleEnd E) → HasEnd end kept a → GoesOn a (IsFollowing (received end) held k) (Unit {0}) → GoesOnWith (λ e. IsFollowing (received e) held k) a
goes-with received end held k kept (Going e) is f = subst (λ x. IsFollowing (received x) held k) (sym is) f
goes-with received end held k kept (Shut e) is f = tt
goes-with received end held k kept (New e new) is f = tt
goes-with received end held k kept (Stop e) is f = tt
goes-with received end held k kept (Memory e) is f = tt
goes-with received end held k kept Kept is f = tt

pub told-cycle : {E : Type 0} (received : E → Option (List ℕ)) (end : E) (kept : Option E) (t0 : Option (List (List ℕ))) (r0 : Option (List ℕ)) (told : Option (List (List ℕ))) (held : List ℕ) (k : ℕ) (a : CycleEnd E)
    → HasEnd end kept a → GoesOn a (Continues t0 told r0 (received end) held k) (TellsStream t0 told r0 (received end)) → ToldCycle received kept t0 r0 told held k a
told-cycle received end kept t0 r0 told held k (Going e) is f = subst (λ x. Continues t0 told r0 (received x) held k) (sym is) f
told-cycle received end kept t0 r0 told held k (Shut e) is f = subst (λ x. TellsStream t0 told r0 (received x)) (sym is) f
told-cycle received end kept t0 r0 told held k (New e new) is f = subst (λ x. TellsStream t0 told r0 (received x)) (sym is) f
told-cycle received end kept t0 r0 told held k (Stop e) is f = subst (λ x. TellsStream t0 told r0 (received x)) (sym is) f
told-cycle received end kept t0 r0 told held k (Memory e) is f = subst (λ x. TellsStream t0 told r0 (received x)) (sym is) f
told-cycle received end None t0 r0 told held k Kept is f = tt
told-cycle received end (Some e) t0 r0 told held k Kept is f = subst (λ x. TellsStream t0 told r0 (received x)) (sym is) f

pub sent-works : {E : Type 0} (sent received : E → Option (List ℕ)) (named : E → ℕ) (end : E) (kept : Option E) (g0 : Option (List Message)) (t0 : Option (List (List ℕ))) (s0 r0 : Option (List ℕ)) (g g1 : Option (List Message)) (t t1 : Option (List (List ℕ))) (held : List ℕ) (k : ℕ) (m : Message) (a : CycleEnd E)
    → IsWorkAt g0 t0 s0 r0 g t (sent end) (received end) held k → g1 ≡ grown g (m ∷ []) → t1 ≡ t
    → EndIs (λ e. (received e ≡ received end) × (named e ≡ named end)) kept a → SentCycle sent kept (sent end) (written m) a → Works sent received kept g0 t0 s0 r0 g1 t1 held k a
sent-works sent received named end kept g0 t0 s0 r0 g g1 t t1 held k m (Going e) h given told same went =
    subst (λ x. IsWorkAt g0 t0 s0 r0 g1 x (sent e) (received e) held k) (sym told) (subst (λ x. IsWorkAt g0 t0 s0 r0 g1 t (sent e) x held k) (sym same.0) (at-sent g0 t0 s0 r0 g g1 t (sent end) (sent e) (received end) held k m h given went))
sent-works sent received named end kept g0 t0 s0 r0 g g1 t t1 held k m (Shut e) h given told same went =
    subst (λ x. IsEnd g0 t0 s0 r0 g1 x (sent e) (received e)) (sym told) (subst (λ x. IsEnd g0 t0 s0 r0 g1 t (sent e) x) (sym same.0) (end-sent g0 t0 s0 r0 g g1 t (sent end) (sent e) (received end) held k m h given went))
sent-works sent received named end kept g0 t0 s0 r0 g g1 t t1 held k m (New e new) h given told same went =
    subst (λ x. IsEnd g0 t0 s0 r0 g1 x (sent e) (received e)) (sym told) (subst (λ x. IsEnd g0 t0 s0 r0 g1 t (sent e) x) (sym same.0) (end-sent g0 t0 s0 r0 g g1 t (sent end) (sent e) (received end) held k m h given went))
sent-works sent received named end kept g0 t0 s0 r0 g g1 t t1 held k m (Stop e) h given told same went =
    subst (λ x. IsEnd g0 t0 s0 r0 g1 x (sent e) (received e)) (sym told) (subst (λ x. IsEnd g0 t0 s0 r0 g1 t (sent e) x) (sym same.0) (end-sent g0 t0 s0 r0 g g1 t (sent end) (sent e) (received end) held k m h given went))
sent-works sent received named end kept g0 t0 s0 r0 g g1 t t1 held k m (Memory e) h given told same went =
    subst (λ x. IsEnd g0 t0 s0 r0 g1 x (sent e) (received e)) (sym told) (subst (λ x. IsEnd g0 t0 s0 r0 g1 t (sent e) x) (sym same.0) (end-sent g0 t0 s0 r0 g g1 t (sent end) (sent e) (received end) held k m h given went))
sent-works sent received named end None g0 t0 s0 r0 g g1 t t1 held k m Kept h given told same went = tt
sent-works sent received named end (Some e) g0 t0 s0 r0 g g1 t t1 held k m Kept h given told same went =
    subst (λ x. IsEnd g0 t0 s0 r0 g1 x (sent e) (received e)) (sym told) (subst (λ x. IsEnd g0 t0 s0 r0 g1 t (sent e) x) (sym same.0) (end-sent g0 t0 s0 r0 g g1 t (sent end) (sent e) (received end) held k m h given went))

end-told : (g0 : Option (List Message)) (t0 : Option (List (List ℕ))) (s0 r0 : Option (List ℕ)) (g g1 : Option (List Message)) (t t1 : Option (List (List ℕ))) (s s1 r r1 : Option (List ℕ)) (held : List ℕ) (k : ℕ)
    → IsWorkAt g0 t0 s0 r0 g t s r held k → g1 ≡ g → s1 ≡ s → TellsStream t0 t1 r0 r1 → IsEnd g0 t0 s0 r0 g1 t1 s1 r1
end-told g0 t0 s0 r0 g g1 t t1 s s1 r r1 held k h given sent told = record {
  carries = record { messages = h.messages; bytes = h.bytes; were_given = given ∙ h.were_given; were_sent = subst (λ (x : Option (List ℕ)). Appends s0 x h.bytes) (sym sent) h.were_sent; same = inl h.same };
  tells = told;
}

pub told-works : {E : Type 0} (sent received : E → Option (List ℕ)) (named : E → ℕ) (end : E) (kept : Option E) (g0 : Option (List Message)) (t0 : Option (List (List ℕ))) (s0 r0 : Option (List ℕ)) (g g1 : Option (List Message)) (t t1 : Option (List (List ℕ))) (held now : List ℕ) (k j : ℕ) (a : CycleEnd E)
    → IsWorkAt g0 t0 s0 r0 g t (sent end) (received end) held k → g1 ≡ g
    → EndIs (λ e. (sent e ≡ sent end) × (named e ≡ named end)) kept a → ToldCycle received kept t0 r0 t1 now j a → Works sent received kept g0 t0 s0 r0 g1 t1 now j a
told-works sent received named end kept g0 t0 s0 r0 g g1 t t1 held now k j (Going e) h given same told = record {
  messages = h.messages;
  bytes = h.bytes;
  were_given = given ∙ h.were_given;
  were_sent = subst (λ (x : Option (List ℕ)). Appends s0 x h.bytes) (sym same.0) h.were_sent;
  same = h.same;
  stream = told;
}
told-works sent received named end kept g0 t0 s0 r0 g g1 t t1 held now k j (Shut e) h given same told = end-told g0 t0 s0 r0 g g1 t t1 (sent end) (sent e) (received end) (received e) held k h given same.0 told
told-works sent received named end kept g0 t0 s0 r0 g g1 t t1 held now k j (New e new) h given same told = end-told g0 t0 s0 r0 g g1 t t1 (sent end) (sent e) (received end) (received e) held k h given same.0 told
told-works sent received named end kept g0 t0 s0 r0 g g1 t t1 held now k j (Stop e) h given same told = end-told g0 t0 s0 r0 g g1 t t1 (sent end) (sent e) (received end) (received e) held k h given same.0 told
told-works sent received named end kept g0 t0 s0 r0 g g1 t t1 held now k j (Memory e) h given same told = end-told g0 t0 s0 r0 g g1 t t1 (sent end) (sent e) (received end) (received e) held k h given same.0 told
told-works sent received named end None g0 t0 s0 r0 g g1 t t1 held now k j Kept h given same told = tt
told-works sent received named end (Some e) g0 t0 s0 r0 g g1 t t1 held now k j Kept h given same told = end-told g0 t0 s0 r0 g g1 t t1 (sent end) (sent e) (received end) (received e) held k h given same.0 told

appends-none : (s : Option (List ℕ)) → Appends s s []
appends-none None = tt
appends-none (Some xs) = sym (append-nil xs)

grows-none : (s : Option (List ℕ)) → Grows s s []
grows-none None = refl
grows-none (Some xs) = ap (λ (ys : List ℕ). Some ys) (sym (append-nil xs))

pub at-start : (g : Option (List Message)) (t : Option (List (List ℕ))) (s r : Option (List ℕ)) (held : List ℕ) → held ≡ [] → IsWorkAt g t s r g t s r held 0
at-start g t s r held none = record {
  messages = [];
  bytes = [];
  were_given = sym (grown-none g);
  were_sent = appends-none s;
  same = refl;
  stream = record { pieces = []; bytes = []; were_told = sym (grown-none t); were_received = grows-none r; spans = sym none; count = refl };
}

pub following-start : (r : Option (List ℕ)) (held : List ℕ) → IfSome r (λ xs. xs ≡ []) → held ≡ [] → IsFollowing r held 0
following-start None held f none = tt
following-start (Some xs) held f none = ([], f ∙ sym none, refl)
