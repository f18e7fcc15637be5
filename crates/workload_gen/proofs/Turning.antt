-- Turns of a drawn run.
use Rattle.std.proofs.Common.{◌≡◌, ◌≢◌, ℕ, zero, suc, ◌-◌, ◌%◌, ◌^◌, ◌<◌, inl, inr, min, List, [], ◌∷◌, ◌++◌, length, refl, sym, ◌∙◌, ap, subst, Option, None, Some, IfNone, IfSome, slice_get, Result, Ok, Err, IfErr, arith}
use Rattle.std.proofs.Math.Nat.{mod-lt, mod-eq_of_lt}
use Rattle.std.proofs.lemmas.Bool.{cases_lt}
use Rattle.std.proofs.lemmas.List.{length-append}
use Rattle.rand_pcg.specs.Lcg.{Lcg}
use Rattle.document_text.specs.declared.document.PacketLine.{PacketLine}
use Rattle.update_laws.proofs.Places.{get-some}
use Rattle.world_core.specs.declared.event.Event.{Event}
use Rattle.world_core.specs.Steps.{IsEnabled, Runs, Step}
use Rattle.world_core.specs.Settling.{NoneIs}
use Rattle.world_core.specs.Worlds.{WorldValue}
use Rattle.workload_gen.specs.Draws.{Drawn, Draws, IsDrawn, left_by, left_behind, tried}
use Rattle.workload_gen.specs.Counts.{Finds, IsCount}
use Rattle.workload_gen.specs.Words.{next_word, behind}
use Rattle.workload_gen.proofs.Enabled.{enabled-can, none-can}

-- ---- runs

behind-more : (n : ℕ) (g : Lcg) → behind (suc n) g ≡ (next_word (behind n g)).1
behind-more zero g = refl
behind-more (suc n) g = behind-more n (next_word g).1

pub words-more : (es : List Event) (e : Event) (g : Lcg) → behind (length (es ++ e ∷ [])) g ≡ (next_word (behind (length es) g)).1
words-more es e g = ap (λ (n : ℕ). behind n g) more ∙ behind-more (length es) g
  where
    more : length (es ++ e ∷ []) ≡ suc (length es)
    more = let l = length-append es (e ∷ []) in omega (arith, l)

pub left-more : (es : List Event) (e : Event) (lines : List PacketLine) → left_behind (es ++ e ∷ []) lines ≡ left_by e (left_behind es lines)
left-more [] e lines = refl
left-more (d ∷ es) e lines = left-more es e (left_by d lines)

pub drawn-more : (lines : List PacketLine) (g : Lcg) (w : WorldValue) (es : List Event) (x : WorldValue) (e : Event) (v : WorldValue) → Drawn lines g w es x → IsDrawn (left_behind es lines) x (behind (length es) g) e → Step x e v → Drawn lines g w (es ++ e ∷ []) v
drawn-more lines g w [] x e v f d s = subst (λ (z : WorldValue). Drawn lines g z (e ∷ []) v) (sym f) (v, d, s, refl)
drawn-more lines g w (d ∷ es) x e v f h s = (f.0, f.1, f.2, drawn-more (left_by d lines) (next_word g).1 f.0 es x e v f.3 h s)

pub drawn-runs : (lines : List PacketLine) (g : Lcg) (w : WorldValue) (es : List Event) (v : WorldValue) → Drawn lines g w es v → Runs w es v
drawn-runs lines g w [] v d = d
drawn-runs lines g w (e ∷ es) v d = (d.0, d.2, drawn-runs (left_by e lines) (next_word g).1 d.0 es v d.3)

pub drawn-can : (lines : List PacketLine) (w : WorldValue) (g : Lcg) (e : Event) → IsDrawn lines w g e → IsEnabled w e
drawn-can lines w g e d = enabled-can w (tried lines w) d.events _ e d.enabled d.drawn

pub any-err : {A B P : Type 0} (r : Result A B) → P → IfErr r (λ e. P)
any-err (Ok x) p = tt
any-err (Err x) p = p

-- what holds of a run so far
pub record IsSoFar (lines : List PacketLine) (g : Lcg) (w : WorldValue) (es : List Event) (left : List PacketLine) (h : Lcg) (v : WorldValue) : Type 0 where
  pub drawn : Drawn lines g w es v
  pub left_is : left ≡ left_behind es lines
  pub words : h ≡ behind (length es) g

pub so-far-more : (lines : List PacketLine) (g : Lcg) (w : WorldValue) (es : List Event) (left : List PacketLine) (h : Lcg) (x : WorldValue) (e : Event) (fs : List Event) (rest : List PacketLine) (k : Lcg) (v : WorldValue) →
    IsSoFar lines g w es left h x → IsDrawn left x h e → Step x e v → fs ≡ es ++ e ∷ [] → rest ≡ left_by e left → k ≡ (next_word h).1 → IsSoFar lines g w fs rest k v
so-far-more lines g w es left h x e fs rest k v s d step a b c =
    subst (λ (us : List Event). IsSoFar lines g w us rest k v) (sym a) (record {
      drawn = drawn-more lines g w es x e v s.drawn (subst (λ (ls : List PacketLine). IsDrawn ls x (behind (length es) g) e) s.left_is (subst (λ (z : Lcg). IsDrawn left x z e) s.words d)) step;
      left_is = b ∙ ap (λ (ls : List PacketLine). left_by e ls) s.left_is ∙ sym (left-more es e lines);
      words = c ∙ ap (λ (z : Lcg). (next_word z).1) s.words ∙ sym (words-more es e g);
    })

pub so-far-over : (lines : List PacketLine) (g : Lcg) (w : WorldValue) (es : List Event) (left : List PacketLine) (h : Lcg) (v : WorldValue) → IsSoFar lines g w es left h v → NoneIs v (tried left v) → Draws lines g w es v
so-far-over lines g w es left h v s n = record { done = s.drawn; over = subst (λ (ls : List PacketLine). NoneIs v (tried ls v)) s.left_is n }

-- ---- one turn

-- the count stops at a number m that words stay below: then they leave the same
pub same-rest : (w n k m : ℕ) → n ≡ min k m → w < m → n ≢ 0 → (w % n ≡ w % k) × (w % k < k)
same-rest w n k m e l d = elim (cases_lt m k) [
  | inl h ↦
      let full : n ≡ m = omega (arith, e, h) in
      let one : w % k ≡ w = mod-eq_of_lt (omega (arith, l, h)) in
      let two : w % n ≡ w = ap (λ (i : ℕ). w % i) full ∙ mod-eq_of_lt l in
      (two ∙ sym one, omega (arith, one, l, h))
  | inr h ↦
      let same : n ≡ k = omega (arith, e, h) in
      (ap (λ (i : ℕ). w % i) same, mod-lt w {m = k} (omega (arith, d, same)))
]

pub count-none : (w : WorldValue) (cs : List Event) (n : ℕ) → IsCount w cs n → n ≡ 0 → NoneIs w cs
count-none w cs n c e = none-can w cs c.events c.enabled (let k = c.count in omega (arith, k, e))

-- the event that is found once all were counted
pub drawn-found : (lines : List PacketLine) (w : WorldValue) (g : Lcg) (n : ℕ) (o : Option Event) → IsCount w (tried lines w) n → (word : ℕ) → word ≡ (next_word g).0 → word < 2 ^ 64 - 1 → n ≢ 0 → Finds w (tried lines w) (word % n) o →
    (e : Event) × (o ≡ Some e) × IsDrawn lines w g e
drawn-found lines w g n o c word is small some finds =
    let r = same-rest word n (length c.events) (2 ^ 64 - 1) c.count small some in
    let at : word % n ≡ (next_word g).0 % length c.events = r.0 ∙ ap (λ (i : ℕ). i % length c.events) is in
    let found = get-some (word % n) c.events (let below = r.1 in let q = r.0 in omega (arith, below, q)) in
    (found.0, finds c.events c.enabled ∙ found.1, record { events = c.events; enabled = c.enabled; drawn = ap (λ (i : ℕ). slice_get c.events i) (sym at) ∙ found.1 })

pub if-none : (P : Type 0) (o : Option Event) (e : Event) → o ≡ Some e → IfNone o P
if-none P None e q = absurd (cc)
if-none P (Some x) e q = tt

pub if-some : (P : Event → Type 0) (o : Option Event) (e : Event) → o ≡ Some e → P e → IfSome o P
if-some P o e q p = subst (λ (x : Option Event). IfSome x P) (sym q) p
