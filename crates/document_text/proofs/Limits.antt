-- Each document that is read is within the limits.
use Rattle.std.proofs.Common.{◌≡◌, ℕ, ◌+◌, ◌≤◌, inl, inr, Bool, true, false, not, cond, nat_lt, List, [], ◌∷◌, ◌++◌, length, take, Option, Some, None, refl, sym, subst, arith}
use Rattle.std.specs.Prelude.{IfSome}
use Rattle.std.specs.Option.{unwrap_or}
use Rattle.document_text.specs.declared.fault.DocFault.{DocFault}
use Rattle.document_text.specs.Documents.{Doc, Outcome, Accepted, Refused}
use Rattle.document_text.specs.States.{State, initial_state, has_edge, is_empty, with_policy, doc_of_state}
use Rattle.document_text.specs.Steps.{Step, Next, Enters, Opens, Stops, step}
use Rattle.document_text.specs.Texts.{lines_of, words_of, is_end}
use Rattle.document_text.specs.Grammar.{Mode, Lines, Block, Does, Closes, Chosen, Goes, Ends, IsFrom, IsReading, finished, cut_off, most_bytes, line_behind}
use Rattle.document_text.specs.Answers.{IsNextState, IsOpening}
use Rattle.document_text.specs.Laws.{IsWithin}
use Rattle.document_text.proofs.Holding.{InHops, InRows, InRejoins, AreStamps, Holds, HasRoom, start-holds, policy-holds, step-holds, step-opens}

abbrev HoldsIn : Mode → Type 0
HoldsIn (Lines s) = Holds s
HoldsIn (Block s begin text) = HasRoom s

pub no-doc : {X : Type 0} (d : Doc) (f : DocFault) → Accepted d ≡ Refused f → X
no-doc d f e = absurd (cc)

or-default : {A : Type 0} (P : A → Type 0) (o : Option A) (d : A) → IfSome o P → P d → P (unwrap_or o d)
or-default P None d h k = k
or-default P (Some x) d h k = h

some-policy : {A : Type 0} (xs : List A) → is_empty xs ≡ false → 1 ≤ length xs
some-policy [] e = absurd (cc)
some-policy (x ∷ xs) e = omega arith

doc-within : (s : State) → Holds s → is_empty s.policies ≡ false → IsWithin (doc_of_state s)
doc-within s h e = record {
  settings = record {
    hops = or-default InHops s.hops 64 h.hops (omega arith, omega arith);
    capacity = or-default InRows s.capacity 200000 h.capacity (omega arith, omega arith);
    stamps = or-default AreStamps s.stamps (1, 4094) h.stamps (omega arith, omega arith, omega arith);
    rejoins = or-default InRejoins s.rejoins 0 h.rejoins (omega arith);
  };
  policies = (some-policy s.policies e, h.policies);
  packets = h.packets;
  events = h.events;
  read = h.read;
  arrives = h.arrives;
  named = h.named;
}

pub doc-is : (d d' : Doc) → Accepted d ≡ Accepted d' → d ≡ d'
doc-is d d' e = cc

finished-by : (s : State) (d : Doc) (i g p : Bool) (a b c : DocFault) → is_empty s.policies ≡ p → Holds s
    → Accepted d ≡ cond i (Refused a) (cond (not g) (Refused b) (cond p (Refused c) (Accepted (doc_of_state s)))) → IsWithin d
finished-by s d true g p a b c e h k = no-doc d a k
finished-by s d false false p a b c e h k = no-doc d b k
finished-by s d false true true a b c e h k = no-doc d c k
finished-by s d false true false a b c e h k = subst IsWithin (sym (doc-is d (doc_of_state s) k)) (doc-within s h e)

finished-within : (s : State) (n : ℕ) (d : Doc) → Holds s → Accepted d ≡ finished s n → IsWithin d
finished-within s n d h k = finished-by s d s.inside (has_edge s.layout) (is_empty s.policies) _ _ _ refl h k

ends-within : (m : Mode) (n : ℕ) (d : Doc) → HoldsIn m → Ends n (Accepted d) m → IsWithin d
ends-within (Lines s) n d h k = finished-within s n d h k
ends-within (Block s begin text) n d h (inl k) = no-doc d _ k.3
ends-within (Block s begin text) n d h (inr k) = no-doc d _ k.1

does-within : (Go : Mode → Type 0) (n : ℕ) (d : Doc) (x : Step) → ((t : State) → IsNextState x t → Holds t) → ((t : State) → IsOpening x t → HasRoom t)
    → ((m : Mode) → HoldsIn m → Go m → IsWithin d) → Does Go n (Accepted d) x → IsWithin d
does-within Go n d (Next s) next opens go k = go (Lines s) (next s refl) k
does-within Go n d (Enters p s) next opens go (inl k) = go (Lines s) (next s (k.0, refl)) k.1
does-within Go n d (Enters p s) next opens go (inr k) = no-doc d _ k.1
does-within Go n d (Opens s) next opens go k = go (Block s (n + 1) []) (opens s refl) k
does-within Go n d (Stops f) next opens go k = no-doc d _ k

closes-within : (Go : Mode → Type 0) (d : Doc) (s : State) (begin : ℕ) (text : List ℕ) → HasRoom s → ((m : Mode) → HoldsIn m → Go m → IsWithin d)
    → Closes Go (Accepted d) s begin text → IsWithin d
closes-within Go d s begin text h go (inl k) = go (Lines (with_policy s k.0)) (policy-holds s k.0 h.0 h.1 (text, k.1)) k.2
closes-within Go d s begin text h go (inr k) = no-doc d _ k.2

chosen-within : (Go : Mode → Type 0) (d : Doc) (s : State) (begin : ℕ) (text line : List ℕ) (b : Bool) → HasRoom s → ((m : Mode) → HoldsIn m → Go m → IsWithin d)
    → Chosen b (Closes Go (Accepted d) s begin text) (Go (Block s begin line)) → IsWithin d
chosen-within Go d s begin text line true h go k = closes-within Go d s begin text h go k
chosen-within Go d s begin text line false h go k = go (Block s begin line) h k

goes-within : (Go : Mode → Type 0) (n : ℕ) (d : Doc) (m : Mode) (line : List ℕ) → HoldsIn m → ((t : Mode) → HoldsIn t → Go t → IsWithin d)
    → Goes Go n (Accepted d) m line → IsWithin d
goes-within Go n d (Lines s) line h go k =
    does-within Go n d (step s n (words_of line)) (λ t. step-holds s t n (words_of line) h) (λ t. step-opens s t n (words_of line) h) go k
goes-within Go n d (Block s begin text) line h go k = chosen-within Go d s begin text (text ++ line) (is_end (words_of line)) h go k

from-within : (ls : List (List ℕ)) (n : ℕ) (d : Doc) (m : Mode) → HoldsIn m → IsFrom m n ls (Accepted d) → IsWithin d
from-within [] n d m h k = ends-within m n d h k
from-within (l ∷ ls) n d m h k = goes-within (λ t. IsFrom t (n + 1) ls (Accepted d)) n d m l h (λ t i g. from-within ls (n + 1) d t i g) k

cut-no-doc : (n : ℕ) (f : DocFault) (b : Bool) (d : Doc) (g : DocFault) → Accepted d ≡ cond b (Refused f) (Refused g) → ⊥
cut-no-doc n f true d g e = no-doc d f e
cut-no-doc n f false d g e = no-doc d g e

pub cut-not : (n : ℕ) (o : Outcome) (d : Doc) → Accepted d ≡ cut_off n o → ⊥
cut-not n (Accepted e) d k = no-doc d _ k
cut-not n (Refused f) d k = cut-no-doc n f (nat_lt f.line n) d _ k

limit-by : (n : ℕ) (o : Outcome) (b : Bool) (d : Doc) → Accepted d ≡ cond b o (cut_off n o) → o ≡ Accepted d
limit-by n o true d k = sym k
limit-by n o false d k = absurd (cut-not n o d k)

pub reading-within : (text : List ℕ) (d : Doc) → IsReading text (Accepted d) → IsWithin d
reading-within text d h =
    from-within (lines_of (take (most_bytes + 1) text)) 1 d (Lines initial_state) start-holds
    (subst (IsFrom (Lines initial_state) 1 (lines_of (take (most_bytes + 1) text))) (limit-by (line_behind (take most_bytes text)) h.0 _ d h.2) h.1)
