-- The element that was read is the next one of a stream.
use Rattle.std.proofs.Common.{◌≡◌, ◌⊎◌, inl, inr, ℕ, List, take, Option, Some, None, Result, Ok, Err, sym, subst, arith, length-take}
use Rattle.std.proofs.lemmas.List.{take_all}
use Rattle.openflow_wire.specs.declared.message.Message.{Message}
use Rattle.openflow_wire.specs.declared.fault.WireFault.{WireFault}
use Rattle.openflow_wire.specs.declared.fault.WireError.{WireError}
use Rattle.openflow_wire.specs.declared.fault.WireError.TheVariants as wire
use Rattle.openflow_wire.specs.Spelling.{Spells}
use Rattle.of_framing.specs.Streams.{IsFront, IsFault}
use Rattle.worker_desk.specs.Streams.{TellsAt, TellsWhereKnown}
use Rattle.drive_journal.specs.Journals.{HasMessage, HasFault, WhereKnown}

-- the first n of the first n
take-twice : (n : ℕ) (xs : List ℕ) → take n (take n xs) ≡ take n xs
take-twice n xs = take_all n (take n xs) (omega (arith, length-take n xs))

-- a message at the front is the front of its own bytes
pub own-front : (bytes : List ℕ) (n : ℕ) (m : Message) → IsFront bytes n m → IsFront (take n bytes) n m
own-front bytes n m f = record {
  within = (let w = f.within in omega (arith, length-take n bytes));
  spelled = subst (λ (b : List ℕ). Spells b m) (sym (take-twice n bytes)) f.spelled;
}

-- what a framer answers of bytes at whose front something stands
abbrev pub Answer : Type 0
Answer = Option (Result Message WireError)

abbrev pub AnswersFront : List ℕ → Answer → Type 0
AnswersFront got answer = (n : ℕ) (m : Message) → IsFront got n m → (answer ≡ Some (Ok m)) ⊎ (answer ≡ Some (Err wire.Memory))

abbrev pub AnswersFault : List ℕ → Answer → Type 0
AnswersFault got answer = (f : WireFault) → IsFault got f → answer ≡ Some (Err (wire.Fault f))

same-message : (x m : Message) → ◌≡◌ {A = Answer} (Some (Ok x)) (Some (Ok m)) → x ≡ m
same-message x m e = cc

same-fault : (x f : WireFault) → ◌≡◌ {A = Answer} (Some (Err (wire.Fault x))) (Some (Err (wire.Fault f))) → x ≡ f
same-fault x f e = cc

no-message : (x : WireError) (m : Message) → ◌≡◌ {A = Answer} (Some (Ok m)) (Some (Err x)) → ⊥
no-message x m e = cc

no-memory : (f : WireFault) → ◌≡◌ {A = Answer} (Some (Err (wire.Fault f))) (Some (Err wire.Memory)) → ⊥
no-memory f e = cc

no-fault : (f : WireFault) (m : Message) → ◌≡◌ {A = Answer} (Some (Err (wire.Fault f))) (Some (Ok m)) → ⊥
no-fault f m e = cc

no-rest : (x : Result Message WireError) → ◌≡◌ {A = Answer} None (Some x) → ⊥
no-rest x e = cc

-- a message was answered
read-at : (bytes got : List ℕ) (k : ℕ) (m : Message) → TellsAt bytes k got → AnswersFront got (Some (Ok m)) → AnswersFault got (Some (Ok m)) → HasMessage k m bytes
read-at bytes got k m t fronts faults =
    elim t.next [
      | inl p ↦ (let f : IsFront got p.0 p.1 = subst (λ (b : List ℕ). IsFront b p.0 p.1) (sym p.3) (own-front t.behind p.0 p.1 p.2) in
          elim (fronts p.0 p.1 f) [
            | inl e ↦ record { messages = t.messages; behind = t.behind; taken = t.taken; count = t.count; long = p.0; front = subst (λ (x : Message). IsFront t.behind p.0 x) (sym (same-message m p.1 e)) p.2 }
            | inr e ↦ absurd (no-message wire.Memory m e)
          ])
      | inr p ↦ absurd (no-message (wire.Fault p.0) m (faults p.0 (subst (λ (b : List ℕ). IsFault b p.0) (sym p.2) p.1)))
    ]

-- a fault was answered
fault-at : (bytes got : List ℕ) (k : ℕ) (x : WireFault) → TellsAt bytes k got → AnswersFront got (Some (Err (wire.Fault x))) → AnswersFault got (Some (Err (wire.Fault x))) → HasFault k x bytes
fault-at bytes got k x t fronts faults =
    elim t.next [
      | inl p ↦ (let f : IsFront got p.0 p.1 = subst (λ (b : List ℕ). IsFront b p.0 p.1) (sym p.3) (own-front t.behind p.0 p.1 p.2) in
          elim (fronts p.0 p.1 f) [ inl e ↦ absurd (no-fault x p.1 e) | inr e ↦ absurd (no-memory x e) ])
      | inr p ↦ record {
        messages = t.messages;
        behind = t.behind;
        taken = t.taken;
        count = t.count;
        fault = subst (λ (f : WireFault). IsFault t.behind f) (sym (same-fault x p.0 (faults p.0 (subst (λ (b : List ℕ). IsFault b p.0) (sym p.2) p.1)))) p.1;
      }
    ]

-- nothing was answered
rest-at : (bytes got : List ℕ) (k : ℕ) → TellsAt bytes k got → AnswersFront got None → AnswersFault got None → ⊥
rest-at bytes got k t fronts faults =
    elim t.next [
      | inl p ↦ (let f : IsFront got p.0 p.1 = subst (λ (b : List ℕ). IsFront b p.0 p.1) (sym p.3) (own-front t.behind p.0 p.1 p.2) in
          elim (fronts p.0 p.1 f) [ inl e ↦ no-rest (Ok p.1) e | inr e ↦ no-rest (Err wire.Memory) e ])
      | inr p ↦ no-rest (Err (wire.Fault p.0)) (faults p.0 (subst (λ (b : List ℕ). IsFault b p.0) (sym p.2) p.1))
    ]

pub read-next : (received : Option (List ℕ)) (got : List ℕ) (k : ℕ) (m : Message) → TellsWhereKnown received k got → AnswersFront got (Some (Ok m)) → AnswersFault got (Some (Ok m)) → WhereKnown (HasMessage k m) received
read-next None got k m t fronts faults = tt
read-next (Some bytes) got k m t fronts faults = read-at bytes got k m t fronts faults

pub fault-next : (received : Option (List ℕ)) (got : List ℕ) (k : ℕ) (x : WireFault) → TellsWhereKnown received k got → AnswersFront got (Some (Err (wire.Fault x))) → AnswersFault got (Some (Err (wire.Fault x))) → WhereKnown (HasFault k x) received
fault-next None got k x t fronts faults = tt
fault-next (Some bytes) got k x t fronts faults = fault-at bytes got k x t fronts faults

pub rest-next : (received : Option (List ℕ)) (got : List ℕ) (k : ℕ) → TellsWhereKnown received k got → AnswersFront got None → AnswersFault got None → WhereKnown (λ (bytes : List ℕ). ⊥) received
rest-next None got k t fronts faults = tt
rest-next (Some bytes) got k t fronts faults = rest-at bytes got k t fronts faults

-- the same, of what was fed and answered
pub fronts-of : (held got : List ℕ) (r answer : Answer) → held ≡ got → r ≡ answer → AnswersFront held r → AnswersFront got answer
fronts-of held got r answer same is h = subst (λ (b : List ℕ). AnswersFront b answer) same (subst (λ (a : Answer). AnswersFront held a) is h)

pub faults-of : (held got : List ℕ) (r answer : Answer) → held ≡ got → r ≡ answer → AnswersFault held r → AnswersFault got answer
faults-of held got r answer same is h = subst (λ (b : List ℕ). AnswersFault b answer) same (subst (λ (a : Answer). AnswersFault held a) is h)
