use Rattle.std.proofs.Common.{◌≡◌, ◌∙◌, inl, inr, ℕ, List, refl, subst}
use Rattle.program_answer.specs.declared.status.Status.{Status}
use Rattle.program_answer.specs.Called.{SinkSeen, sink_of}
use Rattle.program_answer.specs.Writing.{Says}
use Rattle.program_answer.proofs.writing.say_fault.Goals as goal

-- the line of a fault, by its status and its bytes
says : (a b r : Status) (xs ys : List ℕ) (sink : SinkSeen) → a ≡ b → xs ≡ ys → Says a xs r sink → Says b ys r sink
says a b r xs ys sink e f h = subst (λ (s : Status). Says s ys r sink) e (subst (λ (t : List ℕ). Says a t r sink) f h)

pub returns-in-Some-clause-said : goal.returns-in-Some-clause-said
returns-in-Some-clause-said g c =
    let K = g.K.Sink in
    inl (says _ _ _ _ _ (sink_of K.written K.faults c.args.sink.now c.write.new.sink) c.of_fault.ensures (c.as_bytes.ensures.value ∙ c.in-Some.ensures.line) c.write.ensures.said)

pub returns-in-Ok-clause-said : goal.returns-in-Ok-clause-said
returns-in-Ok-clause-said g c =
    let K = g.K.Sink in
    inl (says _ _ _ _ _ (sink_of K.written K.faults c.args.sink.now c.write-in-Ok.new.sink) c.of_fault-in-Ok.ensures (c.as_bytes-in-Ok.ensures ∙ c.in-Ok.ensures) c.write-in-Ok.ensures.said)

pub returns-in-Err-clause-said : goal.returns-in-Err-clause-said
returns-in-Err-clause-said g c = inr (c.in_default.ensures.none, record { memory = refl; unwritten = refl; faultless = refl })
