-- What is told of a stream of messages.
use Rattle.std.specs.Prelude.{◌≡◌, ℕ, ◌⊎◌, List, length, take, Option, Some, None}
use Rattle.openflow_wire.specs.declared.message.Message.{Message}
use Rattle.openflow_wire.specs.declared.fault.WireFault.{WireFault}
use Rattle.of_framing.specs.Streams.{TakesMessages, IsFront, IsFault}

-- After k messages of the stream of these bytes stands one that `got` spells; or a fault, and `got` is what is held
-- there.
pub record TellsAt (bytes : List ℕ) (k : ℕ) (got : List ℕ) : Type 0 where
  pub messages : List Message
  pub behind : List ℕ
  pub taken : TakesMessages bytes messages behind
  pub count : length messages ≡ k
  pub next : ((n : ℕ) × (m : Message) × IsFront behind n m × (got ≡ take n behind)) ⊎
      ((f : WireFault) × IsFault behind f × (got ≡ behind))

-- the same, if the bytes are known
abbrev pub TellsWhereKnown : Option (List ℕ) → ℕ → List ℕ → Type 0
TellsWhereKnown None k got = Unit {0}
TellsWhereKnown (Some bytes) k got = TellsAt bytes k got
