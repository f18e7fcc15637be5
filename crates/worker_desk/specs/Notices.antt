-- What a desk is told of a session beside its messages.
use Rattle.std.specs.Prelude.{ℕ}

-- A call on the end with this name failed, or memory ran out.
pub data Notice : Type 0 where
  Lost : ℕ → Notice
  NoMemory : Notice
