-- Policies that answer well-shaped packets alike.
use Rattle.std.specs.Prelude.{ℕ, ◌↔◌, Option}
use Rattle.nk_values.specs.declared.packet.Packet.{Packet}
use Rattle.nk_values.specs.Packets.{IsWellShaped}
use Rattle.nk_values.specs.Trails.{Trail}
use Rattle.nk_syntax.specs.Terms.{Term}
use Rattle.history_meaning.specs.Network.{Wiring, IsComplete, IsOpen}
use Rattle.history_meaning.specs.Plain.{HasResult, IsPlain}
use Rattle.topology_model.specs.Wired.{IsWiring}

-- each well-shaped packet has the same results under both
pub record HaveSameResults (p q : Term) : Type 0 where
  pub there : (pk x : Packet) → IsWellShaped pk → HasResult p pk x → HasResult q pk x
  pub back : (pk x : Packet) → IsWellShaped pk → HasResult q pk x → HasResult p pk x

-- if both are plain, it has the same complete histories in each topology
abbrev pub AlikeCompleteAlike : Type 0
AlikeCompleteAlike = (w : Wiring) (p q : Term) → IsWiring w → IsPlain p → IsPlain q → HaveSameResults p q →
    (pk : Packet) (tag : Option ℕ) (h : Trail) → IsWellShaped pk → IsComplete w p pk tag h ↔ IsComplete w q pk tag h

-- and the same open histories after each number of hops
abbrev pub AlikeOpenAlike : Type 0
AlikeOpenAlike = (w : Wiring) (p q : Term) → IsWiring w → IsPlain p → IsPlain q → HaveSameResults p q →
    (pk : Packet) (tag : Option ℕ) (k : ℕ) (h : Trail) → IsWellShaped pk → IsOpen w p pk tag k h ↔ IsOpen w q pk tag k h
