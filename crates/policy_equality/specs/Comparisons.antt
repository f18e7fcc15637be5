-- What the comparison of two policies tells.
use Rattle.std.specs.Prelude.{ℕ, ◌↔◌, Option}
use Rattle.nk_values.specs.declared.fault.CompileFault.{CompileFault}
use Rattle.nk_values.specs.declared.packet.Packet.{Packet}
use Rattle.nk_values.specs.Packets.{IsWellShaped}
use Rattle.nk_values.specs.Trails.{Trail}
use Rattle.nk_syntax.specs.Terms.{Term}
use Rattle.history_meaning.specs.Network.{Wiring, IsComplete, IsOpen}
use Rattle.history_meaning.specs.Plain.{HasResult}
use Rattle.topology_model.specs.Wired.{IsWiring}
use Rattle.fdd_apart.specs.declared.finding.Difference.{Difference}
use Rattle.fdd_apart.specs.declared.finding.Side.{Side}
use Rattle.fdd_apart.specs.declared.finding.Side.TheVariants.{First, Second}
use Rattle.fdd_compile.specs.Meanings.{HasMeaning, LacksMeaning}
use Rattle.policy_equality.specs.declared.fault.CompareError.{CompareError}
use Rattle.policy_equality.specs.declared.fault.CompareError.TheVariants.{Fault, Memory}

-- a result of the packet under p, which it has not under q
pub record IsLoneResult (p q : Term) (packet output : Packet) : Type 0 where
  pub given : HasResult p packet output
  pub missing : ¬ HasResult q packet output

-- a result that this side alone gives
abbrev pub GivesAlone : Side → Term → Term → Packet → Packet → Type 0
GivesAlone First p q = IsLoneResult p q
GivesAlone Second p q = IsLoneResult q p

-- A well-shaped packet, and a result of it that just one of the policies gives.
pub record AreApartBy (p q : Term) (x : Difference) : Type 0 where
  pub shaped : IsWellShaped x.packet
  pub alone : GivesAlone x.side p q x.packet x.output

-- Each well-shaped packet has the same complete histories in each topology, and the same open ones after each number of
-- hops.
pub record HaveSameHistories (p q : Term) : Type 0 where
  pub complete : (w : Wiring) (packet : Packet) (tag : Option ℕ) (h : Trail) → IsWiring w → IsWellShaped packet →
      IsComplete w p packet tag h ↔ IsComplete w q packet tag h
  pub in_flight : (w : Wiring) (packet : Packet) (tag : Option ℕ) (hops : ℕ) (h : Trail) → IsWiring w →
      IsWellShaped packet → IsOpen w p packet tag hops h ↔ IsOpen w q packet tag hops h

-- neither policy has a `dup` or a deep star
pub record HaveMeaning (p q : Term) : Type 0 where
  pub one : HasMeaning p
  pub other : HasMeaning q

-- the first fault of the second policy, if the first has none
pub record IsLaterFault (p q : Term) (f : CompileFault) : Type 0 where
  pub fine : HasMeaning p
  pub fault : LacksMeaning q f

-- the first fault of the two policies
abbrev pub IsFaultOf : Side → Term → Term → CompileFault → Type 0
IsFaultOf First p q f = LacksMeaning p f
IsFaultOf Second p q f = IsLaterFault p q f

-- why they are not compared; nothing is said of memory
abbrev pub IsNotCompared : Term → Term → CompareError → Type 0
IsNotCompared p q (Fault side f) = IsFaultOf side p q f
IsNotCompared p q Memory = Unit {0}
