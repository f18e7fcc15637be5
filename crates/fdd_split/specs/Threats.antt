-- Copies of a leaf that give one packet.
use Rattle.std.specs.Prelude.{◌≡◌, ◌≢◌, ◌⊎◌, ◌≤◌, List}
use Rattle.nk_values.specs.declared.field.Field.{Field}
use Rattle.nk_values.specs.declared.packet.Packet.{Packet}
use Rattle.nk_values.specs.declared.lit.Lit.{Lit}
use Rattle.nk_values.specs.Held.{Holds}
use Rattle.nk_values.specs.Lits.{lit_field}
use Rattle.nk_values.specs.Members.{IsIn}
use Rattle.nk_values.specs.Ranks.{rank}
use Rattle.fdd_nodes.specs.Trees.{Tree, leaf_at, apply, Tests}
use Rattle.fdd_split.specs.declared.bars.Bar.{Bar}
use Rattle.fdd_split.specs.Bars.{SomeBars}

-- the copy does not assign the field
abbrev pub KeepsField : List Lit → Field → Type 0
KeepsField c f = (m : Lit) → IsIn c m → lit_field m ≢ f

-- one of the copies assigns the literal, and the other leaves its field
abbrev pub IsAlone : List Lit → List Lit → Lit → Type 0
IsAlone c d x = (IsIn c x × KeepsField d (lit_field x)) ⊎ (IsIn d x × KeepsField c (lit_field x))

-- the packet holds no barred literal
abbrev pub IsClear : List Bar → Packet → Type 0
IsClear k p = (x : Lit) → SomeBars k x → ¬ Holds p x

-- of some packet that holds no barred literal two copies make one packet, and just one of them assigns x
pub record Threat (k : List Bar) (a : Tree) (x : Lit) : Type 0 where
  pub packet : Packet
  pub clear : IsClear k packet
  pub one : List Lit
  pub other : List Lit
  pub has_one : IsIn (leaf_at a packet) one
  pub has_other : IsIn (leaf_at a packet) other
  pub same : apply one packet ≡ apply other packet
  pub alone : IsAlone one other x

abbrev pub HasNoThreat : List Bar → Tree → Type 0
HasNoThreat k a = (x : Lit) → ¬ Threat k a x

-- the diagram tests nothing that is barred
abbrev pub TestsNoBarred : List Bar → Tree → Type 0
TestsNoBarred k a = (m : Lit) → Tests a m → ¬ SomeBars k m

-- no threat comes before the literal
abbrev pub ComesFirst : List Bar → Tree → Lit → Type 0
ComesFirst k a l = (x : Lit) → Threat k a x → rank l ≤ rank x
