-- Values that some literals leave unnamed.
use Rattle.std.specs.Prelude.{◌≡◌, ◌≢◌, ℕ, ◌≤◌, ◌<◌, ◌⊎◌, List, [], ◌∷◌, length}
use Rattle.nk_values.specs.declared.field.Field.{Field}
use Rattle.nk_values.specs.declared.field.Field.TheVariants.{Sw, Pt, EthTyp, IpProto, EthSrc, EthDst, Ip4Src, Ip4Dst}
use Rattle.nk_values.specs.declared.field.Field.TheVariants.{TcpSrcPort, TcpDstPort}
use Rattle.nk_values.specs.declared.packet.Packet.{Packet}
use Rattle.nk_values.specs.declared.lit.Lit.{Lit}
use Rattle.nk_values.specs.Held.{Holds}
use Rattle.nk_values.specs.Lits.{lit_field, lit_value}
use Rattle.nk_values.specs.Members.{IsIn}
use Rattle.nk_values.specs.Packets.{IsWellShaped}
use Rattle.nk_values.specs.Ranges.{place, least_literal, IsValue}
use Rattle.fdd_nodes.specs.Names.{distinct}
use Rattle.fdd_nodes.specs.Trees.{Tree, Leaf, Node}

-- some literal names the value at the field
abbrev pub NamesAt : List Lit → Field → ℕ → Type 0
NamesAt [] f n = ⊥
NamesAt (l ∷ ls) f n = ((place (lit_field l) ≡ place f) × (lit_value l ≡ n)) ⊎ NamesAt ls f n

-- the same of copies and of a diagram, as it is asked
abbrev pub CopiesName : List (List Lit) → Field → ℕ → Type 0
CopiesName [] f n = ⊥
CopiesName (c ∷ cs) f n = NamesAt c f n ⊎ CopiesName cs f n

abbrev pub TreeNames : Tree → Field → ℕ → Type 0
TreeNames (Leaf cs) f n = CopiesName cs f n
TreeNames (Node l t e) f n = ((place (lit_field l) ≡ place f) × (lit_value l ≡ n)) ⊎ (TreeNames t f n ⊎ TreeNames e f n)

-- at most 4,000 values
pub record AreFewNames (ls : List Lit) : Type 0 where
  pub bound : length (distinct ls) ≤ 4000

-- The first value that is tried: the least, but one past 2048 at ethTyp, so that no unnamed value is the type of IPv4.
abbrev pub first_tried : Field → ℕ
first_tried Sw = 1
first_tried Pt = 1
first_tried EthTyp = 2049
first_tried IpProto = 0
first_tried EthSrc = 0
first_tried EthDst = 0
first_tried Ip4Src = 0
first_tried Ip4Dst = 0
first_tried TcpSrcPort = 0
first_tried TcpDstPort = 0

-- a value in range that no literal names; where the first one is no literal, it is that one
pub record IsUnnamed (ls : List Lit) (f : Field) (n : ℕ) : Type 0 where
  pub in_range : IsValue f n
  pub missing : ¬ NamesAt ls f n
  pub tried : first_tried f ≤ n
  pub first : first_tried f < least_literal f → n ≡ first_tried f

-- a well-shaped packet without IPv4 that holds none of the literals
pub record IsFreshOf (ls : List Lit) (g : Packet) : Type 0 where
  pub shaped : IsWellShaped g
  pub no_ip : g.header.eth_typ ≢ 2048
  pub missing : (l : Lit) → IsIn ls l → ¬ Holds g l
