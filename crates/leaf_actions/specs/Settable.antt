-- What copies may assign: OpenFlow 1.0.0 (section 3.3) has no action that sets the type of a frame or the protocol.
use Rattle.std.specs.Prelude.{List, [], ◌∷◌}
use Rattle.nk_values.specs.declared.field.Field.{Field}
use Rattle.nk_values.specs.declared.field.Field.TheVariants.{EthSrc, EthDst, Ip4Src, Ip4Dst, TcpSrcPort, TcpDstPort}
use Rattle.nk_values.specs.declared.lit.Lit.{Lit}
use Rattle.nk_values.specs.Acts.{IsSettable}
use Rattle.nk_values.specs.Lits.{lit_field}
use Rattle.fdd_nodes.specs.Trees.{IsSetBy}

-- the header fields that actions set, in field order
abbrev pub settable : List Field
settable = EthSrc ∷ EthDst ∷ Ip4Src ∷ Ip4Dst ∷ TcpSrcPort ∷ TcpDstPort ∷ []

-- the copies assign only such fields
pub record AreSettable (cs : List (List Lit)) : Type 0 where
  pub each : (m : Lit) → IsSetBy cs m → IsSettable (lit_field m)

-- the same, as it is asked
abbrev pub CopyCanBeSet : List Lit → Type 0
CopyCanBeSet [] = Unit {0}
CopyCanBeSet (l ∷ c) = IsSettable (lit_field l) × CopyCanBeSet c

abbrev pub CopiesCanBeSet : List (List Lit) → Type 0
CopiesCanBeSet [] = Unit {0}
CopiesCanBeSet (c ∷ cs) = CopyCanBeSet c × CopiesCanBeSet cs
