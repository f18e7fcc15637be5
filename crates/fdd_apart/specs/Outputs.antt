-- What copies make of a packet, and others do not.
use Rattle.std.specs.Prelude.{List}
use Rattle.nk_values.specs.declared.packet.Packet.{Packet}
use Rattle.nk_values.specs.declared.lit.Lit.{Lit}
use Rattle.fdd_nodes.specs.Makes.{Makes}

pub record IsLoneOutcome (xs ys : List (List Lit)) (p x : Packet) : Type 0 where
  pub made : Makes xs p x
  pub missing : ¬ Makes ys p x
