-- Copies with the ranks of their first literals.
use Rattle.std.specs.Prelude.{List}
use Rattle.nk_values.specs.declared.lit.Lit.{Lit}
use Rattle.fdd_nodes.specs.declared.leaf.ranks.RankedCopy.{RankedCopy}

abbrev pub copy_of : RankedCopy → List Lit
copy_of r = r.copy
