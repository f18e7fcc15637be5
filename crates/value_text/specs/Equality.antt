-- The texts of comparisons of two policies.
use Rattle.std.specs.Prelude.{ℕ, List, ◌++◌, codes}
use Rattle.std.specs.Fmt.{decimal}
use Rattle.nk_values.specs.declared.packet.Packet.{Packet}
use Rattle.value_text.specs.Faults.{pair_text}
use Rattle.value_text.specs.Values.{line}

-- two policies with the same results
abbrev pub equal_text : List ℕ
equal_text = line (codes "equal")

-- a packet, and an output of it that the i-th policy alone gives
abbrev pub apart_text : Packet → Packet → ℕ → List ℕ
apart_text p x i = codes "apart" ++ (pair_text p x ++ line (codes " policy " ++ decimal i))
