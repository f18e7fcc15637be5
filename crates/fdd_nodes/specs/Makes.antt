-- What copies make of a packet, as it is asked.
use Rattle.std.specs.Prelude.{List, [], ◌∷◌}
use Rattle.nk_values.specs.declared.packet.Packet.{Packet}
use Rattle.nk_values.specs.declared.lit.Lit.{Lit}
use Rattle.nk_values.specs.Held.{Holds}
use Rattle.nk_values.specs.Members.{IsIn}
use Rattle.fdd_nodes.specs.Trees.{apply, outcomes}

abbrev pub made : List Lit → Packet → Packet
made c p = apply c p

-- some copy makes q of p
abbrev pub Makes : List (List Lit) → Packet → Packet → Type 0
Makes cs p q = IsIn (outcomes cs p) q

-- each packet that the first copies make, the second make too
abbrev pub MakesAll : List (List Lit) → List (List Lit) → Packet → Type 0
MakesAll [] ds p = Unit {0}
MakesAll (c ∷ cs) ds p = IsIn (outcomes ds p) (apply c p) × MakesAll cs ds p

-- the cell fixes no literal of the copy, and of no copy
abbrev pub IsDisjointFrom : Packet → List Lit → Type 0
IsDisjointFrom c [] = Unit {0}
IsDisjointFrom c (l ∷ ls) = (¬ Holds c l) × IsDisjointFrom c ls

abbrev pub AreDisjointFrom : Packet → List (List Lit) → Type 0
AreDisjointFrom c [] = Unit {0}
AreDisjointFrom c (x ∷ xs) = IsDisjointFrom c x × AreDisjointFrom c xs
