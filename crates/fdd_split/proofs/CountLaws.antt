-- Packets that copies make once.
use Rattle.std.proofs.Common.{◌≡◌, inl, inr, ap, sym, ◌∙◌, List, [], ◌∷◌}
use Rattle.std.specs.List.Sorted.{IsPermutation}
use Rattle.nk_values.specs.declared.packet.Packet.{Packet}
use Rattle.nk_values.specs.declared.lit.Lit.{Lit}
use Rattle.nk_values.specs.Members.{IsIn, SameMembers, EachOnce}
use Rattle.fdd_nodes.specs.Trees.{apply, outcomes}
use Rattle.fdd_nodes.proofs.MakesLaws.{outcome}
use Rattle.fdd_nodes.proofs.GatherLaws.{same_itself, same_sorted}

pub members_moved : (xs ys : List Packet) → IsPermutation xs ys → SameMembers ys xs
members_moved xs ys p = same_sorted xs ys ys p (same_itself ys)

-- of copies that make no packet twice no two make one packet
pub made_once : (cs : List (List Lit)) (p : Packet) (c d : List Lit) → EachOnce (outcomes cs p) → IsIn cs c → IsIn cs d → apply c p ≡ apply d p → c ≡ d
made_once [] p c d h i j e = absurd i
made_once (z ∷ cs) p c d h (inl i) (inl j) e = sym i ∙ j
made_once (z ∷ cs) p c d h (inl i) (inr j) e = absurd (h.0 (apply d p) (outcome cs d p j) (ap (λ x. apply x p) i ∙ e))
made_once (z ∷ cs) p c d h (inr i) (inl j) e = absurd (h.0 (apply c p) (outcome cs c p i) (ap (λ x. apply x p) j ∙ sym e))
made_once (z ∷ cs) p c d h (inr i) (inr j) e = made_once cs p c d h.1 i j e
