-- What was found of stars, in a store that grows.
use Rattle.std.proofs.Common.{ℕ, List, [], ap, sym, ◌∙◌, subst}
use Rattle.nk_values.specs.declared.packet.Packet.{Packet}
use Rattle.fdd_nodes.specs.Trees.{Tree, leaf_at}
use Rattle.fdd_star.specs.declared.keys.Key.{Key}
use Rattle.fdd_star.specs.declared.found.Findings.{Findings}
use Rattle.fdd_star.specs.declared.visits.Visit.{Visit}
use Rattle.fdd_star.specs.declared.visits.Visits.{Visits}
use Rattle.fdd_star.specs.Asks.{AreVisits, AsksMore, IsVisitAt, numbered}
use Rattle.fdd_star.specs.Found.{AreFound}
use Rattle.fdd_store.specs.Stores.{Kept, Has, Grows, tree_at}
use Rattle.fdd_store.proofs.StoreLaws.{has_grown, tree_grown}

-- a diagram stays

pub stays : (P : Tree → Type 0) (old new : Kept) (a : ℕ) → Grows old new → Has old a → P (tree_at old a) → P (tree_at new a)
stays P old new a g h w = subst P (sym (tree_grown old new a g h)) w

pub stayed : (P : Tree → Type 0) (old new : Kept) (a : ℕ) → Grows old new → Has old a → P (tree_at new a) → P (tree_at old a)
stayed P old new a g h w = subst P (tree_grown old new a g h) w

-- what is known of a cell stays

visit_grown : (old new : Kept) (keys : List Key) (d : ℕ) (q : Packet) (v : Visit) → Grows old new → IsVisitAt old keys d q v → IsVisitAt new keys d q v
visit_grown old new keys d q v g h =
    let e = tree_grown old new d g h.has in record {
      has = has_grown old new d g h.has;
      asked = subst (λ (t : Tree). AsksMore t q [] v.asked.items) (sym e) h.asked;
      copies = h.copies ∙ ap (λ (t : Tree). leaf_at t q) (sym e);
      numbers = h.numbers;
    }

pub visits_grown : (old new : Kept) (v : Visits) → Grows old new → AreVisits old v → AreVisits new v
visits_grown old new v g h = record { apart = h.apart; count = h.count; right = λ n d q w i j. visit_grown old new (numbered v) d q w g (h.right n d q w i j) }

pub found_grown : (old new : Kept) (n : Findings) → Grows old new → AreFound old n → AreFound new n
found_grown old new n g h = record { visits = visits_grown old new n.visits g h.visits }
