-- What was found of stars.
use Rattle.std.specs.Prelude.{◌≡◌, ℕ, List}
use Rattle.nk_values.specs.declared.packet.Packet.{Packet}
use Rattle.nk_values.specs.declared.lit.Lit.{Lit}
use Rattle.fdd_nodes.specs.Trees.{Tree}
use Rattle.fdd_star.specs.declared.found.Findings.{Findings}
use Rattle.fdd_star.specs.Asks.{AreVisits}
use Rattle.fdd_star.specs.Reaches.{StarBut}
use Rattle.fdd_store.specs.Stores.{Kept, Gives}

-- it is right in the store
pub record AreFound (k : Kept) (n : Findings) : Type 0 where
  pub visits : AreVisits k n.visits

-- the store's diagram r is the star of p, after the copy s, on the packets of the cell c that hold none of old; and as
-- many are missed now
pub record IsPart (k : Kept) (s : List Lit) (p : Tree) (c : Packet) (old : List Lit) (n : Findings) (new : List Lit)
    (r : ℕ) : Type 0 where
  pub star : Gives k r (StarBut s p c old)
  pub found : AreFound k n
  pub missed : new ≡ old
