-- The outputs of a policy, and policies that flow tables can carry out.
use Rattle.std.specs.Prelude.{◌≡◌}
use Rattle.nk_values.specs.Acts.{IsSettable}
use Rattle.nk_values.specs.declared.packet.Packet.{Packet}
use Rattle.nk_values.specs.Packets.{IsWellShaped}
use Rattle.nk_values.specs.Trails.{Trail, one_packet}
use Rattle.nk_syntax.specs.Terms.{Term, Terms, Filter, Assign, Sum, Seq, Star, Dup, no_terms, term}
use Rattle.history_meaning.specs.Meaning.{IsResult}

-- q is the newest packet of a result of the policy from the history of pk alone
pub record HasResult (p : Term) (pk q : Packet) : Type 0 where
  pub history : Trail
  pub is_result : IsResult p (one_packet pk) history
  pub newest : history.newest ≡ q

-- no `dup`, and only assignments that a switch can make
abbrev mutual
  pub IsBare : Term → Type 0
  IsBare (Filter a) = Unit {0}
  IsBare (Assign f n) = IsSettable f
  IsBare (Sum ps) = AreBare ps
  IsBare (Seq ps) = AreBare ps
  IsBare (Star p) = IsBare p
  IsBare Dup = ⊥

  pub AreBare : Terms → Type 0
  AreBare no_terms = Unit {0}
  AreBare (term p ps) = IsBare p × AreBare ps

-- a bare policy whose outputs from well-shaped packets are well shaped
pub record IsPlain (p : Term) : Type 0 where
  pub bare : IsBare p
  pub shaped : (pk q : Packet) → IsWellShaped pk → HasResult p pk q → IsWellShaped q
