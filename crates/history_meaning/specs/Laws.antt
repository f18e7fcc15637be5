-- Laws of the meaning.
use Rattle.std.specs.Prelude.{◌≡◌, ℕ, suc, map}
use Rattle.nk_values.specs.Members.{Within}
use Rattle.nk_values.specs.Trails.{Trail, one_packet, renewed, IsPast}
use Rattle.nk_syntax.specs.Terms.{Term, Terms, Filter, Assign, Sum, Seq, Star, Dup, no_terms, term}
use Rattle.history_meaning.specs.Meaning.{den}
use Rattle.history_meaning.specs.Network.{Wiring, IsFuture}

-- one iteration more gives no fewer histories
abbrev pub MoreIterationsMoreHistories : Type 0
MoreIterationsMoreHistories = (p : Term) (n : ℕ) (h : Trail) → Within (den p n h) (den p (suc n) h)

-- no `dup` in it
abbrev mutual
  pub IsFlat : Term → Type 0
  IsFlat (Filter a) = Unit {0}
  IsFlat (Assign f v) = Unit {0}
  IsFlat (Sum ps) = AreFlat ps
  IsFlat (Seq ps) = AreFlat ps
  IsFlat (Star p) = IsFlat p
  IsFlat Dup = ⊥

  pub AreFlat : Terms → Type 0
  AreFlat no_terms = Unit {0}
  AreFlat (term p ps) = IsFlat p × AreFlat ps

-- a policy without `dup` renews the newest packet of a history, by that packet alone
abbrev pub FlatRenewsTheNewest : Type 0
FlatRenewsTheNewest = (p : Term) → IsFlat p → (n : ℕ) (h : Trail) →
    den p n h ≡ map (λ (t : Trail). renewed h t.newest) (den p n (one_packet h.newest))

-- each future of a copy has the copy's history as its past, whatever the policy
abbrev pub FuturesGoOn : Type 0
FuturesGoOn = (w : Wiring) (p : Term) (copy h : Trail) → IsFuture w p copy h → IsPast copy h
