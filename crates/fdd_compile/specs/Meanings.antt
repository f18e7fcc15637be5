-- The diagram of a policy, whatever switches can do, and why there is none.
use Rattle.nk_values.specs.declared.packet.Packet.{Packet}
use Rattle.nk_syntax.specs.Terms.{Term}
use Rattle.fdd_nodes.specs.Trees.{Tree}
use Rattle.history_meaning.specs.Laws.{IsFlat}
use Rattle.nk_values.specs.declared.fault.CompileFault.{CompileFault}
use Rattle.nk_values.specs.declared.fault.CompileFault.TheVariants as fault
use Rattle.fdd_compile.specs.declared.fault.CompileError.{CompileError}
use Rattle.fdd_compile.specs.declared.fault.CompileError.TheVariants.{Memory, Fault}
use Rattle.fdd_compile.specs.Builds.{BuiltOf}
use Rattle.fdd_compile.specs.Deep.{HasNoDeep, IsFirstDeep}

-- the policy has neither a `dup` nor a deep star
pub record HasMeaning (p : Term) : Type 0 where
  pub flat : IsFlat p
  pub shallow : HasNoDeep p

-- it has none of them, and r is its normal diagram
pub record MeaningOf (p : Term) (r : Tree) : Type 0 where
  pub flat : IsFlat p
  pub built : BuiltOf p r

-- it has no `dup`, and this is its first deep star
pub record LacksDeep (p : Term) (packet output : Packet) : Type 0 where
  pub flat : IsFlat p
  pub deep : IsFirstDeep p packet output

-- the first reason why it has no diagram
abbrev pub LacksMeaning : Term → CompileFault → Type 0
LacksMeaning p fault.Dup = ¬ IsFlat p
LacksMeaning p (fault.StarDeep packet output) = LacksDeep p packet output
LacksMeaning p fault.SetsSwitch = ⊥
LacksMeaning p fault.SetsType = ⊥
LacksMeaning p (fault.Unguarded packet) = ⊥

-- nothing is said of memory
abbrev pub RefusesMeaning : Term → CompileError → Type 0
RefusesMeaning p Memory = Unit {0}
RefusesMeaning p (Fault f) = LacksMeaning p f
