-- Why a policy has no rows.
use Rattle.nk_values.specs.declared.fault.EmitFault.{EmitFault}
use Rattle.nk_syntax.specs.Terms.{Term}
use Rattle.topology_model.specs.Layouts.{Layout}
use Rattle.fdd_nodes.specs.Trees.{Tree}
use Rattle.fdd_compile.specs.Compiles.{CompiledOf, IsFaultOf}
use Rattle.fdd_compile.specs.Named.{AreFewNamed, TermNames}
use Rattle.table_emitter.specs.Emission.{IsEmitFault}
use Rattle.embed_example.specs.declared.policy.PolicyError.{PolicyError}
use Rattle.embed_example.specs.declared.policy.PolicyError.TheVariants as error
use Rattle.embed_example.specs.declared.policy.PolicyFault.TheVariants as fault

-- a compiled policy has no rows in a topology, with the stamp 1
pub record HasNoRows (t : Layout) (p : Term) (f : EmitFault) : Type 0 where
  pub diagram : Tree
  pub compiled : CompiledOf p diagram
  pub fault : IsEmitFault diagram t 1 f

-- the reason holds of the policy
abbrev pub IsReason : Layout → Term → PolicyError → Type 0
IsReason t p (error.Fault fault.ManyNames) = ¬ (AreFewNamed (TermNames p))
IsReason t p (error.Fault (fault.Compile f)) = IsFaultOf p f
IsReason t p (error.Fault (fault.Emit f)) = HasNoRows t p f
IsReason t p error.Memory = Unit {0}
