use Rattle.std.specs.Prelude.{MatchResult, OnOk}
use Rattle.std.proofs.Common.{sym, ◌∙◌, Result, Ok, Err}
use Rattle.nk_syntax.specs.Terms.{Term}
use Rattle.nk_syntax.specs.Views.{term_of}
use Rattle.fdd_compile.specs.Compiles.{CompiledOf, IsFaultless}
use Rattle.fdd_compile.specs.Places.{diagram_of}
use Rattle.fdd_compile.specs.declared.compiled.CompiledPolicy.{CompiledPolicy}
use Rattle.fdd_compile.proofs.CompileLaws.{leftmost_told, faultless}
use Rattle.fdd_compile.proofs.compiler.Compiler.compile.Goals as goal

pub returns-in-Some-clause-told : goal.returns-in-Some-clause-told
returns-in-Some-clause-told c = leftmost_told (term_of c.args.pol.now) c.in-Some.fault (sym c.leftmost_fault.ensures ∙ c.in-Some.is)

pub compile_in-requires-clause-no_fault : goal.compile_in-requires-clause-no_fault
compile_in-requires-clause-no_fault c = sym c.leftmost_fault.ensures ∙ c.in_default.is

none_here : {E : Type 0} (p : Term) (r : Result CompiledPolicy E) (Q : E → Type 0) → MatchResult r (λ c. CompiledOf p (diagram_of c)) Q → OnOk r (IsFaultless p)
none_here p (Ok c) Q h = faultless p _ h
none_here p (Err e) Q h = tt

pub returns-clause-faultless : goal.returns-clause-faultless
returns-clause-faultless c = none_here _ c.compile_in.result _ c.compile_in.ensures
