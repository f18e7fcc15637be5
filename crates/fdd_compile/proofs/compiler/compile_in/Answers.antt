use Rattle.std.proofs.Common.{subst, Option, MatchOption}
use Rattle.nk_values.specs.declared.packet.Packet.{Packet}
use Rattle.nk_syntax.specs.Views.{term_of}
use Rattle.fdd_store.specs.Stores.{tree_at}
use Rattle.fdd_compile.specs.Guarded.{IsUnguardedAt}
use Rattle.fdd_compile.proofs.BuildLaws.{built_few}
use Rattle.fdd_compile.proofs.CompileLaws.{flat_of, keeps_types, compiled_of}
use Rattle.fdd_compile.proofs.compiler.compile_in.Goals as goal

pub build-requires-clause-flat : goal.build-requires-clause-flat
build-requires-clause-flat c = flat_of (term_of c.args.pol.now) c.requires.no_fault

pub unguarded-requires-clause-types : goal.unguarded-requires-clause-types
unguarded-requires-clause-types c = keeps_types (term_of c.args.pol.now) _ c.requires.no_fault c.in_ok-root.ensures.built.is.diagram

pub split-requires-clause-few : goal.split-requires-clause-few
split-requires-clause-few c = built_few _ _ c.in_ok-root.ensures.built.is c.requires.few

pub returns-in_ok-diagram-in-None : goal.returns-in_ok-diagram-in-None
returns-in_ok-diagram-in-None c =
    let t = tree_at c.build.new.store c.in_ok-root.root in
    let none = subst (λ (o : Option Packet). MatchOption o ((p : Packet) → ¬ IsUnguardedAt t p) (IsUnguardedAt t)) c.in-None.is c.in_ok-packet.ensures in
    compiled_of (term_of c.args.pol.now) t _ c.requires.no_fault c.in_ok-root.ensures.built.is none c.in_ok-diagram-in-None.ensures.split
