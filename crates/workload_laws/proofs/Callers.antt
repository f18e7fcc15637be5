-- What callers need of workloads.
use Rattle.std.proofs.Common.{◌≡◌, ℕ, zero, suc, ◌+◌, ◌≤◌, ◌<◌, sym, ◌∙◌, subst, arith, List, [], ◌∷◌, length, take, get_or}
use Rattle.std.specs.List.{AllByRecursion}
use Rattle.nk_syntax.specs.Terms.{Term}
use Rattle.fdd_nodes.specs.Trees.{Tree}
use Rattle.nk_values.specs.declared.fault.CompileFault.{CompileFault}
use Rattle.fdd_compile.specs.declared.fault.CompileError.{CompileError}
use Rattle.fdd_compile.specs.declared.fault.CompileError.TheVariants as compile
use Rattle.fdd_compile.specs.Compiles.{CompiledOf, Refuses}
use Rattle.fdd_compile.specs.Named.{TermNames, AreFewNamed}
use Rattle.topology_model.specs.Layouts.{Layout}
use Rattle.topology_model.specs.Wired.{IsTopology}
use Rattle.nk_values.specs.declared.fault.EmitFault.{EmitFault}
use Rattle.table_emitter.specs.declared.fault.EmitError.{EmitError}
use Rattle.table_emitter.specs.declared.fault.EmitError.TheVariants as emit
use Rattle.table_emitter.specs.Emission.{BarsPolicy}
use Rattle.workload_laws.specs.Forwards.{Forwards}
use Rattle.workload_laws.specs.Leaves.{AreRising}
use Rattle.workload_laws.specs.Workload.{IsWorkload}
use Rattle.workload_laws.proofs.Emitted.{never_barred}
use Rattle.workload_laws.proofs.Faults.{never_refused}
use Rattle.workload_laws.proofs.Named.{few_named}
use Rattle.workload_laws.proofs.Workloads.{forwards}

forwards_of : (p : Term) (w : IsWorkload p) → Forwards w.switches 3 p
forwards_of p w = subst (Forwards w.switches 3) (sym w.is) (forwards w.switches w.blocked)

pub named_few : (p : Term) → IsWorkload p → AreFewNamed (TermNames p)
named_few p w = let b = w.few in few_named w.switches 3 p (omega arith) (omega (arith, b)) (forwards_of p w)

pub not_refused : (p : Term) (e : CompileError) (x : CompileFault) → IsWorkload p → e ≡ compile.Fault x → Refuses p e → ⊥
not_refused p e x w i h = let k : compile.Fault x ≡ compile.Memory = sym i ∙ never_refused w.switches 3 p e (omega arith) (forwards_of p w) h in cc

pub not_barred : (p : Term) (d d' : Tree) (t : Layout) (stamp : ℕ) (e : EmitError) (x : EmitFault) → IsWorkload p → CompiledOf p d → d' ≡ d → AreRising d' → IsTopology t → e ≡ emit.Fault x → BarsPolicy d t stamp e → ⊥
not_barred p d d' t stamp e x w c i r top j h =
    let b = w.few in
    let k : emit.Fault x ≡ emit.Memory = sym j ∙ never_barred w.switches 3 p d t stamp e (omega (arith, b)) (omega arith) (forwards_of p w) c.diagram (subst AreRising i r) top h in
    cc

pub take_more : {X : Type 0} (P : X → Type 0) (xs : List X) (i : ℕ) (d : X) → i < length xs → AllByRecursion P (take i xs) → P (get_or xs i d) → AllByRecursion P (take (i + 1) xs)
take_more P [] i d b h p = absurd (omega (arith, b))
take_more P (x ∷ xs) zero d b h p = (p, tt)
take_more P (x ∷ xs) (suc i) d b h p =
    let e : suc (i + 1) ≡ suc i + 1 = omega arith in
    subst (λ (n : ℕ). AllByRecursion P (take n (x ∷ xs))) e (h.0, take_more P xs i d (omega (arith, b)) h.1 p)

pub take_whole : {X : Type 0} (P : X → Type 0) (xs : List X) (i : ℕ) → length xs ≤ i → AllByRecursion P (take i xs) → AllByRecursion P xs
take_whole P [] i b h = tt
take_whole P (x ∷ xs) zero b h = absurd (omega (arith, b))
take_whole P (x ∷ xs) (suc i) b h = (h.0, take_whole P xs i (omega (arith, b)) h.1)
