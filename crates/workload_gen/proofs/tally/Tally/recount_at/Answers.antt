use Rattle.std.proofs.Common.{◌<◌, ◌∙◌, ℕ, List, length, slice_get, rules, sym, ap, arith}
use Rattle.update_laws.proofs.Places.{get-within}
use Rattle.workload_gen.specs.Counts.{IsCount}
use Rattle.workload_gen.specs.Draws.{tried_at}
use Rattle.workload_gen.proofs.Recounting.{set-here, set-others}
use Rattle.workload_gen.proofs.Summing.{set-length}
use Rattle.workload_gen.proofs.tally.Tally.recount_at.Goals as goal

pub set-requires : goal.set-requires
set-requires c =
    let same = ap (λ (xs : List ℕ). length xs) c.self.view_is in
    let counts = ap (λ (xs : List ℕ). length xs) c.counts.ensures in
    omega (arith, same, counts, c.if-place-counts.true)

pub returns-then-place-counts-clause-length : goal.returns-then-place-counts-clause-length
returns-then-place-counts-clause-length c = ap (λ (xs : List ℕ). length xs) c.set.ensures ∙ set-length c.self.inside.sums c.args.place c.count_at.result ∙ ap (λ (xs : List ℕ). length xs) c.self.view_is

pub returns-then-place-counts-clause-here : goal.returns-then-place-counts-clause-here
returns-then-place-counts-clause-here c =
    λ n e.
    let same = ap (λ (xs : List ℕ). length xs) c.self.view_is in
    let counts = ap (λ (xs : List ℕ). length xs) c.counts.ensures in
    let within : c.args.place < length c.self.inside.sums = omega (arith, same, counts, c.if-place-counts.true) in
    set-here (λ (m : ℕ). IsCount c.args.world.now (tried_at c.args.world.now c.args.place) m) c.self.inside.sums c.args.place c.count_at.result within c.count_at.ensures n (sym (ap (λ (xs : List ℕ). slice_get xs c.args.place) c.set.ensures) ∙ e)

pub returns-then-place-counts-clause-others : goal.returns-then-place-counts-clause-others
returns-then-place-counts-clause-others c =
    λ k d.
    let same = ap (λ (xs : List ℕ). length xs) c.self.view_is in
    let counts = ap (λ (xs : List ℕ). length xs) c.counts.ensures in
    let within : c.args.place < length c.self.inside.sums = omega (arith, same, counts, c.if-place-counts.true) in
    ap (λ (xs : List ℕ). slice_get xs k) c.set.ensures ∙ set-others c.self.inside.sums c.args.place c.count_at.result k within d ∙ ap (λ (xs : List ℕ). slice_get xs k) c.self.view_is

pub returns-else-place-counts-clause-here : goal.returns-else-place-counts-clause-here
returns-else-place-counts-clause-here c =
    λ n e. absurd (
    let within = get-within c.args.place c.args.self.now n e in
    let counts = ap (λ (xs : List ℕ). length xs) c.counts.ensures in
    omega (arith, within, counts, c.if-place-counts.false)
    )
