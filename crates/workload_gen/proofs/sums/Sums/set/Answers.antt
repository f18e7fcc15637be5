use Rattle.std.proofs.Common.{◌≡◌, ◌<◌, ◌-◌, ◌/◌, ◌^◌, ◌++◌, ℕ, List, sym, ◌∙◌, ap, subst, drop, length, slice_get, slice_set, take, arith}
use Rattle.workload_gen.specs.Counts.{AreBlocks, sum_of, sum_to_limit}
use Rattle.workload_gen.proofs.Summing.{Changes, block-holds, change-blocks, over-front, sum-changed, sum-get}
use Rattle.workload_gen.proofs.sums.Sums.set.Goals as goal

pub overflow_sub-self-inside : goal.overflow_sub-self-inside
overflow_sub-self-inside c =
    let numbers = c.self.inside.numbers.items in
    let same = ap (λ (xs : List ℕ). length xs) c.self.view_is in
    let least = sum-get numbers c.args.place c.index-before.result.now (omega (arith, same, c.requires)) in
    omega (arith, least, c.index-before.ensures, c.self.invariant.1, c.if-self-lt18446744073709551615.true)

pub change_block-requires : goal.change_block-requires
change_block-requires c =
    λ b at.
    let numbers = c.self.inside.numbers.items in
    let same = ap (λ (xs : List ℕ). length xs) c.self.view_is in
    let within : c.args.place < length numbers = omega (arith, same, c.requires) in
    let small : sum_of numbers < 2 ^ 64 - 1 = omega (arith, c.self.invariant.1, c.if-self-lt18446744073709551615.true) in
    let least = block-holds numbers c.self.inside.blocks.items c.args.place c.index-before.result.now c.self.invariant.0 within small b (sym (ap (λ (xs : List ℕ). slice_get xs (c.args.place / 8)) c.deref_mut.ensures.value) ∙ at) in
    omega (arith, least, c.index-before.ensures)

pub invariant_of-self : goal.invariant_of-self
invariant_of-self c =
    let numbers = c.self.inside.numbers.items in
    let blocks = c.self.inside.blocks.items in
    let place = c.args.place in
    let before = c.index-before.result.now in
    let new = c.change_block.new.blocks in
    let same = ap (λ (xs : List ℕ). length xs) c.self.view_is in
    let within : place < length numbers = omega (arith, same, c.requires) in
    let small : sum_of numbers < 2 ^ 64 - 1 = omega (arith, c.self.invariant.1, c.if-self-lt18446744073709551615.true) in
    let value = c.deref_mut.ensures.value in
    let many : length new ≡ length blocks = c.change_block.ensures.length ∙ ap (λ (xs : List ℕ). length xs) value in
    let is : take c.self.inside.blocks.len (new ++ drop (length new) blocks) ≡ new = over-front new (drop (length new) blocks) c.self.inside.blocks.len (omega (arith, many, c.deref_mut.ensures.len)) in
    let changes : Changes blocks new (place / 8) before c.args.number = subst (λ (xs : List ℕ). Changes xs new (place / 8) before c.args.number) value c.change_block.ensures.here in
    let changed = sum-changed numbers place before c.args.number c.self.inside.total within c.self.invariant.1 c.if-self-lt18446744073709551615.true in (
      subst (λ (xs : List ℕ). AreBlocks (slice_set numbers place c.args.number) xs) (sym is)
          (change-blocks numbers blocks new place before c.args.number c.self.invariant.0 within c.index-before.ensures small many changes (λ k d. c.change_block.ensures.others k d ∙ ap (λ (xs : List ℕ). slice_get xs k) value)),
      omega (arith, changed, c.index-before.ensures, c.saturating_add-self-inside.ensures),
    )
