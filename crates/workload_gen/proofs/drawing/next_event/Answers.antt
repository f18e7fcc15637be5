use Rattle.std.proofs.Common.{◌%◌, refl, subst, ℕ, arith}
use Rattle.workload_gen.specs.Counts.{Finds, IsCount}
use Rattle.workload_gen.specs.Draws.{tried}
use Rattle.workload_gen.proofs.Counted.{count-tried, total-counts}
use Rattle.workload_gen.proofs.Turning.{count-none, drawn-found, if-none, if-some}
use Rattle.workload_gen.proofs.drawing.next_event.Goals as goal

pub returns-then-count-eq0-clause-none : goal.returns-then-count-eq0-clause-none
returns-then-count-eq0-clause-none c =
    let w = c.args.world.now in
    let lines = c.args.packets.now in
    let n = c.saturating_add-count.result in
    let counted : IsCount w (tried lines w) n =
    count-tried w lines c.total.result c.args.others.hops c.args.others.last c.saturating_add-rest.result n
    (total-counts w c.args.tally.now c.total.result c.requires.counts c.total.ensures) c.requires.others.of_hops c.requires.others.of_last c.saturating_add-rest.ensures c.saturating_add-count.ensures in
    (count-none w (tried lines w) n counted c.if-count-eq0.true, refl)

pub returns-clause-none : goal.returns-clause-none
returns-clause-none c =
    let w = c.args.world.now in
    let lines = c.args.packets.now in
    let n = c.saturating_add-count.result in
    let word = c.next_word-word.result in
    let counted : IsCount w (tried lines w) n =
    count-tried w lines c.total.result c.args.others.hops c.args.others.last c.saturating_add-rest.result n
    (total-counts w c.args.tally.now c.total.result c.requires.counts c.total.ensures) c.requires.others.of_hops c.requires.others.of_last c.saturating_add-rest.ensures c.saturating_add-count.ensures in
    let finds : Finds w (tried lines w) (word % n) c.in_ok-found.found = subst (λ (k : ℕ). Finds w (tried lines w) (k % n) c.in_ok-found.found) c.from.ensures c.in_ok-found.ensures in
    let f = drawn-found lines w c.args.rng.now n c.in_ok-found.found counted word c.next_word-word.ensures.word (omega (arith, c.next_word-word.type_inv)) c.if-count-eq0.false finds in
    if-none _ c.in_ok-found.found f.0 f.1

pub returns-clause-some : goal.returns-clause-some
returns-clause-some c =
    let w = c.args.world.now in
    let lines = c.args.packets.now in
    let n = c.saturating_add-count.result in
    let word = c.next_word-word.result in
    let counted : IsCount w (tried lines w) n =
    count-tried w lines c.total.result c.args.others.hops c.args.others.last c.saturating_add-rest.result n
    (total-counts w c.args.tally.now c.total.result c.requires.counts c.total.ensures) c.requires.others.of_hops c.requires.others.of_last c.saturating_add-rest.ensures c.saturating_add-count.ensures in
    let finds : Finds w (tried lines w) (word % n) c.in_ok-found.found = subst (λ (k : ℕ). Finds w (tried lines w) (k % n) c.in_ok-found.found) c.from.ensures c.in_ok-found.ensures in
    let f = drawn-found lines w c.args.rng.now n c.in_ok-found.found counted word c.next_word-word.ensures.word (omega (arith, c.next_word-word.type_inv)) c.if-count-eq0.false finds in
    if-some _ c.in_ok-found.found f.0 f.1 (f.2, c.next_word-word.ensures.behind)
