use Rattle.std.proofs.Common.{◌≡◌, ◌+◌, ◌-◌, ◌/◌, ◌<◌, List, length, Some, slice_get, ap, arith}
use Rattle.std.proofs.lemmas.List.{length-map}
use Rattle.flow_index.proofs.Lists.{read-of}
use Rattle.flight_queues.specs.declared.numbered.NumberedFlight.{NumberedFlight}
use Rattle.flight_queues.specs.Merged.{numbers_of}
use Rattle.flight_queues.proofs.Lists.{map-at}
use Rattle.flight_queues.proofs.Rising.{index-within, index-above, index-below}
use Rattle.flight_queues.proofs.Finding.{has-at, some-number}
use Rattle.flight_queues.proofs.queue.Queue.position.Goals as goal

pub loop-low-init : goal.loop-low-init
loop-low-init c =
    let within = index-within c.args.number (numbers_of c.args.self.now) in
    let long = length-map c.args.self.now (λ (e : NumberedFlight). e.number) in
    let all = ap (λ (es : List NumberedFlight). length es) c.self.view_is in
    (omega arith, omega (arith, within, long, all, c.len-high.ensures, c.self.inside.copies.ok.0), omega (arith, all, c.len-high.ensures, c.self.inside.copies.ok.0))

pub loop-low-preserved-then-index-number-2 : goal.loop-low-preserved-then-index-number-2
loop-low-preserved-then-index-number-2 c =
    let middle = c.loop-low.low + (c.loop-low.high - c.loop-low.low) / 2 in
    let below : middle < c.loop-low.high = omega (arith, c.loop-low-test.true) in
    let within : middle < length c.args.self.now = omega (arith, below, c.loop-low.invariant.2) in
    let at : slice_get c.args.self.now middle ≡ Some c.index-in-loop-low.result.now = read-of c.self.inside.copies.items c.args.self.now middle c.index-in-loop-low.result.now c.self.view_is within c.index-in-loop-low.ensures in
    let long = length-map c.args.self.now (λ (e : NumberedFlight). e.number) in
    let more = index-above 0 c.requires.rising.0 c.args.number middle c.index-in-loop-low.result.now.number (numbers_of c.args.self.now) c.requires.rising.1 (map-at (λ (e : NumberedFlight). e.number) c.args.self.now middle c.index-in-loop-low.result.now at) c.if-index-number-2.true (omega (arith, within, long)) in
    (omega (arith, more), c.loop-low.invariant.1, c.loop-low.invariant.2)

pub loop-low-preserved : goal.loop-low-preserved
loop-low-preserved c =
    let middle = c.loop-low.low + (c.loop-low.high - c.loop-low.low) / 2 in
    let below : middle < c.loop-low.high = omega (arith, c.loop-low-test.true) in
    let within : middle < length c.args.self.now = omega (arith, below, c.loop-low.invariant.2) in
    let at : slice_get c.args.self.now middle ≡ Some c.index-in-loop-low.result.now = read-of c.self.inside.copies.items c.args.self.now middle c.index-in-loop-low.result.now c.self.view_is within c.index-in-loop-low.ensures in
    let less = index-below 0 c.requires.rising.0 c.args.number middle c.index-in-loop-low.result.now.number (numbers_of c.args.self.now) c.requires.rising.1 c.requires.held (map-at (λ (e : NumberedFlight). e.number) c.args.self.now middle c.index-in-loop-low.result.now at) c.if-index-number-2.false in
    (c.loop-low.invariant.0, less, omega (arith, within))

pub returns : goal.returns
returns c =
    has-at c.args.number c.args.self.now c.loop-low.low c.requires.held (let low = c.loop-low.invariant.0 in let high = c.loop-low.invariant.1 in omega (arith, low, high, c.loop-low-test.false))

pub index-requires : goal.index-requires
index-requires c =
    let all = ap (λ (es : List NumberedFlight). length es) c.self.view_is in
    omega (arith, some-number c.args.number c.args.self.now c.requires.held, all, c.self.inside.copies.ok.0)

pub returns-then-index-number : goal.returns-then-index-number
returns-then-index-number c =
    (c.index.result.now, read-of c.self.inside.copies.items c.args.self.now 0 c.index.result.now c.self.view_is (some-number c.args.number c.args.self.now c.requires.held) c.index.ensures, c.if-index-number.true)
