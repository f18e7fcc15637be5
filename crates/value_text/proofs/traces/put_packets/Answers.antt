use Rattle.std.proofs.Common.{◌+◌, drop, string_bytes}
use Rattle.std.proofs.lemmas.List.{drop_all}
use Rattle.value_text.specs.Traces.{IsPacketText}
use Rattle.value_text.proofs.TextLaws.{drop_next, no_text, next_text, last_text}
use Rattle.value_text.proofs.traces.put_packets.Goals as goal

pub loop-before-init : goal.loop-before-init
loop-before-init c = no_text IsPacketText c.args.walks.now (string_bytes c.args.out.now)

pub loop-before-preserved : goal.loop-before-preserved
loop-before-preserved c =
    let walks = c.args.walks.now in
    let k = c.loop-before.before in
    next_text IsPacketText walks (drop k walks) (drop (k + 1) walks) k c.index-walks-before.result _ _ _
    (drop_next walks k c.index-walks-before.result c.loop-before-test.true c.index-walks-before.is) c.loop-before.invariant c.in_ok-put_walk.ensures

pub returns : goal.returns
returns c =
    let walks = c.args.walks.now in
    let k = c.loop-before.before in
    last_text IsPacketText walks (drop k walks) k _ _ (drop_all k walks c.loop-before-test.false) c.loop-before.invariant
