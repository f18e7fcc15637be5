use Rattle.std.proofs.Common.{◌≡◌, ◌+◌, ◌<◌, ◌≤◌, List, length, get_or, drop, sym, subst, string_bytes}
use Rattle.std.proofs.lemmas.List.{drop_all}
use Rattle.document_text.specs.declared.document.PacketLine.{PacketLine}
use Rattle.document_text.specs.Answers.{doc_of}
use Rattle.program_answer.specs.Sound.{IsSoundPacket}
use Rattle.program_answer.proofs.Lists.{at_place}
use Rattle.value_text.proofs.TextLaws.{drop_next, no_text, next_text, last_text, of_kind}
use Rattle.plain_commands.specs.Trace.{IsPacketLineText}
use Rattle.plain_commands.proofs.trace.put_packets.Goals as goal

pub loop-before-init : goal.loop-before-init
loop-before-init c = λ p m. no_text (IsPacketLineText (doc_of c.args.document.now) p) c.args.document.now.packets.items (string_bytes c.args.out.now)

pub walk_of-requires-clause-packet : goal.walk_of-requires-clause-packet
walk_of-requires-clause-packet c =
    let lines = c.args.document.now.packets.items in
    let i = c.loop-before.before in
    let line = c.line-item.result in
    let within : i < length lines = subst (λ (xs : List PacketLine). i < length xs) c.packets-line-items.ensures c.loop-before-test.true in
    let is : line ≡ get_or lines i line = subst (λ (xs : List PacketLine). line ≡ get_or xs i line) c.packets-line-items.ensures c.line-item.is in
    subst (λ (l : PacketLine). IsSoundPacket c.args.document.now.topology l) (sym is) (c.requires.sound.packets _ (at_place lines i line within))

pub loop-before-preserved : goal.loop-before-preserved
loop-before-preserved c = λ p m.
    let lines = c.args.document.now.packets.items in
    let i = c.loop-before.before in
    let line = c.line-item.result in
    let within : i < length lines = subst (λ (xs : List PacketLine). i < length xs) c.packets-line-items.ensures c.loop-before-test.true in
    let is : line ≡ get_or lines i line = subst (λ (xs : List PacketLine). line ≡ get_or xs i line) c.packets-line-items.ensures c.line-item.is in
    let text = of_kind _ (IsPacketLineText (doc_of c.args.document.now) p (i + 1) line) _ _ (λ t h. (c.in_ok-walk.walk, c.in_ok-walk.ensures p m, h)) c.in_ok-put_walk.ensures in
    next_text (IsPacketLineText (doc_of c.args.document.now) p) lines (drop i lines) (drop (i + 1) lines) i line _ _ _ (drop_next lines i line within is) (c.loop-before.invariant p m) text

pub returns : goal.returns
returns c = λ p m.
    let lines = c.args.document.now.packets.items in
    let i = c.loop-before.before in
    let over : length lines ≤ i = subst (λ (xs : List PacketLine). length xs ≤ i) c.packets-line-items.ensures c.loop-before-test.false in
    last_text (IsPacketLineText (doc_of c.args.document.now) p) lines (drop i lines) i _ _ (drop_all i lines over) (c.loop-before.invariant p m)
