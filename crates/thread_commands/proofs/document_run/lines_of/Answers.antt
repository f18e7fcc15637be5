use Rattle.std.proofs.Common.{◌∙◌, ◌++◌, ◌∷◌, [], List, map, take, ap, sym}
use Rattle.std.proofs.lemmas.List.{take_more}
use Rattle.document_text.specs.declared.document.PacketLine.{PacketLine}
use Rattle.world_journal.specs.declared.line.Line.{Line}
use Rattle.thread_commands.specs.Run.{line_of}
use Rattle.thread_commands.proofs.RunLaws.{lines_more}
use Rattle.thread_commands.proofs.document_run.lines_of.Goals as goal

pub loop-packet-preserved : goal.loop-packet-preserved
loop-packet-preserved c =
    let packets = c.args.packets.now in
    let i = c.loop-packet.packet-index in
    let packet = c.packet-item.result in
    c.in_ok-push.ensures.items ∙ ap (λ (ls : List Line). ls ++ line_of packet ∷ []) c.loop-packet.invariant ∙ sym (lines_more (take i packets) packet)
    ∙ ap (λ (ls : List PacketLine). map line_of ls) (sym (take_more packets i packet c.loop-packet-test.true ∙ ap (λ (p : PacketLine). take i packets ++ p ∷ []) (sym c.packet-item.is)))
