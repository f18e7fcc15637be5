use Rattle.std.proofs.Common.{◌≡◌, map, take}
use Rattle.thread_commands.specs.Run.{line_of}
use Rattle.thread_commands.proofs.document_run.lines_of.Given as goal

abbrev pub invariant-loop-packet : goal.invariant-loop-packet
invariant-loop-packet l = l.lines.items ≡ map line_of (take l.packet-index l.packets)
