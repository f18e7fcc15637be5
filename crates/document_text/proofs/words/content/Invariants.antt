use Rattle.std.proofs.Common.{◌≡◌, ◌+◌, drop}
use Rattle.document_text.proofs.Pieces.{content_len}
use Rattle.document_text.proofs.words.content.Given as goal

abbrev pub invariant-loop-i : goal.invariant-loop-i
invariant-loop-i l = content_len l.line ≡ l.i + content_len (drop l.i l.line)
