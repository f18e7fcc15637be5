use Rattle.std.proofs.Common.{arith}
use Rattle.document_text.proofs.Ends.{line-len, piece-len}
use Rattle.document_text.proofs.words.line_end.Goals as goal

pub returns-in-Some-clause-some : goal.returns-in-Some-clause-some
returns-in-Some-clause-some c =
    let found = rw c.in-Some.is at c.memchr.ensures in
    let within = found.0.high in
    (omega arith, omega (arith, within), line-len c.args.text.now c.in-Some.at found)

pub returns-in-None-clause-none : goal.returns-in-None-clause-none
returns-in-None-clause-none c = piece-len c.args.text.now (rw c.in-None.is at c.memchr.ensures)
