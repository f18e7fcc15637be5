use Rattle.std.proofs.Common.{true, false, arith}
use Rattle.program_answer.proofs.LineLaws.{after}
use Rattle.program_answer.proofs.lines.LineCount.line_after.Goals as goal

pub returns-then-self : goal.returns-then-self
returns-then-self c = λ text h. (let is = after c.args.self.now true text c.if-self.true h in omega (arith, is))

pub returns-else-self : goal.returns-else-self
returns-else-self c = λ text h. (let is = after c.args.self.now false text c.if-self.false h in omega (arith, is))
