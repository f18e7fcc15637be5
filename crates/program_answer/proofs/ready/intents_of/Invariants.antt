use Rattle.std.proofs.Common.{◌≡◌, take}
use Rattle.program_answer.proofs.ready.intents_of.Given as goal

abbrev pub invariant-loop-pol : goal.invariant-loop-pol
invariant-loop-pol l = l.intents.items ≡ take l.pol-index l.policies
