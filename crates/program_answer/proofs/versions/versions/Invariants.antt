use Rattle.std.proofs.Common.{◌≡◌, length, take, map}
use Rattle.nk_syntax.specs.Views.{term_of}
use Rattle.program_answer.specs.Versions.{AreVersions}
use Rattle.program_answer.proofs.versions.versions.Given as goal

abbrev pub invariant-loop-pol : goal.invariant-loop-pol
invariant-loop-pol l = record {
  made : AreVersions l.topology l.settings 0 (take (length l.yielded) (map term_of l.fn.policies.items)) l.versions.items;
  count : length l.versions.items ≡ length l.yielded;
}
