use Rattle.std.proofs.Common.{◌∙◌}
use Rattle.world_journal.specs.Journals.{events_of}
use Rattle.world_journal.proofs.Staying.{runs-count}
use Rattle.world_journal.proofs.held.BookedWorld.switch_count.Goals as goal

pub returns-clause-start : goal.returns-clause-start
returns-clause-start g c = c.switch_count.ensures ∙ runs-count g.L.RunName.start (events_of c.self.inside.journal.items) c.self.inside.world c.self.invariant.0.runs
