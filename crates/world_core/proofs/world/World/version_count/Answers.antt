use Rattle.std.proofs.Common.{length, ◌∙◌, ap}
use Rattle.world_core.specs.Worlds.{WorldValue}
use Rattle.world_core.proofs.Paired.{as-many-rows}
use Rattle.world_core.proofs.world.World.version_count.Goals as goal

pub returns : goal.returns
returns c = ap length c.versions.ensures ∙ as-many-rows _ c.self.invariant ∙ ap (λ (w : WorldValue). length w.versions) c.self.view_is
