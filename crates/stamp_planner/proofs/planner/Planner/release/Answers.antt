use Rattle.std.proofs.Common.{◌≡◌, ap, ◌∙◌}
use Rattle.stamp_planner.specs.Stamps.{IsLive}
use Rattle.stamp_planner.proofs.Stamping.{released-idle}
use Rattle.stamp_planner.proofs.planner.Planner.release.Goals as goal

pub returns-then-stamp-le-GREATEST_VLAN_ID-clause-idle : goal.returns-then-stamp-le-GREATEST_VLAN_ID-clause-idle
returns-then-stamp-le-GREATEST_VLAN_ID-clause-idle c =
    λ idle.
    let same : record { low = c.self.inside.low; high = c.self.inside.high; next = c.self.inside.next; live = c.self.inside.live } ≡ c.args.self.now = c.self.view_is in
    let off : ¬ (IsLive (record { low = c.self.inside.low; high = c.self.inside.high; next = c.self.inside.next; live = c.self.inside.live }) c.from.result) = λ h. idle (rw (← same, ← c.from.ensures) h) in
    ap (λ xs. record { low = c.self.inside.low; high = c.self.inside.high; next = c.self.inside.next; live = xs }) (released-idle c.self.inside.live c.from.result off) ∙ same
