use Rattle.std.proofs.Common.{◌≡◌, arith, subst, ap}
use Rattle.stamp_planner.specs.Stamps.{Planning, IsPlanning}
use Rattle.stamp_planner.proofs.Stamping.{all-live}
use Rattle.stamp_planner.proofs.planner.Planner.first_free.Goals as goal

pub returns : goal.returns
returns c =
    let same : record { low = c.self.inside.low; high = c.self.inside.high; next = c.self.inside.next; live = c.self.inside.live } ≡ c.args.self.now = c.self.view_is in
    let low = ap (λ (p : Planning). p.low) same in
    let high = ap (λ (p : Planning). p.high) same in
    all-live c.args.self.now (subst IsPlanning same c.self.invariant) (λ k below. c.loop-steps.invariant k (omega (arith, low, high)))
