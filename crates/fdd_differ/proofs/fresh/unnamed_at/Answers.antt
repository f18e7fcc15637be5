use Rattle.std.proofs.Common.{◌<◌, ◌+◌, ℕ, sym, subst, arith}
use Rattle.nk_values.specs.Ranges.{least_literal}
use Rattle.fdd_differ.specs.Unnamed.{NamesAt, first_tried, IsUnnamed}
use Rattle.fdd_differ.proofs.UnnamedLaws.{unnamed_first, some_unnamed}
use Rattle.fdd_differ.proofs.fresh.unnamed_at.Goals as goal

pub returns-then-first-least_literal : goal.returns-then-first-least_literal
returns-then-first-least_literal g c =
    let h : first_tried c.args.f < least_literal c.args.f = omega arith in
    subst (λ (n : ℕ). IsUnnamed (g.N.Names.names c.args.names.now) c.args.f n) (sym c.first_tried-first.ensures) (unnamed_first _ _ h)

pub unreachable-requires : goal.unreachable-requires
unreachable-requires g c =
    some_unnamed (g.N.Names.names c.args.names.now) c.args.f c.requires
    (λ k h. subst (λ (n : ℕ). NamesAt (g.N.Names.names c.args.names.now) c.args.f (n + k)) c.first_tried-first.ensures
    (c.loop-i.invariant k (let w = c.loop-i-test.false in omega (arith, h, w))))
