use Rattle.std.proofs.Common.{refl}
use Rattle.nk_syntax.proofs.Equations.{term_of-filter, guard_of-one, guard_of-zero}
use Rattle.netkat_parser.specs.Views.{view_of}
use Rattle.netkat_parser.proofs.Moving.{takes-skip, takes-drop, takes-name, stops-operand}
use Rattle.netkat_parser.proofs.reading.Reading.operand.Goals as goal

pub returns-in-Skip : goal.returns-in-Skip
returns-in-Skip c = rw c.in-Skip.is (takes-skip (view_of c.args.self.now) _ c.requires (rw (term_of-filter, guard_of-one) refl))

pub returns-in-Drop : goal.returns-in-Drop
returns-in-Drop c = rw c.in-Drop.is (takes-drop (view_of c.args.self.now) _ c.requires (rw (term_of-filter, guard_of-zero) refl))

pub returns-in-Name : goal.returns-in-Name
returns-in-Name c = rw c.in-Name.is (takes-name (view_of c.args.self.now) c.in-Name.field c.requires)

pub returns-in_default : goal.returns-in_default
returns-in_default c =
    rw (c.stray.ensures, c.depth.ensures) (stops-operand (view_of c.args.self.now) c.args.sign c.requires
    c.in_default.not-Skip c.in_default.not-Drop c.in_default.not-Dup c.in_default.not-Name (λ e. absurd (c.in_default.not-Open e)) (λ e. absurd (c.in_default.not-Not e)))
