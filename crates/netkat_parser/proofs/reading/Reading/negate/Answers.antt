use Rattle.std.proofs.Common.{inr, refl, arith, ◌≤◌, length}
use Rattle.netkat_parser.proofs.Moving.{takes-not, stops-deep, stray-not, levels-put}
use Rattle.netkat_parser.specs.declared.sign.Sign.TheVariants as to_sign
use Rattle.netkat_parser.specs.Views.{view_of}
use Rattle.netkat_parser.proofs.reading.Reading.negate.Goals as goal

pub returns-then-depth-ge-MOST_OPEN : goal.returns-then-depth-ge-MOST_OPEN
returns-then-depth-ge-MOST_OPEN c =
    let v = view_of c.args.self.now in
    let deep : 200 ≤ length v.levels = omega (arith, c.depth.ensures) in
    stops-deep v to_sign.Not _ c.requires deep (inr refl) (stray-not _ deep)

pub returns : goal.returns
returns c =
    rw (levels-put _ _ _ _ c.put.ensures c.in_ok-reserve.ensures.items, c.replace-was.ensures.value, c.replace-was.ensures.after)
    (takes-not (view_of c.args.self.now) c.requires (omega (arith, c.depth.ensures)))
