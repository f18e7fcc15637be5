use Rattle.std.proofs.Common.{inl, refl, arith, ◌≤◌, length}
use Rattle.netkat_parser.proofs.Moving.{takes-open, stops-deep, stray-open, levels-put}
use Rattle.netkat_parser.specs.declared.sign.Sign.TheVariants as to_sign
use Rattle.netkat_parser.specs.Views.{view_of}
use Rattle.netkat_parser.proofs.reading.Reading.open_bracket.Goals as goal

pub returns-then-depth-ge-MOST_OPEN : goal.returns-then-depth-ge-MOST_OPEN
returns-then-depth-ge-MOST_OPEN c =
    let v = view_of c.args.self.now in
    let deep : 200 ≤ length v.levels = omega (arith, c.depth.ensures) in
    stops-deep v to_sign.Open _ c.requires deep (inl refl) (stray-open _ deep)

pub returns : goal.returns
returns c =
    rw (levels-put _ _ _ _ c.put.ensures c.in_ok-reserve.ensures.items, c.replace-outer.ensures.value, c.replace-outer.ensures.after)
    (takes-open (view_of c.args.self.now) c.new-none.result c.requires (omega (arith, c.depth.ensures)) c.new-none.ensures)
