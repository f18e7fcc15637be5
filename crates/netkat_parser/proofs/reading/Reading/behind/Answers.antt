use Rattle.std.proofs.Common.{refl, ◌≡◌, ◌≢◌, true}
use Rattle.netkat_parser.specs.declared.stage.Stage.TheVariants as stage
use Rattle.netkat_parser.specs.declared.sign.Sign.TheVariants as to_sign
use Rattle.netkat_parser.specs.Views.{at}
use Rattle.netkat_parser.proofs.Moving.{also-shows, moves-from, levels-pop}
use Rattle.netkat_parser.proofs.reading.Reading.behind.Goals.{else-atom-via-then-atom+else-matches, in-Star, in_default, else-atom-via-else-atom}
use Rattle.netkat_parser.proofs.reading.Reading.behind.Goals as goal

pub returns-in-Err : goal.returns-in-Err
returns-in-Err c = (λ x h. also-shows (at c.args.self.now (stage.Behind c.args.pol c.args.atom)) _ c.reserve.new.self refl c.reserve.ensures.same x h, refl)

pub returns-in-Some-Not : goal.returns-in-Some-Not
returns-in-Some-Not c =
    let star : c.args.atom ≡ true → c.args.sign ≢ to_sign.Star = elim c.else-atom.branch [
      | else-atom-via-then-atom+else-matches w ↦ (elim w.match-matches.branch [
        | in-Star w' ↦ λ e k. (let f = w.if-matches.false in let g = w'.matches-is in cc)
        | in_default w' ↦ λ e. w'.in_default.not-Star
      ])
      | else-atom-via-else-atom w ↦ λ e k. (let f = w.if-atom.false in cc)
    ] in
    let popped = levels-pop c.args.self.now.levels.items c.pop.new.self.items _ _ c.in-Some-Not.ensures.items c.in-Some-Not.field-0-is in
    moves-from (at c.args.self.now (stage.Behind c.args.pol c.args.atom)) _ c.reserve.new.self popped c.reserve.ensures.same c.args.sign _ c.end_not.result
    (c.end_not.ensures c.args.sign star)
