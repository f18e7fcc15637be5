use Rattle.std.proofs.Common.{true, false, Ok, drop, refl, sym, ◌∙◌, subst}
use Rattle.netkat_parser.specs.declared.sign.Sign.TheVariants.{Semicolon, Plus}
use Rattle.netkat_parser.specs.declared.stage.Stage.TheVariants as stage
use Rattle.netkat_parser.specs.Cuts.{IsSignAhead}
use Rattle.netkat_parser.specs.Standing.{Leaves}
use Rattle.netkat_parser.specs.Views.{at, GoesOn, View}
use Rattle.netkat_parser.proofs.Moving.{also-shows, moves-from, takes-semicolon, takes-plus}
use Rattle.netkat_parser.proofs.PairSteps.{ahead-takes, goes-where}
use Rattle.netkat_parser.proofs.reading.Reading.follow.Goals.{then-is_ok, else-is_ok}
use Rattle.netkat_parser.proofs.reading.Reading.follow.Goals as goal

pub returns-in-Some-Semicolon-default-clause-leaves : goal.returns-in-Some-Semicolon-default-clause-leaves
returns-in-Some-Semicolon-default-clause-leaves c = λ end.
    let v = at c.args.self.now (stage.Behind c.args.pol true) in
    let reserved : View = record { named = v.named; stage = v.stage; levels = v.levels; inside = v.inside; chain = c.reserve.new.self } in
    let taken : View = record { named = v.named; stage = stage.Operand; levels = v.levels; inside = v.inside; chain = c.factor.new.self } in
    let goes : GoesOn v.levels Semicolon = elim c.if-is_ok.branch [
      | then-is_ok w ↦ w.goes_on-joins.ensures (goes-where _ _ w.joins-is c.if-joins.true) Semicolon (λ e. cc) (λ e. cc)
      | else-is_ok w ↦ (let clash = sym w.joins-is ∙ c.if-joins.true in cc)
    ] in
    let s : IsSignAhead c.args.text.now Semicolon c.in-Some-Semicolon-default.len = rw c.in-Some-Semicolon-default.field-0-0-is at c.in-Some-Semicolon-default.ensures in
    let t = moves-from v v.levels c.reserve.new.self refl c.reserve.ensures.same Semicolon taken (Ok true)
    (takes-semicolon reserved c.args.pol true c.factor.new.self refl goes c.factor.ensures) in
    subst (λ st. Leaves v false c.args.text.now end (record { named = v.named; stage = st; levels = v.levels; inside = v.inside; chain = c.factor.new.self }) false (drop c.in-Some-Semicolon-default.len c.args.text.now))
    (sym c.requires) (ahead-takes v taken c.args.text.now end Semicolon c.in-Some-Semicolon-default.len s t)

pub returns-in-Some-Plus-default-clause-leaves : goal.returns-in-Some-Plus-default-clause-leaves
returns-in-Some-Plus-default-clause-leaves c = λ end.
    let v = at c.args.self.now (stage.Behind c.args.pol true) in
    let reserved : View = record { named = v.named; stage = v.stage; levels = v.levels; inside = v.inside; chain = c.reserve.new.self } in
    let taken : View = record { named = v.named; stage = stage.Operand; levels = v.levels; inside = v.inside; chain = c.summand.new.self } in
    let goes : GoesOn v.levels Plus = elim c.if-is_ok.branch [
      | then-is_ok w ↦ w.goes_on-joins.ensures (goes-where _ _ w.joins-is c.if-joins-2.true) Plus (λ e. cc) (λ e. cc)
      | else-is_ok w ↦ (let clash = sym w.joins-is ∙ c.if-joins-2.true in cc)
    ] in
    let s : IsSignAhead c.args.text.now Plus c.in-Some-Plus-default.len = rw c.in-Some-Plus-default.field-0-0-is at c.in-Some-Plus-default.ensures in
    let t = moves-from v v.levels c.reserve.new.self refl c.reserve.ensures.same Plus taken (Ok true)
    (takes-plus reserved c.args.pol true c.summand.new.self refl goes c.summand.ensures) in
    subst (λ st. Leaves v false c.args.text.now end (record { named = v.named; stage = st; levels = v.levels; inside = v.inside; chain = c.summand.new.self }) false (drop c.in-Some-Plus-default.len c.args.text.now))
    (sym c.requires) (ahead-takes v taken c.args.text.now end Plus c.in-Some-Plus-default.len s t)

pub returns-in_default-clause-leaves : goal.returns-in_default-clause-leaves
returns-in_default-clause-leaves c = λ end x h.
    let v = at c.args.self.now (stage.Behind c.args.pol true) in
    (x, also-shows v v.levels c.reserve.new.self refl c.reserve.ensures.same x h, λ rest o e k. k)
