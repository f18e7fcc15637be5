use Rattle.std.proofs.Common.{List, sym, subst, ap, arith}
use Rattle.nk_values.specs.declared.packet.Packet.{Packet}
use Rattle.fdd_star.specs.declared.keys.Key.{Key}
use Rattle.fdd_star.specs.Asks.{IsVisitAt, numbered}
use Rattle.fdd_star.specs.Reaches.{IsNumbered}
use Rattle.fdd_star.proofs.NumberLaws.{at_within, number_kept, numbers_kept, ok_first, ok_second}
use Rattle.fdd_star.proofs.reach.Reach.step.Goals as goal

pub returns-in-Some-clause-numbered : goal.returns-in-Some-clause-numbered
returns-in-Some-clause-numbered c = ok_first _ _ _ (c.follow.ensures _ c.args.store.now _ _ c.requires.visits.apart c.requires.numbered (c.requires.visits.right _ _ _ _ c.requires.number c.in-Some.ensures))

pub returns-in-Some-clause-grown : goal.returns-in-Some-clause-grown
returns-in-Some-clause-grown c = ok_second _ _ _ (c.follow.ensures _ c.args.store.now _ _ c.requires.visits.apart c.requires.numbered (c.requires.visits.right _ _ _ _ c.requires.number c.in-Some.ensures))

pub keep-requires : goal.keep-requires
keep-requires c =
    let visits = c.in_ok-made.ensures.visits c.args.store.now c.requires.visits in
    let count = visits.count in
    let within = at_within (numbered c.visit.new.self) c.args.here.now.number _ (number_kept c.args.found.now.visits c.visit.new.self _ _ _ c.in_ok-made.ensures.keeps c.requires.number) in
    omega (arith, count, within)

pub returns-clause-visits : goal.returns-clause-visits
returns-clause-visits c =
    let number = number_kept c.args.found.now.visits c.visit.new.self _ _ _ c.in_ok-made.ensures.keeps c.requires.number in
    let made = subst (λ (q : Packet). IsVisitAt c.args.store.now (numbered c.visit.new.self) c.args.scope.now.body q c.in_ok-made.made) c.after-cell.ensures.made c.in_ok-made.ensures.visit in
    c.keep.ensures.visits c.args.store.now _ _ (c.in_ok-made.ensures.visits c.args.store.now c.requires.visits) number made

pub returns-clause-numbered : goal.returns-clause-numbered
returns-clause-numbered c =
    let made = subst (λ (q : Packet). IsVisitAt c.args.store.now (numbered c.visit.new.self) c.args.scope.now.body q c.in_ok-made.made) c.after-cell.ensures.made c.in_ok-made.ensures.visit in
    let visits = c.in_ok-made.ensures.visits c.args.store.now c.requires.visits in
    let before = numbers_kept c.args.found.now.visits c.visit.new.self _ _ _ _ c.in_ok-made.ensures.keeps c.requires.numbered in
    let grown = c.in_ok-follow.ensures (numbered c.visit.new.self) c.args.store.now c.args.scope.now.body c.args.scope.now.cell.now visits.apart before made in
    subst (λ (keys : List Key). IsNumbered keys c.args.scope.now.body c.args.scope.now.cell.now c.follow-2.new.self) (sym (ap (λ x. x.keys) c.keep.ensures.cells)) grown.0

pub returns-clause-grown : goal.returns-clause-grown
returns-clause-grown c =
    let made = subst (λ (q : Packet). IsVisitAt c.args.store.now (numbered c.visit.new.self) c.args.scope.now.body q c.in_ok-made.made) c.after-cell.ensures.made c.in_ok-made.ensures.visit in
    let visits = c.in_ok-made.ensures.visits c.args.store.now c.requires.visits in
    let before = numbers_kept c.args.found.now.visits c.visit.new.self _ _ _ _ c.in_ok-made.ensures.keeps c.requires.numbered in
    let grown = c.in_ok-follow.ensures (numbered c.visit.new.self) c.args.store.now c.args.scope.now.body c.args.scope.now.cell.now visits.apart before made in
    grown.1
