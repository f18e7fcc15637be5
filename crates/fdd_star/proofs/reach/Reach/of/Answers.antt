use Rattle.std.proofs.Common.{ap, ◌∙◌, arith, length, List, get_or}
use Rattle.nk_values.specs.declared.lit.Lit.{Lit}
use Rattle.fdd_star.proofs.FaultLaws.{fault_filled}
use Rattle.fdd_star.proofs.TurnLaws.{turned_start, turned_next, closed_of, deep_named}
use Rattle.fdd_star.proofs.reach.Reach.of.Goals as goal

pub loop-iteration-init : goal.loop-iteration-init
loop-iteration-init c = (turned_start _ _ _ _ c.requires.held c.in_ok-all.ensures.starts, c.in_ok-all.ensures.visits _ (c.forget_many.ensures _ c.requires.visits), c.in_ok-all.ensures.numbered)

pub returns-then-from-until : goal.returns-then-from-until
returns-then-from-until c =
    let b = c.loop-iteration-test.true in
    let e = c.if-from-until.true in
    let f = c.len-until.ensures in
    let k = c.loop-iteration.all.copies.ok in
    record { visits = c.loop-iteration.invariant.1; reach = closed_of _ _ _ c.loop-iteration.iteration c.loop-iteration.from _ (omega (arith, b)) (omega (arith, e, f, k)) c.loop-iteration.invariant.0 }

pub loop-iteration-preserved : goal.loop-iteration-preserved
loop-iteration-preserved c =
    let f = c.len-until.ensures in
    let k = c.loop-iteration.all.copies.ok in
    (turned_next _ _ _ _ _ _ _ _ (omega (arith, f, k)) c.loop-iteration.invariant.0 c.in_ok-iterate.ensures.grown, c.in_ok-iterate.ensures.visits, c.in_ok-iterate.ensures.numbered)

pub returns-in-None : goal.returns-in-None
returns-in-None c =
    let n = c.loop-iteration.auto.iteration-end in
    let b = c.in-None.ensures.lookup.3 in
    let w = c.loop-iteration.invariant.0.within in
    let e = ap length c.deref.ensures.value in
    record { visits = c.loop-iteration.invariant.1; reach = closed_of _ _ _ c.loop-iteration.iteration c.loop-iteration.from _ (omega (arith, n)) (omega (arith, b, w, e)) c.loop-iteration.invariant.0 }

pub returns-in-Some : goal.returns-in-Some
returns-in-Some c =
    let n = c.loop-iteration.auto.iteration-end in
    let m = c.loop-iteration-test.false in
    let e = ap length c.deref.ensures.value in
    let b = c.in-Some.ensures.lookup.3.0 in
    let at = c.in-Some.ensures.lookup.1 ∙ ap (λ (xs : List (List Lit)). get_or xs c.loop-iteration.from c.in-Some.late.now) c.deref.ensures.value in
    record {
      visits = tt;
      reach = fault_filled _ _ _ _ _ c.filled-packet.ensures
          (deep_named _ _ _ _ c.loop-iteration.iteration c.loop-iteration.from c.loop-iteration.all _ _ _ _ c.filled-packet.ensures c.filled-output.ensures c.after.ensures.made c.requires.valid c.requires.range c.requires.fresh (omega (arith, n, m)) c.loop-iteration.invariant.0 (omega (arith, b, e)) at);
    }
