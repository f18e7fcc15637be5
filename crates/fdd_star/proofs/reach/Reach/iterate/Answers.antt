use Rattle.std.proofs.Common.{sym, ap, ◌∙◌, subst, List, [], ◌∷◌, arith, length, get_or, Some}
use Rattle.std.proofs.lemmas.List.{length-append}
use Rattle.std.proofs.lemmas.Option.{slice_get-get_or}
use Rattle.nk_values.specs.declared.lit.Lit.{Lit}
use Rattle.fdd_store.specs.Stores.{tree_at}
use Rattle.fdd_star.specs.Reaches.{reached_copies, Grows}
use Rattle.fdd_star.proofs.GrowLaws.{grows_none, grows_more, none_yet, one_more, all_done}
use Rattle.fdd_star.proofs.NumberLaws.{numbers_at, numbers_count}
use Rattle.fdd_star.proofs.reach.Reach.iterate.Goals as goal

pub loop-i-init : goal.loop-i-init
loop-i-init c = (
  subst (λ (xs : List (List Lit)). Grows (tree_at c.args.store.now c.args.scope.now.body) c.args.scope.now.cell.now xs c.args.self.now c.args.self.now) (sym (none_yet c.args.from _)) (grows_none _ _ _),
  omega arith,
  (let e = c.len-i-end.ensures in let k = c.args.self.now.copies.ok in omega (arith, e, k)),
  c.requires.visits,
  c.requires.numbered,
)

pub index-requires : goal.index-requires
index-requires c =
    let g = c.loop-i.invariant.0 in
    let e = ap length g.joined ∙ length-append (reached_copies c.args.self.now) g.more in
    let b = c.loop-i-test.true in
    let n = c.loop-i.invariant.2 in
    omega (arith, e, b, n)

pub at-requires : goal.at-requires
at-requires c =
    let g = c.loop-i.invariant.0 in
    let e = ap length g.joined ∙ length-append (reached_copies c.args.self.now) g.more in
    let b = c.loop-i-test.true in
    let n = c.loop-i.invariant.2 in
    let f = numbers_count _ _ _ _ _ c.loop-i.invariant.4 in
    omega (arith, e, b, n, f)

pub step-requires-clause-number : goal.step-requires-clause-number
step-requires-clause-number c =
    let g = c.loop-i.invariant.0 in
    let e = ap length g.joined ∙ length-append (reached_copies c.args.self.now) g.more in
    let b = c.loop-i-test.true in
    let n = c.loop-i.invariant.2 in
    let there = slice_get-get_or (reached_copies c.loop-i.self) c.loop-i.i c.index.result.now (omega (arith, e, b, n)) ∙ ap (λ (x : List Lit). Some x) (sym c.index.ensures) in
    numbers_at _ _ _ (reached_copies c.loop-i.self) c.loop-i.self.numbers c.loop-i.i c.at.result c.in_ok-copy.field-0 c.loop-i.invariant.4 (there ∙ ap (λ (x : List Lit). Some x) (sym c.in_ok-copy.ensures)) c.at.ensures

pub loop-i-preserved : goal.loop-i-preserved
loop-i-preserved c =
    let g = c.loop-i.invariant.0 in
    let n = c.loop-i.invariant.2 in
    let b = c.loop-i.invariant.1 in
    let h = c.loop-i-test.true in
    let at = c.in_ok-copy.ensures ∙ c.index.ensures ∙ ap (λ (ys : List (List Lit)). get_or ys c.loop-i.i c.index.result.now) g.joined in
    let xs = one_more c.args.from c.loop-i.i (reached_copies c.args.self.now) g.more c.index.result.now b (omega (arith, n, h)) in
    let step = subst (λ (x : List Lit). Grows (tree_at c.args.store.now c.args.scope.now.body) c.args.scope.now.cell.now (x ∷ []) c.loop-i.self c.step.new.self) at c.in_ok-step.ensures.grown in (
      subst (λ (ys : List (List Lit)). Grows (tree_at c.args.store.now c.args.scope.now.body) c.args.scope.now.cell.now ys c.args.self.now c.step.new.self) (sym xs) (grows_more _ _ _ _ _ _ _ g step),
      omega (arith, b),
      n,
      c.in_ok-step.ensures.visits,
      c.in_ok-step.ensures.numbered,
    )

pub returns : goal.returns
returns c =
    let n = c.loop-i.invariant.2 in
    let b = c.loop-i-test.false in
    record {
      visits = c.loop-i.invariant.3;
      numbered = c.loop-i.invariant.4;
      grown = subst (λ (xs : List (List Lit)). Grows (tree_at c.args.store.now c.args.scope.now.body) c.args.scope.now.cell.now xs c.args.self.now c.loop-i.self) (all_done c.args.from c.loop-i.i (reached_copies c.args.self.now) (omega (arith, n, b))) c.loop-i.invariant.0;
    }
