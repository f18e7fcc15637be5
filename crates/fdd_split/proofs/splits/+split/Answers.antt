use Rattle.std.proofs.Common.{◌<◌, ◌≤◌, sym, subst, arith, refl}
use Rattle.std.proofs.lemmas.Bool.{false≢true}
use Rattle.nk_values.specs.Ranks.{rank}
use Rattle.fdd_nodes.specs.declared.node.Node as nodes
use Rattle.fdd_nodes.specs.Trees.{tree}
use Rattle.fdd_store.specs.Stores.{tree_at}
use Rattle.fdd_store.proofs.StoreLaws.{grows_on}
use Rattle.fdd_split.specs.Divides.{Divides}
use Rattle.fdd_split.proofs.BarLaws.{narrows_as}
use Rattle.fdd_split.proofs.DivideLaws.{later_root, first_before}
use Rattle.fdd_split.proofs.KeptLaws.{kept_grown, part_kept}
use Rattle.fdd_split.proofs.StepLaws.{then_step, else_step, branches_done, rest_step, part_step, doubles_done}
use Rattle.fdd_split.proofs.splits.+split.Goals as goal

pub divide-split_by-requires-then-precedes : goal.divide-split_by-requires-then-precedes
divide-split_by-requires-then-precedes t c = (
  omega arith,
  (c.requires.has, (c.requires.kept, (c.look.ensures.made, (c.requires.unbarred, (c.requires.threat, (c.requires.first, later_root c.args.l c.in-Fork.test _ _ _ c.look.ensures.made c.in-Fork.ensures.look.is (c.if-precedes.ensures.0 refl))))))),
)

pub divide-split_branches-requires : goal.divide-split_branches-requires
divide-split_branches-requires t c =
    let o : rank c.in-Fork.test ≤ rank c.args.l = let n = (λ (z : rank c.args.l < rank c.in-Fork.test). false≢true (c.if-precedes.ensures.1 z)) in omega (arith, n) in (
      omega arith,
      (c.requires.has, (c.requires.kept, (c.look.ensures.made, (c.in-Fork.ensures.look, (c.requires.unbarred, first_before _ _ c.args.l c.in-Fork.test c.requires.first o))))),
    )

pub split_below-returns-clause-kept : goal.split_below-returns-clause-kept
split_below-returns-clause-kept t c = c.in_ok-keep_part.ensures c.divide.new.store c.in_ok-root.ensures.kept
    (part_kept c.args.store.now c.divide.new.store c.in_ok-key.key c.args.bars.now c.args.a (record { root = c.in_ok-again.again }) c.in_ok-root.root.value c.in_ok-key.ensures.bars c.in_ok-key.ensures.diagram c.in_ok-root.ensures.grows c.requires.has c.in_ok-root.ensures.divided c.in_ok-again.ensures.cases)

pub split_branches-split_below-requires : goal.split_branches-split_below-requires
split_branches-split_below-requires t c =
    let y = narrows_as _ _ _ _ _ c.deref.ensures.value c.in_ok-yes_bars.ensures in
    let s = then_step c.args.bars.now c.args.store.now c.args.a c.args.fork.test _ _ c.requires.forked c.requires.made c.requires.unbarred _ y in
    (let w = s.0 in omega (arith, w), (s.1.0, (c.requires.kept, s.1.1)))

pub split_branches-split_below-requires-2 : goal.split_branches-split_below-requires-2
split_branches-split_below-requires-2 t c =
    let y = narrows_as _ _ _ _ _ c.deref.ensures.value c.in_ok-yes_bars.ensures in
    let n = narrows_as _ _ _ _ _ c.deref-2.ensures.value c.in_ok-no_bars.ensures in
    let s = else_step c.args.bars.now c.args.store.now c.args.a c.args.fork.test _ _ c.requires.forked c.requires.made c.requires.unbarred _ y _ n c.split_below.new.store c.in_ok-yes.ensures.grows in
    (let w = s.0 in omega (arith, w), (s.1.0, (c.in_ok-yes.ensures.kept, s.1.1)))

pub split_branches-returns-in_err-no-clause-grows : goal.split_branches-returns-in_err-no-clause-grows
split_branches-returns-in_err-no-clause-grows t c = grows_on _ _ _ c.in_ok-yes.ensures.grows c.in_err-no.ensures.grows

pub split_branches-returns-clause-grows : goal.split_branches-returns-clause-grows
split_branches-returns-clause-grows t c = grows_on _ _ _ c.in_ok-yes.ensures.grows c.in_ok-no.ensures.grows

pub split_branches-returns-clause-divided : goal.split_branches-returns-clause-divided
split_branches-returns-clause-divided t c =
    let y = narrows_as _ _ _ _ _ c.deref.ensures.value c.in_ok-yes_bars.ensures in
    let n = narrows_as _ _ _ _ _ c.deref-2.ensures.value c.in_ok-no_bars.ensures in
    subst (λ (z : nodes.Node). Divides c.args.bars.now (tree_at c.args.store.now c.args.a) (tree z)) (sym c.in_ok-made.ensures.ok)
    (branches_done c.args.bars.now c.args.store.now c.args.a c.args.fork.test _ _ c.requires.forked c.requires.made c.requires.unbarred _ y _ n c.split_below.new.store c.in_ok-yes.ensures.grows c.requires.first _ _ c.in_ok-yes.ensures.divided c.in_ok-no.ensures.divided)

pub split_by-split_below-requires : goal.split_by-split_below-requires
split_by-split_below-requires t c =
    let y = narrows_as _ _ _ _ _ c.deref.ensures.value c.in_ok-yes_bars.ensures in
    let s = part_step c.args.bars.now c.args.store.now c.args.a c.args.l c.requires.has c.requires.made c.requires.unbarred c.requires.threat c.requires.first c.requires.before _ c.in_ok-no_bars.ensures _ c.narrow.new.self _ c.in_ok-part.ensures.place y in
    (let w = s.0 in omega (arith, w), (s.1.0, (kept_grown _ _ _ c.in_ok-part.ensures.grows c.requires.kept, s.1.1)))

pub split_by-split_below-requires-2 : goal.split_by-split_below-requires-2
split_by-split_below-requires-2 t c =
    let n = narrows_as _ _ _ _ _ c.deref-2.ensures.value c.in_ok-no_bars.ensures in
    let g = grows_on _ c.narrow.new.self _ c.in_ok-part.ensures.grows c.in_ok-yes.ensures.grows in
    let s = rest_step c.args.bars.now c.args.store.now c.args.a c.args.l c.requires.has c.requires.made c.requires.unbarred c.requires.threat c.requires.first c.requires.before _ n c.split_below.new.store g in
    (let w = s.0 in omega (arith, w), (s.1.0, (c.in_ok-yes.ensures.kept, s.1.1)))

pub split_by-returns-clause-divided : goal.split_by-returns-clause-divided
split_by-returns-clause-divided t c =
    let y = narrows_as _ _ _ _ _ c.deref.ensures.value c.in_ok-yes_bars.ensures in
    let n = narrows_as _ _ _ _ _ c.deref-2.ensures.value c.in_ok-no_bars.ensures in
    let g = grows_on _ c.narrow.new.self _ c.in_ok-part.ensures.grows c.in_ok-yes.ensures.grows in
    subst (λ (z : nodes.Node). Divides c.args.bars.now (tree_at c.args.store.now c.args.a) (tree z)) (sym c.in_ok-made.ensures.ok)
    (doubles_done c.args.bars.now c.args.store.now c.args.a c.args.l c.requires.has c.requires.made c.requires.unbarred c.requires.threat c.requires.first c.requires.before _ n _ c.narrow.new.self _ c.in_ok-part.ensures.place y c.split_below.new.store g _ _ c.in_ok-yes.ensures.divided c.in_ok-no.ensures.divided)
