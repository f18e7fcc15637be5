use Rattle.std.proofs.Common.{arith, ap, sym, subst, ◌∙◌, refl}
use Rattle.fdd_nodes.specs.Trees.{Leaf}
use Rattle.fdd_star.specs.declared.names.Names.{Names}
use Rattle.fdd_star.specs.Named.{AddsNames}
use Rattle.fdd_store.specs.Stores.{tree_at}
use Rattle.fdd_store.proofs.ForkLaws.{fall_then, fall_else}
use Rattle.fdd_star.proofs.NamedLaws.{adds_done, adds_fork, adds_leaf, adds_there, named_test}
use Rattle.fdd_star.proofs.names.Names.+add.Goals as goal
use Rattle.fdd_star.proofs.names.Names.+add.Goals.{in-Leaf+in_ok-add_copies-in-Leaf+in_ok-add_copies-in-Leaf-2, in-Fork+in_ok-insert-in-Fork+in_ok-add-in-Fork+in_ok-add-in-Fork-2}

pub returns-then-contains : goal.returns-then-contains
returns-then-contains t c = adds_there c.args.store.now c.args.a _ (sym c.contains.ensures ∙ c.if-contains.true) c.requires.done

pub add-requires : goal.add-requires
add-requires t c = (
  let w = fall_then _ c.in-Fork.l _ _ _ _ c.in-Fork.ensures.look c.in-Fork.ensures.made in omega (arith, w),
  (c.in-Fork.ensures.look.has_then, named_test c.args.store.now c.in-Fork.l _ _ c.in_ok-insert-in-Fork.ensures.keys refl refl c.requires.done),
)

pub add-requires-in-Fork : goal.add-requires-in-Fork
add-requires-in-Fork t c = (
  let w = fall_else _ c.in-Fork.l _ _ _ _ c.in-Fork.ensures.look c.in-Fork.ensures.made in omega (arith, w),
  (c.in-Fork.ensures.look.has_else, c.in_ok-add-in-Fork.ensures.done),
)

pub returns : goal.returns
returns t c = adds_done c.args.store.now c.args.a _ c.match-look.self _ c.in_ok-insert.ensures.keys refl refl (elim c.match-look.branch [
  | in-Leaf+in_ok-add_copies-in-Leaf+in_ok-add_copies-in-Leaf-2 w ↦
      let new : Names = record { named = w.add_copies.new.names; assigned = w.add_copies-in-Leaf.new.names; done = c.args.self.now.done } in
      subst (AddsNames c.args.store.now (tree_at c.args.store.now c.args.a) c.args.self.now) (sym w.self-is)
      (adds_leaf c.args.store.now _ _ _ new (w.leaf.ensures ∙ ap Leaf (sym w.copies-copies.ensures.list)) w.in_ok-add_copies-in-Leaf.ensures w.in_ok-add_copies-in-Leaf-2.ensures refl c.requires.done)
  | in-Fork+in_ok-insert-in-Fork+in_ok-add-in-Fork+in_ok-add-in-Fork-2 w ↦
      let test : Names = record { named = w.insert.new.self; assigned = c.args.self.now.assigned; done = c.args.self.now.done } in
      subst (AddsNames c.args.store.now (tree_at c.args.store.now c.args.a) c.args.self.now) (sym w.self-is)
      (adds_fork c.args.store.now w.in-Fork.l _ _ _ c.args.self.now test w.add.new.self w.add-in-Fork.new.self w.in-Fork.ensures.look.is w.in_ok-insert-in-Fork.ensures.keys refl w.in_ok-add-in-Fork.ensures w.in_ok-add-in-Fork-2.ensures)
])
