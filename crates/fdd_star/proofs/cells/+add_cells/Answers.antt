use Rattle.std.proofs.Common.{ℕ, arith, ap, sym, ◌∙◌, subst}
use Rattle.nk_values.specs.Members.{IsIn}
use Rattle.fdd_star.specs.Marks.{PutsNumber}
use Rattle.fdd_nodes.specs.Trees.{Leaf, Tree}
use Rattle.fdd_star.specs.Cells.{Leads}
use Rattle.fdd_store.proofs.ForkLaws.{fall_then, fall_else}
use Rattle.fdd_star.proofs.LeadLaws.{gone_as, gone_both, gone_by, gone_done, gone_leaf, gone_there, leads_both, leads_else, leads_then}
use Rattle.fdd_star.proofs.cells.+add_cells.Goals as goal
use Rattle.fdd_star.proofs.cells.+add_cells.Goals.{in-Leaf+in_ok-add_copies-in-Leaf, in-Fork+in-Yes+in_ok-add_cells-in-Yes, in-Fork+in-No+in_ok-add_cells-in-No, in-Fork+in-Unset+in_ok-add_cells-in-Unset+in_ok-add_cells-in-Unset-2}

pub returns-then-contains : goal.returns-then-contains
returns-then-contains t c = gone_there c.args.store.now _ _ _ c.args.a (subst (IsIn c.args.done.now) c.place.ensures (c.contains.ensures.0 c.if-contains.true)) c.requires.done

pub add_cells-requires : goal.add_cells-requires
add_cells-requires t c = (let w = fall_then _ c.in-Fork.l _ _ _ _ c.in-Fork.ensures.look c.in-Fork.ensures.made in omega (arith, w), (c.in-Fork.ensures.look.has_then, c.requires.done))

pub add_cells-requires-in-No : goal.add_cells-requires-in-No
add_cells-requires-in-No t c = (let w = fall_else _ c.in-Fork.l _ _ _ _ c.in-Fork.ensures.look c.in-Fork.ensures.made in omega (arith, w), (c.in-Fork.ensures.look.has_else, c.requires.done))

pub add_cells-requires-in-Unset : goal.add_cells-requires-in-Unset
add_cells-requires-in-Unset t c = (let w = fall_then _ c.in-Fork.l _ _ _ _ c.in-Fork.ensures.look c.in-Fork.ensures.made in omega (arith, w), (c.in-Fork.ensures.look.has_then, c.requires.done))

pub add_cells-requires-in-Unset-2 : goal.add_cells-requires-in-Unset-2
add_cells-requires-in-Unset-2 t c = (let w = fall_else _ c.in-Fork.l _ _ _ _ c.in-Fork.ensures.look c.in-Fork.ensures.made in omega (arith, w), (c.in-Fork.ensures.look.has_else, c.in_ok-add_cells-in-Unset.ensures.done))

pub returns : goal.returns
returns t c = gone_done _ _ _ c.args.a _ _ _ _ (subst (λ (n : ℕ). PutsNumber n c.in_ok-insert.field-0 c.match-look.done c.insert.new.self) c.place-2.ensures c.in_ok-insert.ensures) (elim c.match-look.branch [
  | in-Leaf+in_ok-add_copies-in-Leaf w ↦
      gone_as _ _ _ _ _ _ _ _ (ap (λ v. v.keys) w.cells-is) w.done-is (gone_leaf _ _ _ _ _ _ _ (w.leaf.ensures ∙ ap Leaf (sym w.copies.ensures.list)) c.requires.done w.in_ok-add_copies-in-Leaf.ensures)
  | in-Fork+in-Yes+in_ok-add_cells-in-Yes w ↦
      gone_as _ _ _ _ _ _ _ _ (ap (λ v. v.keys) w.cells-is) w.done-is
      (gone_by _ _ _ _ _ _ _ (λ g. subst (λ (x : Tree). Leads x c.args.here.now w.add_cells.new.cells.keys) (sym w.in-Fork.ensures.look.is) (leads_then _ _ _ _ _ w.in-Yes.ensures g)) w.in_ok-add_cells-in-Yes.ensures)
  | in-Fork+in-No+in_ok-add_cells-in-No w ↦
      gone_as _ _ _ _ _ _ _ _ (ap (λ v. v.keys) w.cells-is) w.done-is
      (gone_by _ _ _ _ _ _ _ (λ g. subst (λ (x : Tree). Leads x c.args.here.now w.add_cells-in-No.new.cells.keys) (sym w.in-Fork.ensures.look.is) (leads_else _ _ _ _ _ w.in-No.ensures g)) w.in_ok-add_cells-in-No.ensures)
  | in-Fork+in-Unset+in_ok-add_cells-in-Unset+in_ok-add_cells-in-Unset-2 w ↦
      gone_as _ _ _ _ _ _ _ _ (ap (λ v. v.keys) w.cells-is) w.done-is
      (gone_both _ _ _ _ _ _ _ _ _ _ (λ g h. subst (λ (x : Tree). Leads x c.args.here.now w.add_cells-in-Unset-2.new.cells.keys) (sym w.in-Fork.ensures.look.is) (leads_both _ _ _ _ _ g h)) w.in_ok-add_cells-in-Unset.ensures w.in_ok-add_cells-in-Unset-2.ensures)
])
