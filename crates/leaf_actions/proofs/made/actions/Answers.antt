use Rattle.std.proofs.Common.{sym, ◌∙◌}
use Rattle.leaf_actions.proofs.ActionLists.{Ready, ready, action_list, acts_as, some_apart}
use Rattle.leaf_actions.proofs.LoneCopies.{alone, only}
use Rattle.leaf_actions.proofs.Moved.{moves_ready}
use Rattle.leaf_actions.proofs.Fits.{actions_fit}
use Rattle.leaf_actions.proofs.Stayed.{all_climb, stay_ready}
use Rattle.leaf_actions.proofs.made.actions.Goals as goal

made_ready : (c : goal.After-drop-routes-then-climbs) → Ready c.args.cell.now c.args.view.now c.args.leaf.now c.in_ok-listed.field-0
made_ready c = ready c.args.view.now c.args.leaf.now _ _ _ _ _ _ c.copies-copies.ensures.list c.deref-2.ensures.value c.deref-then-climbs.ensures.value c.in_ok-routes.ensures (c.climbs.ensures.0 c.if-climbs.true) c.in_ok-listed.ensures

pub returns-then-climbs-clause-list : goal.returns-then-climbs-clause-list
returns-then-climbs-clause-list c = action_list _ _ _ _ (made_ready c)

pub returns-then-climbs-clause-acts : goal.returns-then-climbs-clause-acts
returns-then-climbs-clause-acts c = acts_as _ _ _ _ c.requires.settable c.requires.stamp (made_ready c)

pub returns-then-climbs-clause-fits : goal.returns-then-climbs-clause-fits
returns-then-climbs-clause-fits c = actions_fit _ _ _ _ c.requires.stamp c.requires.valid (made_ready c)

pub unreachable-requires : goal.unreachable-requires
unreachable-requires c = some_apart c.args.view.now _ _ _ _ _ _ c.deref-2.ensures.value c.deref-3.ensures.value c.in_ok-routes.ensures (λ h. let t = c.climbs.ensures.1 h in let f = c.if-climbs.false in cc) c.in_ok-fault.ensures c.in-None.is

lone_ready : (c : goal.In_ok-listed_alone) → Ready c.args.cell.now c.args.view.now c.args.leaf.now c.in_ok-listed_alone.field-0
lone_ready c =
    alone c.args.cell.now c.args.view.now c.copy-item.result c.args.leaf.now _ (sym c.copies-copies.ensures.list ∙ only c.copies-copies.result.now c.copy-item.result _ c.in-len1.len_at_least c.in-len1.len_below c.copy-item.is)
    c.in_ok-listed_alone.ensures

pub returns-in-len1-clause-list : goal.returns-in-len1-clause-list
returns-in-len1-clause-list c = action_list _ _ _ _ (lone_ready c)

pub returns-in-len1-clause-acts : goal.returns-in-len1-clause-acts
returns-in-len1-clause-acts c = acts_as _ _ _ _ c.requires.settable c.requires.stamp (lone_ready c)

pub returns-in-len1-clause-fits : goal.returns-in-len1-clause-fits
returns-in-len1-clause-fits c = actions_fit _ _ _ _ c.requires.stamp c.requires.valid (lone_ready c)

moved_ready : (c : goal.After-drop-routes-then-all_move) → Ready c.args.cell.now c.args.view.now c.args.leaf.now c.in_ok-moved.field-0
moved_ready c = moves_ready c.args.cell.now c.args.view.now c.args.leaf.now _ _ _ _ c.copies-copies.ensures.list c.deref.ensures.value (c.all_move.ensures.0 c.if-all_move.true) c.in_ok-routes.ensures c.in_ok-moved.ensures

pub returns-then-all_move-clause-list : goal.returns-then-all_move-clause-list
returns-then-all_move-clause-list c = action_list _ _ _ _ (moved_ready c)

pub returns-then-all_move-clause-acts : goal.returns-then-all_move-clause-acts
returns-then-all_move-clause-acts c = acts_as _ _ _ _ c.requires.settable c.requires.stamp (moved_ready c)

pub returns-then-all_move-clause-fits : goal.returns-then-all_move-clause-fits
returns-then-all_move-clause-fits c = actions_fit _ _ _ _ c.requires.stamp c.requires.valid (moved_ready c)

pub stayed-requires-clause-climb : goal.stayed-requires-clause-climb
stayed-requires-clause-climb c = all_climb c.args.view.now c.args.cell.now c.in-Some.port c.copies-copies.result.now c.in-Some.ensures

stayed_ready : (c : goal.In_ok-stayed) → Ready c.args.cell.now c.args.view.now c.args.leaf.now c.in_ok-stayed.field-0
stayed_ready c = stay_ready c.args.cell.now c.args.view.now c.in-Some.port c.args.leaf.now c.copies-copies.result.now _ c.copies-copies.ensures.list c.copies-copies.ensures.rising c.in-Some.ensures c.in_ok-stayed.ensures

pub returns-in-Some-clause-list : goal.returns-in-Some-clause-list
returns-in-Some-clause-list c = action_list _ _ _ _ (stayed_ready c)

pub returns-in-Some-clause-acts : goal.returns-in-Some-clause-acts
returns-in-Some-clause-acts c = acts_as _ _ _ _ c.requires.settable c.requires.stamp (stayed_ready c)

pub returns-in-Some-clause-fits : goal.returns-in-Some-clause-fits
returns-in-Some-clause-fits c = actions_fit _ _ _ _ c.requires.stamp c.requires.valid (stayed_ready c)
