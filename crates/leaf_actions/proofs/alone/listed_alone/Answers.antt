use Rattle.std.proofs.Common.{◌≡◌, ◌++◌, ◌∙◌, [], ◌∷◌, List, Option, Some, true, ap, sym, subst}
use Rattle.std.specs.Prelude.{IfOk}
use Rattle.nk_values.specs.declared.action.Action.{Action}
use Rattle.nk_values.specs.declared.action.Action.TheVariants.{Output}
use Rattle.nk_values.specs.declared.lit.Lit.{Lit}
use Rattle.nk_values.specs.declared.packet.Packet.{Packet}
use Rattle.fdd_nodes.specs.Cells.{IsValid}
use Rattle.fdd_nodes.specs.Trees.{apply}
use Rattle.leaf_actions.specs.Chains.{keeps}
use Rattle.leaf_actions.specs.declared.view.SwitchPort.{SwitchPort}
use Rattle.leaf_actions.specs.Listing.{listed, port_number}
use Rattle.leaf_actions.specs.Moves.{Moves}
use Rattle.leaf_actions.specs.Routes.{out_of, route_by}
use Rattle.leaf_actions.specs.Views.{port_in}
use Rattle.leaf_actions.proofs.LoneCopies.{kept}
use Rattle.leaf_actions.proofs.Moved.{lone_move}
use Rattle.leaf_actions.proofs.Fixed.{valid_apply}
use Rattle.leaf_actions.proofs.alone.listed_alone.Goals as goal

pub push_changes-requires-clause-kept : goal.push_changes-requires-clause-kept
push_changes-requires-clause-kept c = subst (λ (y : Packet). keeps c.generic-known.result.now y ≡ true) (sym c.apply.ensures) (kept c.args.copy.now c.generic-known.result.now)

pub push_changes-requires-clause-valid : goal.push_changes-requires-clause-valid
push_changes-requires-clause-valid c =
    subst (λ (y : Packet). IsValid y) (sym c.apply.ensures)
    (subst (λ (x : Packet). IsValid (apply c.args.copy.now x)) (sym c.generic-known.ensures) (valid_apply c.args.copy.now c.args.cell.now c.requires))

pub returns-in-Some-tag_change : goal.returns-in-Some-tag_change
returns-in-Some-tag_change c =
    let v = c.args.view.now in
    let x = c.args.cell.now in
    let ls = c.args.copy.now in
    let p = c.in-Some.port in
    let here : port_in v.ports (out_of v ls) ≡ Some p = cc in
    let moves : Moves ls = subst (λ (ks : List Lit). Moves ks) c.lits.ensures.list (c.moves.ensures.0 c.if-moves.true) in
    let same =
    ap (λ n. c.in-Some-tag_change.change ∷ Output n ∷ []) c.port_number-output.ensures ∙
    ap (λ (l : List Action). l ++ Output (port_number v p.pt) ∷ []) c.in-Some-tag_change.ensures.change ∙
    sym (lone_move v x ls p moves) ∙ ap (λ (o : Option SwitchPort). listed v x x v.kind (route_by x ls o ++ [])) (sym here) in
    subst (λ (l : List Action). IfOk c.pair.result (λ as'. as' ≡ l)) same c.pair.ensures

pub returns-in-None : goal.returns-in-None
returns-in-None c =
    let v = c.args.view.now in
    let x = c.args.cell.now in
    let ls = c.args.copy.now in
    let p = c.in-Some.port in
    let here : port_in v.ports (out_of v ls) ≡ Some p = cc in
    let moves : Moves ls = subst (λ (ks : List Lit). Moves ks) c.lits.ensures.list (c.moves.ensures.0 c.if-moves.true) in
    c.one.ensures ∙ ap (λ n. Output n ∷ []) c.port_number-output.ensures ∙
    ap (λ (l : List Action). l ++ Output (port_number v p.pt) ∷ []) c.in-None.ensures.none ∙
    sym (lone_move v x ls p moves) ∙ ap (λ (o : Option SwitchPort). listed v x x v.kind (route_by x ls o ++ [])) (sym here)
