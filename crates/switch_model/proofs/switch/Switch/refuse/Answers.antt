use Rattle.std.proofs.Common.{◌≡◌, ◌∙◌, ◌<◌, suc, length, Some, refl, sym, ap, subst, slice_get, arith}
use Rattle.std.proofs.lemmas.Option.{slice_get-get_or, slice_get_within}
use Rattle.std.proofs.lemmas.List.Elements.{All-append, All-take, All-drop}
use Rattle.nk_values.specs.Changes.{IsFull}
use Rattle.openflow_wire.specs.Writing.{Fits}
use Rattle.switch_model.specs.declared.pending.PendingMod.{PendingMod}
use Rattle.switch_model.specs.Switches.{AllFit, SwitchValue, message_of}
use Rattle.switch_model.proofs.switch.Switch.refuse.Goals as goal

some-is : {X : Type 0} (x y : X) → Some x ≡ Some y → x ≡ y
some-is x y e = cc

pub returns-clause-ok : goal.returns-clause-ok
returns-clause-ok c =
    let refused = c.requires.change in
    let found : slice_get c.self.inside.pending.items c.args.at ≡ Some refused = subst (λ (s : SwitchValue). slice_get s.pending c.args.at ≡ Some refused) (sym c.self.view_is) c.requires.there in
    let full : IsFull c.self.inside.table.capacity c.self.inside.table.rows refused.change = subst (λ (s : SwitchValue). IsFull s.table.capacity s.table.rows refused.change) (sym c.self.view_is) c.requires.full in
    let within = slice_get_within c.self.inside.pending.items c.args.at refused found in
    let there : slice_get c.self.inside.pending.items c.args.at ≡ Some c.index.result.now = slice_get-get_or c.self.inside.pending.items c.args.at c.index.result.now within ∙ ap (λ (p : PendingMod). Some p) (sym c.index.ensures) in
    let same : refused ≡ c.index.result.now = some-is refused c.index.result.now (sym found ∙ there) in
    rw (← c.self.view_is) (record {
      change = c.index.result.now;
      there = there;
      rows = c.self.inside.table.rows;
      outcome = (subst (λ (p : PendingMod). IsFull c.self.inside.table.capacity c.self.inside.table.rows p.change) same full, refl, c.in_ok-answer.ensures.error);
      now = λ i. record { sw = c.self.inside.sw; table = c.self.inside.table; pending = c.take_out.ensures i; awaited = c.self.inside.awaited };
    })

pub index-requires : goal.index-requires
index-requires c =
    let refused = c.requires.change in
    let found : slice_get c.self.inside.pending.items c.args.at ≡ Some refused = subst (λ (s : SwitchValue). slice_get s.pending c.args.at ≡ Some refused) (sym c.self.view_is) c.requires.there in
    let within = slice_get_within c.self.inside.pending.items c.args.at refused found in
    omega (arith, within, c.self.inside.pending.ok)

pub invariant_of-self : goal.invariant_of-self
invariant_of-self c =
    let fits = λ (p : PendingMod). Fits (message_of p) in
    subst AllFit (sym c.take_out.ensures) (All-append fits _ _ (All-take fits c.args.at _ c.self.invariant) (All-drop fits (suc c.args.at) _ c.self.invariant))
