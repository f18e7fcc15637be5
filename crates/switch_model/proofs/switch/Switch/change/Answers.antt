use Rattle.std.proofs.Common.{List, ℕ, ◌≡◌, ◌∙◌, ◌<◌, ◌++◌, suc, length, Some, sym, ap, subst, slice_set, arith}
use Rattle.std.specs.List.{remove}
use Rattle.std.proofs.lemmas.List.{take-set, drop-set-lt}
use Rattle.std.proofs.lemmas.List.Elements.{All-append, All-take, All-drop}
use Rattle.std.proofs.lemmas.Option.{slice_get-get_or}
use Rattle.openflow_wire.specs.Writing.{Fits}
use Rattle.switch_model.specs.declared.pending.PendingMod.{PendingMod}
use Rattle.switch_model.specs.Switches.{AllFit, SwitchValue, message_of}
use Rattle.switch_model.proofs.switch.Switch.change.Goals as goal

-- What stands at a place does not matter once it is gone.
remove-set : {X : Type 0} (xs : List X) (i : ℕ) (y : X) → remove (slice_set xs i y) i ≡ remove xs i
remove-set xs i y = λ j. take-set xs i y j ++ drop-set-lt (suc i) xs i y (omega arith) j

pub returns-clause-ok : goal.returns-clause-ok
returns-clause-ok c =
    let within : c.args.place < length c.self.inside.pending.items = omega (arith, c.requires, ap (λ (s : SwitchValue). length s.pending) c.self.view_is) in
    let left = c.take_out.ensures ∙ remove-set c.self.inside.pending.items c.args.place c.change_by.new.pending in
    rw (← c.self.view_is) (record {
      change = c.index_mut.result.now;
      there = slice_get-get_or c.self.inside.pending.items c.args.place c.index_mut.result.now within ∙ ap (λ (p : PendingMod). Some p) (sym c.index_mut.ensures.value);
      rows = c.change_by.new.table.rows;
      outcome = c.in_ok-change_by.ensures.ok;
      now = λ i. record {
        sw = c.self.inside.sw;
        table = record { capacity = c.in_ok-change_by.ensures.capacity i; rows = c.change_by.new.table.rows };
        pending = left i;
        awaited = c.self.inside.awaited;
      };
    })

pub invariant_of-self-2 : goal.invariant_of-self-2
invariant_of-self-2 c =
    let fits = λ (p : PendingMod). Fits (message_of p) in
    let left = c.take_out.ensures ∙ remove-set c.self.inside.pending.items c.args.place c.change_by.new.pending in
    subst AllFit (sym left) (All-append fits _ _ (All-take fits c.args.place _ c.self.invariant) (All-drop fits (suc c.args.place) _ c.self.invariant))
