-- A session that is lost, and a switch that returns, keep what holds of a switch.
use Rattle.std.proofs.Common.{◌≡◌, ℕ, Bool, true, false, ◌⊎◌, inl, inr, List, [], ◌∷◌, ◌++◌, refl, sym, ◌∙◌, ap, subst, Some}
use Rattle.nk_values.specs.declared.row.Row.{Row}
use Rattle.nk_values.specs.declared.row.FlowMod.{FlowMod}
use Rattle.nk_values.specs.Members.{IsIn}
use Rattle.openflow_wire.specs.declared.message.Message.{Message}
use Rattle.openflow_wire.specs.declared.message.Message.TheVariants as to
use Rattle.openflow_wire.specs.RowChanges.{mod_of}
use Rattle.update_coordinator.specs.BarrierState.{BarrierState}
use Rattle.update_coordinator.specs.BarrierState.TheVariants as replies
use Rattle.update_coordinator.specs.Replies.{unowed}
use Rattle.update_coordinator.specs.Controls.{Greet}
use Rattle.update_coordinator.specs.Hearing.{is_due}
use Rattle.update_laws.specs.Lines.{Changing}
use Rattle.update_laws.specs.Updates.{Setting, Phase, Base, batch, adds, works}
use Rattle.update_laws.specs.Wired.{Wire, AwaitsNone, IsGone, numbered, lost_wire, returned_wire}
use Rattle.update_laws.specs.Stages.{Stage, Away, Meeting, Asking, Telling, Sending, Waiting, Answered, Resting, IsAt, is_away, state_of, job, later, IsTodo, Left, IsTable, IsLine}
use Rattle.update_laws.proofs.Batches.{changing-same, changing-again}
use Rattle.update_laws.proofs.Wiring.{empty-left, empty-right}
use Rattle.update_laws.proofs.Stepping.{false-true}
use Rattle.update_laws.proofs.Beginning.{none-todo, rested, in-job}

-- a reply that is no longer waited for does not say that the switch was heard
pub due-unowed : (w : Bool) (a : BarrierState) → is_due w (Some (unowed a)) ≡ is_due w (Some a)
due-unowed false a = refl
due-unowed true replies.Nothing = refl
due-unowed true (replies.Reply x) = refl
due-unowed true replies.Heard = refl

free-unowed : (a : BarrierState) → AwaitsNone (unowed a)
free-unowed replies.Nothing = inl refl
free-unowed (replies.Reply x) = inl refl
free-unowed replies.Heard = inr refl

later-in : (due : Bool) (js : List FlowMod) (m : FlowMod) → IsIn (later due js) m → IsIn js m
later-in true js m x = x
later-in false js m x = absurd x

-- what is left of a batch is of the batch
own-of : (b : Bool) (base : Row → Type 0) (rows_ : List Row) (left : Row → Type 0) (rows : List Row) → Changing b base rows_ left rows → (r : Row) → left r → IsIn rows_ r
own-of true base rows_ left rows a r m = a.own r m
own-of false base rows_ left rows a r m = a.own r m

-- all of a batch that is due is to come once more; of one that is not, nothing is left
lost-table : (c : Setting) (swept : ℕ) (ph : Phase) (l : Wire) (i : IsLine c swept ph false l) (b : Bool) → i.due ≡ b → IsTable c swept ph false (Left c ph l.switch.sw b Away i.held) [] l.switch.sw l.switch.table.rows
lost-table c swept ph l i true d =
    let sw = l.switch.sw in
    record {
      refused = [];
      changing = changing-again (adds c ph) (Base c swept ph sw) (batch c ph sw) (λ r. Left c ph sw i.due i.stage i.held r ⊎ IsIn i.table.refused r) (λ r. Left c ph sw true Away i.held r ⊎ IsIn [] r) l.switch.table.rows
          (λ r m. let k = own-of (adds c ph) (Base c swept ph sw) (batch c ph sw) (λ r. Left c ph sw i.due i.stage i.held r ⊎ IsIn i.table.refused r) l.switch.table.rows i.table.changing r m in inl (k, inl (in-job c ph sw r k)))
          (λ r m. elim m [ inl x ↦ x.0 | inr n ↦ absurd n ]) i.table.changing;
      excuse = inl refl;
    }
lost-table c swept ph l i false d =
    let sw = l.switch.sw in
    let t = rested c swept ph l i d in
    record {
      refused = [];
      changing = changing-same (adds c ph) (Base c swept ph sw) (batch c ph sw) (λ r. ⊥) (λ r. Left c ph sw false Away i.held r ⊎ IsIn [] r) l.switch.table.rows
          (λ r m. absurd m) (λ r m. elim m [ inl x ↦ none-todo (job c ph sw) Away i.held (mod_of (adds c ph) r) tt t.no_mods x.1 | inr n ↦ n ]) t.rows;
      excuse = inl refl;
    }

pub lose-line : (c : Setting) (swept : ℕ) (ph : Phase) (l : Wire) → IsLine c swept ph false l → IsLine c swept ph false (lost_wire l)
lose-line c swept ph l i = record {
  stage = Away;
  due = i.due;
  held = i.held;
  errors = [];
  due_is = i.due_is ∙ sym (due-unowed (works ph) l.reply);
  suits = tt;
  at = record { unsent = refl; there = refl; awaited = refl; back = refl; free = free-unowed l.reply };
  away = refl;
  pending = i.pending;
  voice = record { before = []; said = []; behind = []; what = refl; is = refl; parts = refl; last = tt };
  full = λ m x. absurd x;
  mine = λ m x. elim x [ inl y ↦ later-in i.due (job c ph l.switch.sw) m y | inr y ↦ i.mine m (inr y) ];
  clear = λ d. record { no_mods = (i.clear d).no_mods; no_errors = refl };
  table = lost-table c swept ph l i i.due refl;
  capacity = i.capacity;
  current = i.current;
  standing = record { datapath = i.standing.datapath; state = inr refl };
}

-- only a switch that is away stands so
away-is : (st : Stage) → is_away st ≡ true → st ≡ Away
away-is Away e = refl
away-is (Meeting n left) e = false-true e
away-is (Asking n left) e = false-true e
away-is Telling e = false-true e
away-is (Sending n left) e = false-true e
away-is (Waiting x) e = false-true e
away-is (Answered x) e = false-true e
away-is Resting e = false-true e

-- nothing goes to it or comes from it, and neither side waits for an answer
pub away-line : (c : Setting) (swept : ℕ) (ph : Phase) (h : Bool) (l : Wire) → l.peer.away ≡ true → IsLine c swept ph h l → IsGone l
away-line c swept ph h l w i = subst (λ (st : Stage). IsAt st l) (away-is i.stage (sym i.away ∙ w)) i.at

pub return-line : (c : Setting) (swept : ℕ) (ph : Phase) (xid : ℕ) (l : Wire) → l.peer.away ≡ true → IsLine c swept ph false l → IsLine c swept ph false (returned_wire xid l)
return-line c swept ph xid l w i =
    let sw = l.switch.sw in
    let gone : i.stage ≡ Away = away-is i.stage (sym i.away ∙ w) in
    let a = away-line c swept ph false l w i in
    let silent : i.voice.before ++ (i.voice.said ++ i.voice.behind) ≡ [] = sym i.voice.is ∙ a.back in
    let none : i.errors ≡ [] = i.voice.parts ∙ (λ j. empty-left i.voice.before (i.voice.said ++ i.voice.behind) silent j ++ empty-right i.voice.said i.voice.behind (empty-right i.voice.before (i.voice.said ++ i.voice.behind) silent) j) in
    record {
      stage = Meeting l.peer.sent (Greet ∷ []);
      due = i.due;
      held = i.held;
      errors = [];
      due_is = i.due_is;
      suits = tt;
      at = record { script = inl refl; messages = (λ j. a.there j ++ numbered l.peer.sent (Greet ∷ [])); count = refl; awaited = a.awaited; free = a.free };
      away = refl;
      pending = i.pending;
      voice = record { before = []; said = to.Hello 1 xid ∷ []; behind = []; what = (xid, refl); is = refl; parts = refl; last = tt };
      full = λ m x. absurd x;
      mine = λ m x. i.mine m (subst (λ (st : Stage). IsTodo (job c ph sw) i.due st i.held m) (sym gone) x);
      clear = λ d. record { no_mods = (i.clear d).no_mods; no_errors = refl };
      table = subst (λ (es : List Message). IsTable c swept ph false (Left c ph sw i.due Away i.held) es sw l.switch.table.rows) none (subst (λ (st : Stage). IsTable c swept ph false (Left c ph sw i.due st i.held) i.errors sw l.switch.table.rows) gone i.table);
      capacity = i.capacity;
      current = i.current;
      standing = record { datapath = i.standing.datapath; state = elim i.standing.state [ inl q ↦ inl q | inr q ↦ inr (q ∙ ap (λ (st : Stage). state_of st) gone) ] };
    }
