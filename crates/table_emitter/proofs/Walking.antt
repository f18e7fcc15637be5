-- The walk over the paths of a part, on each path that leads to it.
use Rattle.std.proofs.Common.{◌≡◌, ◌≤◌, ℕ, ◌-◌, refl, ap, sym, ◌∙◌, subst, arith, List, [], ◌++◌, length, true, append_assoc}
use Rattle.std.specs.Prelude.{Result, Ok, Err, OnOk, IfErr}
use Rattle.nk_values.specs.declared.lit.Lit.{Lit}
use Rattle.nk_values.specs.declared.packet.Packet.{Packet}
use Rattle.nk_values.specs.declared.row.Row.{Row}
use Rattle.nk_values.specs.Held.{put}
use Rattle.fdd_nodes.specs.Cells.{whole_cell}
use Rattle.fdd_nodes.specs.Paths.{Way, no_tests, with_true, with_false}
use Rattle.fdd_nodes.specs.Trees.{Tree, Node}
use Rattle.fdd_nodes.proofs.AfterLaws.{apply-push}
use Rattle.leaf_actions.specs.declared.view.PortView.{PortView}
use Rattle.table_emitter.specs.declared.fault.EmitError.{EmitError}
use Rattle.table_emitter.specs.declared.kinds.FrameKinds.{FrameKinds}
use Rattle.table_emitter.specs.Entries.{PathRow, path_rows, AreRowsOf, AreRows, AddsRows, LeadsTo, AddsFrom}
use Rattle.table_emitter.specs.Faults.{RefusesPort, BarsFrom}
use Rattle.table_emitter.specs.FrameKinds.{kinds_of, after_true, after_false, is_void}
use Rattle.table_emitter.proofs.KindLaws.{kinds_true, kinds_false, no_entries}
use Rattle.table_emitter.proofs.Listed.{adds_none, added_length, adds_then, bars_left, bars_right}

-- one test more
leads_true : (x : Packet) (k : FrameKinds) (w : Way) (l : Lit) → LeadsTo x k w → LeadsTo (put l x) (after_true k l) (with_true w l)
leads_true x k w l h = record {
  cell = ap (put l) h.cell ∙ sym (apply-push w.trues l whole_cell);
  kinds = ap (λ (j : FrameKinds). after_true j l) h.kinds ∙ sym (kinds_true w l);
}

leads_false : (x : Packet) (k : FrameKinds) (w : Way) (l : Lit) → LeadsTo x k w → LeadsTo x (after_false k l) (with_false w l)
leads_false x k w l h = record {
  cell = h.cell;
  kinds = ap (λ (j : FrameKinds). after_false j l) h.kinds ∙ sym (kinds_false w l);
}

-- the same under the names that the code gives
adds_at : (v : PortView) (top : ℕ) (x y : Packet) (k j : FrameKinds) (d e : Tree) (old new : List Row) → x ≡ y → k ≡ j → d ≡ e → AddsFrom v top x k d old new → AddsFrom v top y j e old new
adds_at v top x y k j d e old new ex ek ed a =
    subst (λ (z : Packet). AddsFrom v top z j e old new) ex (subst (λ (i : FrameKinds). AddsFrom v top x i e old new) ek (subst (λ (u : Tree). AddsFrom v top x k u old new) ed a))

bars_at : (v : PortView) (n : ℕ) (x y : Packet) (k j : FrameKinds) (d e : Tree) (z : EmitError) → x ≡ y → k ≡ j → d ≡ e → BarsFrom v n x k d z → BarsFrom v n y j e z
bars_at v n x y k j d e z ex ek ed b =
    subst (λ (a : Packet). BarsFrom v n a j e z) ex (subst (λ (i : FrameKinds). BarsFrom v n x i e z) ek (subst (λ (u : Tree). BarsFrom v n x k u z) ed b))

-- if no packet goes there, there are no rows
void_adds : (v : PortView) (top : ℕ) (x : Packet) (k : FrameKinds) (d : Tree) (old : List Row) → is_void k ≡ true → length old ≤ 16000 → AddsFrom v top x k d old old
void_adds v top x k d old e few w h = adds_none v top (path_rows w d) old (no_entries w d (sym (ap is_void h.kinds) ∙ e)) few

-- of the rows on one path, those that were added, and the path that goes on
pub record IsAfter (v : PortView) (top : ℕ) (w : Way) (x : Packet) (k : FrameKinds) (d e : Tree) (old new : List Row) : Type 0 where
  pub way : Way
  pub leads : LeadsTo x k way
  pub done : List PathRow
  pub all : path_rows w d ≡ done ++ path_rows way e
  pub rows : AddsRows v top done old new

-- the walk of the part d stands at the part e
pub record IsWalked (v : PortView) (top : ℕ) (x : Packet) (j k : FrameKinds) (d e : Tree) (old new : List Row) : Type 0 where
  pub few : length new ≤ 16000
  pub each : (w : Way) → LeadsTo x j w → IsAfter v top w x k d e old new

pub starts : (v : PortView) (top : ℕ) (x : Packet) (k : FrameKinds) (d : Tree) (old : List Row) → length old ≤ 16000 → IsWalked v top x k k d d old old
starts v top x k d old few = record {
  few = few;
  each = λ w h. record { way = w; leads = h; done = []; all = refl; rows = adds_none v top [] old refl few };
}

-- both branches of a test
beyond : (v : PortView) (top : ℕ) (x : Packet) (j k : FrameKinds) (d t e : Tree) (l : Lit) (old mid new : List Row) → IsWalked v top x j k d (Node l t e) old mid → length new ≤ 16000 → AddsFrom v top (put l x) (after_true k l) t mid new →
    IsWalked v top x j (after_false k l) d e old new
beyond v top x j k d t e l old mid new h few a = record {
  few = few;
  each = λ w led.
      let at = h.each w led in
      let within = path_rows (with_true at.way l) t in
      record {
        way = with_false at.way l;
        leads = leads_false x k at.way l at.leads;
        done = at.done ++ within;
        all = at.all ∙ sym (append_assoc at.done within (path_rows (with_false at.way l) e));
        rows = adds_then v top at.done within old mid new at.rows (a (with_true at.way l) (leads_true x k at.way l at.leads));
      };
}

pub walk_on : (v : PortView) (top : ℕ) (x y : Packet) (j k i m : FrameKinds) (d a t' t e' e : Tree) (l : Lit) (old mid new : List Row) → a ≡ Node l t e → t' ≡ t → e' ≡ e → y ≡ put l x → i ≡ after_true k l → m ≡ after_false k l →
    IsWalked v top x j k d a old mid → length new ≤ 16000 → AddsFrom v top y i t' mid new → IsWalked v top x j m d e' old new
walk_on v top x y j k i m d a t' t e' e l old mid new ea et ee ey ei em h few adds =
    let b = beyond v top x j k d t e l old mid new (subst (λ (u : Tree). IsWalked v top x j k d u old mid) ea h) few (adds_at v top y (put l x) i (after_true k l) t' t mid new ey ei et adds) in
    subst (λ (n : FrameKinds). IsWalked v top x j n d e' old new) (sym em) (subst (λ (u : Tree). IsWalked v top x j (after_false k l) d u old new) (sym ee) b)

-- the same where the branch in which the test holds is left out
pub walk_over : (v : PortView) (top : ℕ) (x : Packet) (j k m : FrameKinds) (d a t e' e : Tree) (l : Lit) (old mid : List Row) → a ≡ Node l t e → e' ≡ e → is_void (after_true k l) ≡ true → m ≡ after_false k l →
    IsWalked v top x j k d a old mid → IsWalked v top x j m d e' old mid
walk_over v top x j k m d a t e' e l old mid ea ee void em h =
    walk_on v top x (put l x) j k (after_true k l) m d a t t e' e l old mid mid ea refl ee refl refl em h h.few (void_adds v top (put l x) (after_true k l) t mid void h.few)

-- a fault in that branch
pub true_bars : (v : PortView) (top : ℕ) (x y : Packet) (j k i : FrameKinds) (d a t' t e : Tree) (l : Lit) (old mid : List Row) (z : EmitError) → a ≡ Node l t e → t' ≡ t → y ≡ put l x → i ≡ after_true k l →
    IsWalked v top x j k d a old mid → BarsFrom v (length mid) y i t' z → BarsFrom v (length old) x j d z
true_bars v top x y j k i d a t' t e l old mid z ea et ey ei h bars w led =
    let at = (subst (λ (u : Tree). IsWalked v top x j k d u old mid) ea h).each w led in
    let b = bars_at v (length mid) y (put l x) i (after_true k l) t' t z ey ei et bars (with_true at.way l) (leads_true x k at.way l at.leads) in
    let both = path_rows (with_true at.way l) t ++ path_rows (with_false at.way l) e in
    subst (λ (es : List PathRow). RefusesPort v (length old) es z) (sym at.all)
    (bars_right v top at.done both old mid z at.rows (bars_left v (length mid) (path_rows (with_true at.way l) t) (path_rows (with_false at.way l) e) z b))

-- the rows of the part that is left
rows_on : (v : PortView) (top : ℕ) (x : Packet) (j k : FrameKinds) (d a e : Tree) (old mid new : List Row) → a ≡ e → IsWalked v top x j k d a old mid → AddsFrom v top x k e mid new → AddsFrom v top x j d old new
rows_on v top x j k d a e old mid new ea h adds w led =
    let at = (subst (λ (u : Tree). IsWalked v top x j k d u old mid) ea h).each w led in
    subst (λ (es : List PathRow). AddsRows v top es old new) (sym at.all) (adds_then v top at.done (path_rows at.way e) old mid new at.rows (adds at.way at.leads))

bars_on : (v : PortView) (top : ℕ) (x : Packet) (j k : FrameKinds) (d a e : Tree) (old mid : List Row) (z : EmitError) → a ≡ e → IsWalked v top x j k d a old mid → BarsFrom v (length mid) x k e z → BarsFrom v (length old) x j d z
bars_on v top x j k d a e old mid z ea h bars w led =
    let at = (subst (λ (u : Tree). IsWalked v top x j k d u old mid) ea h).each w led in
    subst (λ (es : List PathRow). RefusesPort v (length old) es z) (sym at.all) (bars_right v top at.done (path_rows at.way e) old mid z at.rows (bars at.way at.leads))

pub last_rows : {T : Type 0} (v : PortView) (top : ℕ) (x : Packet) (j k : FrameKinds) (d a e : Tree) (old mid new : List Row) (o : Result T EmitError) → a ≡ e → IsWalked v top x j k d a old mid → OnOk o (AddsFrom v top x k e mid new) →
    OnOk o (AddsFrom v top x j d old new)
last_rows v top x j k d a e old mid new (Ok u) ea h adds = rows_on v top x j k d a e old mid new ea h adds
last_rows v top x j k d a e old mid new (Err z) ea h adds = tt

pub last_bars : {T : Type 0} (v : PortView) (top : ℕ) (x : Packet) (j k : FrameKinds) (d a e : Tree) (old mid : List Row) (o : Result T EmitError) → a ≡ e → IsWalked v top x j k d a old mid → IfErr o (BarsFrom v (length mid) x k e) →
    IfErr o (BarsFrom v (length old) x j d)
last_bars v top x j k d a e old mid (Ok u) ea h bars = tt
last_bars v top x j k d a e old mid (Err z) ea h bars = bars_on v top x j k d a e old mid z ea h bars

-- nothing leads to the root of a part but the path without tests
pub at_root : (x : Packet) (k : FrameKinds) → x ≡ whole_cell → k ≡ kinds_of no_tests → LeadsTo x k no_tests
at_root x k ex ek = record { cell = ex; kinds = ek }

-- the rows of a port, from its walk
pub port_rows : (v : PortView) (top : ℕ) (d : Tree) (x : Packet) (k : FrameKinds) (old new : List Row) → x ≡ whole_cell → k ≡ kinds_of no_tests → old ≡ [] → AddsFrom v top x k d old new → AreRows v top (path_rows no_tests d) new
port_rows v top d x k old new ex ek eo a =
    let b : AddsRows v top (path_rows no_tests d) [] new = subst (λ (rs : List Row). AddsRows v top (path_rows no_tests d) rs new) eo (a no_tests (at_root x k ex ek)) in
    record {
      rows = subst (λ (rs : List Row). AreRowsOf v top (path_rows no_tests d) rs) (sym b.all) (let e : top - 0 ≡ top = omega arith in subst (λ n. AreRowsOf v n (path_rows no_tests d) b.more) e b.rows);
      few = let l = added_length v top (path_rows no_tests d) [] new b in omega (arith, l, b.few);
    }

pub port_bars : (v : PortView) (d : Tree) (x : Packet) (k : FrameKinds) (old : List Row) (z : EmitError) → x ≡ whole_cell → k ≡ kinds_of no_tests → old ≡ [] → BarsFrom v (length old) x k d z → RefusesPort v 0 (path_rows no_tests d) z
port_bars v d x k old z ex ek eo b = subst (λ (rs : List Row). RefusesPort v (length rs) (path_rows no_tests d) z) eo (b no_tests (at_root x k ex ek))
