-- The rows of a leaf, on each path that leads to it.
use Rattle.std.proofs.Common.{◌≡◌, ◌≤◌, ◌<◌, ℕ, ◌+◌, ◌-◌, refl, ap, sym, ◌∙◌, subst, arith, List, [], ◌∷◌, ◌++◌, length, map, length-append}
use Rattle.std.specs.Prelude.{Result, Ok, Err, OnOk, IfErr}
use Rattle.nk_values.specs.declared.action.Action.{Action}
use Rattle.nk_values.specs.declared.lit.Lit.{Lit}
use Rattle.nk_values.specs.declared.packet.Packet.{Packet}
use Rattle.nk_values.specs.declared.pattern.Pattern.{Pattern}
use Rattle.nk_values.specs.declared.row.Row.{Row}
use Rattle.nk_values.specs.Members.{IsIn}
use Rattle.fdd_nodes.specs.Cells.{IsValid}
use Rattle.fdd_nodes.specs.Paths.{Way}
use Rattle.fdd_nodes.specs.Trees.{Leaf}
use Rattle.leaf_actions.specs.declared.view.PortView.{PortView}
use Rattle.table_emitter.specs.declared.fault.EmitError.{EmitError}
use Rattle.table_emitter.specs.declared.kinds.FrameKinds.{FrameKinds}
use Rattle.table_emitter.specs.Entries.{PathRow, path_row, leaf_rows, AreActionsOf, AddsRows, LeadsTo, AddsFrom}
use Rattle.table_emitter.specs.Faults.{RefusesPort, BarsFrom, BarsLeaf, BarsRow}
use Rattle.table_emitter.specs.FrameKinds.{kinds_of}
use Rattle.table_emitter.specs.Patterns.{cells_of, pattern_of}
use Rattle.table_emitter.proofs.Listed.{adds_none, adds_then, adds_row, bars_right, leaf_bars, full_bars, cells_valid}

-- the rows of a path, by its cells
named : (w : Way) (cs : List (List Lit)) (k : FrameKinds) (x : Packet) (ys : List Packet) → LeadsTo x k w → ys ≡ cells_of k x → map (path_row w cs) ys ≡ leaf_rows w cs
named w cs k x ys led e = ap (map (path_row w cs)) (e ∙ ap (λ (j : FrameKinds). cells_of j x) led.kinds ∙ ap (cells_of (kinds_of w)) led.cell)

pub cell_valid : (k : FrameKinds) (x : Packet) (ys : List Packet) (y : Packet) → IsValid x → ys ≡ cells_of k x → IsIn ys y → IsValid y
cell_valid k x ys y v e h = cells_valid k.ip k.ports k.no_ip k.no_tcp k.no_udp x v y (subst (λ (l : List Packet). IsIn l y) e h)

pub no_rows : (v : PortView) (top : ℕ) (x : Packet) (k : FrameKinds) (cs : List (List Lit)) (old : List Row) → [] ≡ cells_of k x → length old ≤ 16000 → AddsFrom v top x k (Leaf cs) old old
no_rows v top x k cs old e few w led = adds_none v top (leaf_rows w cs) old (sym (named w cs k x [] led e)) few

-- the copies have no actions, or the first row is one too many
pub unmade : (v : PortView) (n : ℕ) (x : Packet) (k : FrameKinds) (cs : List (List Lit)) (y : Packet) (ys : List Packet) (z : EmitError) → y ∷ ys ≡ cells_of k x → n ≤ 16000 → BarsLeaf v x cs z → BarsFrom v n x k (Leaf cs) z
unmade v n x k cs y ys z e few b w led =
    subst (λ (es : List PathRow). RefusesPort v n es z) (named w cs k x (y ∷ ys) led e) (leaf_bars v w cs n y ys z few (subst (λ (c : Packet). BarsLeaf v c cs z) led.cell b))

pub full : (v : PortView) (n : ℕ) (x : Packet) (k : FrameKinds) (cs : List (List Lit)) (as' : List Action) (y : Packet) (ys : List Packet) (z : EmitError) → y ∷ ys ≡ cells_of k x → n ≤ 16000 → AreActionsOf v x cs as' → BarsRow v n z →
    BarsFrom v n x k (Leaf cs) z
full v n x k cs as' y ys z e few a b w led =
    subst (λ (es : List PathRow). RefusesPort v n es z) (named w cs k x (y ∷ ys) led e)
    (full_bars v w cs as' n (y ∷ ys) z (omega arith) few (subst (λ (c : Packet). AreActionsOf v c cs as') led.cell a) b)

-- one row more, on a path
abbrev made_row : ℕ → List Row → Pattern → List Action → Row
made_row top old p as' = record { pattern = p; priority = top - length old; actions = as' }

one_more : (v : PortView) (top : ℕ) (x : Packet) (k : FrameKinds) (cs : List (List Lit)) (as' : List Action) (y : Packet) (p : Pattern) (old new : List Row) (w : Way) → LeadsTo x k w → AreActionsOf v x cs as' → p ≡ pattern_of v y →
    new ≡ old ++ made_row top old p as' ∷ [] → length old < 16000 → AddsRows v top (path_row w cs y ∷ []) old new
one_more v top x k cs as' y p old new w led a ep en few =
    adds_row v top (path_row w cs y) old new (made_row top old p as') en few
    (record { pattern = ep; priority_is = refl; actions = subst (λ (c : Packet). AreActionsOf v c cs as') led.cell a })

pub few_more : {T : Type 0} (old new : List Row) (r : Row) (o : Result T EmitError) → OnOk o (new ≡ old ++ r ∷ []) → OnOk o (length old < 16000) → OnOk o (length new ≤ 16000)
few_more old new r (Ok u) e few = let l : length new ≡ length old + 1 = ap length e ∙ length-append old (r ∷ []) in omega (arith, l)
few_more old new r (Err z) e few = tt

-- the only row
pub one_rows : {T : Type 0} (v : PortView) (top : ℕ) (x : Packet) (k : FrameKinds) (cs : List (List Lit)) (as' : List Action) (y : Packet) (p : Pattern) (old new : List Row) (o : Result T EmitError) → y ∷ [] ≡ cells_of k x → AreActionsOf v x cs as' → p ≡ pattern_of v y →
    OnOk o (new ≡ old ++ made_row top old p as' ∷ []) → OnOk o (length old < 16000) → OnOk o (AddsFrom v top x k (Leaf cs) old new)
one_rows v top x k cs as' y p old new (Err z) e a ep en few = tt
one_rows v top x k cs as' y p old new (Ok u) e a ep en few = λ w led. subst (λ (es : List PathRow). AddsRows v top es old new) (named w cs k x (y ∷ []) led e) (one_more v top x k cs as' y p old new w led a ep en few)

pub one_bars : {T : Type 0} (v : PortView) (n : ℕ) (x : Packet) (k : FrameKinds) (cs : List (List Lit)) (as' : List Action) (y : Packet) (o : Result T EmitError) → y ∷ [] ≡ cells_of k x → n ≤ 16000 → AreActionsOf v x cs as' → IfErr o (BarsRow v n) →
    IfErr o (BarsFrom v n x k (Leaf cs))
one_bars v n x k cs as' y (Ok u) e few a b = tt
one_bars v n x k cs as' y (Err z) e few a b = full v n x k cs as' y [] z e few a b

-- the second of two rows
module _ (v : PortView) (top : ℕ) (x : Packet) (k : FrameKinds) (cs : List (List Lit)) (as' bs : List Action) (y z : Packet) (p : Pattern) (old mid : List Row) (e : y ∷ z ∷ [] ≡ cells_of k x)
    (a : AreActionsOf v x cs as') (same : bs ≡ as') (ep : p ≡ pattern_of v y) (em : mid ≡ old ++ made_row top old p bs ∷ []) (few : length old < 16000) where
  first_row : (w : Way) → LeadsTo x k w → AddsRows v top (path_row w cs y ∷ []) old mid
  first_row w led = one_more v top x k cs bs y p old mid w led (subst (λ (l : List Action). AreActionsOf v x cs l) (sym same) a) ep em few

  pub both_rows : {T : Type 0} (q : Pattern) (new : List Row) (o : Result T EmitError) → q ≡ pattern_of v z → OnOk o (new ≡ mid ++ made_row top mid q as' ∷ []) → OnOk o (length mid < 16000) → OnOk o (AddsFrom v top x k (Leaf cs) old new)
  both_rows q new (Err u) eq en room = tt
  both_rows q new (Ok u) eq en room = λ w led.
      subst (λ (es : List PathRow). AddsRows v top es old new) (named w cs k x (y ∷ z ∷ []) led e)
      (adds_then v top (path_row w cs y ∷ []) (path_row w cs z ∷ []) old mid new (first_row w led) (one_more v top x k cs as' z q mid new w led a eq en room))

  pub both_bars : {T : Type 0} (o : Result T EmitError) → IfErr o (BarsRow v (length mid)) → IfErr o (BarsFrom v (length old) x k (Leaf cs))
  both_bars (Ok u) b = tt
  both_bars (Err u) b = λ w led.
      let one = first_row w led in
      subst (λ (es : List PathRow). RefusesPort v (length old) es u) (named w cs k x (y ∷ z ∷ []) led e)
      (bars_right v top (path_row w cs y ∷ []) (path_row w cs z ∷ []) old mid u one
      (full_bars v w cs as' (length mid) (z ∷ []) u (omega arith) one.few (subst (λ (c : Packet). AreActionsOf v c cs as') led.cell a) b))
