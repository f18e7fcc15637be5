-- Faults of parts are faults of the whole.
use Rattle.std.proofs.Common.{◌≡◌, ◌⊎◌, inl, inr, ap, sym, ◌∙◌, subst}
use Rattle.nk_values.specs.declared.field.Field.{Field}
use Rattle.nk_values.specs.declared.packet.Packet.{Packet}
use Rattle.nk_values.specs.declared.lit.Lit.{Lit}
use Rattle.nk_values.specs.Held.{Holds, put}
use Rattle.nk_values.specs.Lits.{lit_field, lit_value}
use Rattle.nk_values.specs.Packets.{get}
use Rattle.nk_values.proofs.LitLaws.{same_lit}
use Rattle.nk_values.proofs.PacketLaws.{get-with_same, get-with_other, field_cases}
use Rattle.fdd_nodes.specs.Cells.{Agrees, IsUnset, IsFresh, fill}
use Rattle.fdd_nodes.specs.Trees.{Tree, Tests}
use Rattle.fdd_nodes.proofs.CellLaws.{tells_open, fill_fixed, fill_open}
use Rattle.fdd_star.specs.declared.fault.StarError.{StarError}
use Rattle.fdd_star.specs.declared.fault.StarError.TheVariants.{Fault, Memory}
use Rattle.fdd_star.specs.Faults.{IsErrorIn}
use Rattle.fdd_star.specs.Narrow.{IsNarrowed}
use Rattle.fdd_star.specs.Reaches.{IsNamedBy}
use Rattle.fdd_star.specs.Stars.{IsDeep, IsErrorOf}
use Rattle.fdd_star.proofs.NarrowLaws.{deep_narrowed}
use Rattle.fdd_star.proofs.FieldLaws.{agrees_out}

pub told_of : (p : Tree) (c g : Packet) (e : StarError) → IsErrorIn p c g e → IsErrorOf p e
told_of p c g (Fault f) h = h.deep
told_of p c g Memory h = tt

-- what a packet with a literal put into it holds
pub put_holds : (l m : Lit) (g : Packet) → Holds (put l g) m → (l ≡ m) ⊎ Holds g m
put_holds l m g h = elim (field_cases (lit_field l) (lit_field m)) [
  | inl e ↦ inl (same_lit l m e (sym (get-with_same g (lit_field l) (lit_value l)) ∙ ap (get (put l g)) e ∙ h))
  | inr d ↦ inr (sym (get-with_other g (lit_field l) (lit_field m) (lit_value l) d) ∙ h)
]

pub open_besides : (l : Lit) (c : Packet) (x : Field) → ¬ (lit_field l ≡ x) → IsUnset c x → IsUnset (put l c) x
open_besides l c x d o = get-with_other c (lit_field l) x (lit_value l) d ∙ o

-- the fault of a cell that is filled
pub fault_filled : (p : Tree) (c g pk out : Packet) → pk ≡ fill c g → IsDeep p pk out → IsErrorIn p c g (Fault (record { packet = pk; output = out }))
fault_filled p c g pk out e d = record {
  deep = d;
  agrees = subst (Agrees c) (sym e) (record { at = fill_fixed c g });
  kept = λ x o _. ap (λ z. get z x) e ∙ fill_open c g x o;
  only = λ m h. elim (tells_open c (lit_field m)) [
    | inl y ↦ inr (inl (sym (fill_open c g (lit_field m) y.1) ∙ ap (λ z. get z (lit_field m)) (sym e) ∙ h))
    | inr n ↦ inl (sym (fill_fixed c g (lit_field m) n.1) ∙ ap (λ z. get z (lit_field m)) (sym e) ∙ h)
  ];
}

-- that of a cell within another one
pub fault_within : (p : Tree) (l : Lit) (c g : Packet) (e : StarError) → Tests p l → IsUnset c (lit_field l) → IsErrorIn p (put l c) g e → IsErrorIn p c g e
fault_within p l c g Memory t o h = tt
fault_within p l c g (Fault f) t o h = record {
  deep = h.deep;
  agrees = agrees_out c f.packet l o h.agrees;
  kept = λ x o' out. h.kept x (open_besides l c x (out l t) o') out;
  only = λ m k. elim (h.only m k) [
    | inl w ↦ elim (put_holds l m c w) [ inl s ↦ inr (inr (subst (Tests p) s t)) | inr u ↦ inl u ]
    | inr w ↦ inr w
  ];
}

-- that of what makes the iterations there
pub fault_narrowed : (p b : Tree) (c g : Packet) (e : StarError) → IsNarrowed p c b → IsErrorIn b c g e → IsErrorIn p c g e
fault_narrowed p b c g Memory n h = tt
fault_narrowed p b c g (Fault f) n h = record {
  deep = deep_narrowed p b c f.packet f.output n h.agrees h.deep;
  agrees = h.agrees;
  kept = λ x o out. h.kept x o (λ m k. out m (n.names.tests m k));
  only = λ m k. elim (h.only m k) [ inl w ↦ inl w | inr w ↦ inr (elim w [ inl u ↦ inl u | inr u ↦ inr (n.names.tests m u) ]) ];
}

pub fresh_within : (p b : Tree) (g : Packet) → IsNamedBy p b → IsFresh g p → IsFresh g b
fresh_within p b g n h = record { tested = λ m k. h.tested m (n.tests m k); assigned = λ m k. h.assigned m (n.assigns m k) }
