use Rattle.std.proofs.Common.{rules, inl, inr, List, sym, subst}
use Rattle.std.proofs.lemmas.Bool.{false≢true}
use Rattle.std.proofs.lemmas.List.{take_all}
use Rattle.nk_values.specs.declared.field.Field.{Field}
use Rattle.nk_values.specs.Members.{IsIn}
use Rattle.nk_values.proofs.MemberLaws.{in-either}
use Rattle.fdd_differ.specs.Frames.{Lacks}
use Rattle.fdd_store.specs.Digests.{SetsField}
use Rattle.fdd_store.specs.Stores.{tree_at}
use Rattle.fdd_split.proofs.FieldLaws.{every_field, fields, next_taken}
use Rattle.fdd_compile.proofs.guarded.lacking.sets_some_lacking.Goals as goal

pub loop-field-preserved : goal.loop-field-preserved
loop-field-preserved c = λ f i l s. elim (in-either _ _ f (subst (λ (fs : List Field). IsIn fs f) (next_taken fields _ _ c.loop-field-test.true (search rules)) i)) [
  | inl w ↦ c.loop-field.invariant f w l s
  | inr w ↦ elim w [
    | inl e ↦ false≢true (c.if-sets_if_lacking.ensures (subst (Lacks c.args.frame) (sym e) l) (subst (SetsField (tree_at c.args.store.now c.args.a)) (sym e) s))
    | inr n ↦ absurd n
  ]
]

pub returns : goal.returns
returns c = λ f l s. absurd (c.loop-field.invariant f (subst (λ (fs : List Field). IsIn fs f) (sym (take_all c.loop-field.field-index fields c.loop-field-test.false)) (every_field f)) l s)
