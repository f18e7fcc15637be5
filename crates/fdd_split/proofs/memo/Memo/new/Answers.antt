use Rattle.std.proofs.Common.{Bool, List, Option, None, Some, ◌≡◌, sym, ap, ◌∙◌, subst, slice_get}
use Rattle.fdd_split.specs.Memos.{EachIs, IsThreatEntry, IsPartEntry}
use Rattle.fdd_split.proofs.memo.Memo.new.Goals as goal

pub returns : goal.returns
returns c = λ k. record {
  plain = λ a b e. absurd (let w : None ≡ Some (Some b) = sym (ap (λ (xs : List (Option Bool)). slice_get xs a) c.new.ensures.items) ∙ e in cc);
  threats = subst (EachIs (IsThreatEntry k)) (sym c.new-2.ensures.empty) tt;
  parts = subst (EachIs (IsPartEntry k)) (sym c.new-3.ensures.empty) tt;
  nodes = c.new-4.ensures k;
}
