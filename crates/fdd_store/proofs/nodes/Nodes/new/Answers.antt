use Rattle.std.proofs.Common.{◌≡◌, sym, ap, ◌∙◌, Some, None, slice_get}
use Rattle.fdd_store.proofs.nodes.Nodes.new.Goals as goal

pub returns : goal.returns
returns c = λ k a r e. absurd (let w : None ≡ Some (Some r) = sym (ap (λ xs. slice_get xs a) c.new.ensures.items) ∙ e in cc)
