use Rattle.std.proofs.Common.{sym, ◌∙◌, subst, List, []}
use Rattle.std.proofs.lemmas.Iterator.Consumers.{YieldsList-end}
use Rattle.std.proofs.lemmas.Iterator.Adapters.{YieldsList-from_vec}
use Rattle.std.proofs.lemmas.List.{map-id}
use Rattle.nk_values.specs.Members.{SameMembers}
use Rattle.nk_values.specs.declared.lit.Lit.{Lit}
use Rattle.fdd_nodes.proofs.GatherLaws.{same_itself, same_put}
use Rattle.fdd_nodes.proofs.leaf.put_all.Goals as goal

pub loop-copy-init : goal.loop-copy-init
loop-copy-init c = subst (λ (xs : List (List Lit)). SameMembers xs []) (sym c.requires) (same_itself [])

pub loop-copy-preserved : goal.loop-copy-preserved
loop-copy-preserved c = same_put _ _ _ _ c.loop-copy.invariant c.in_ok-put.ensures.ok

pub returns : goal.returns
returns c =
    let whole = c.into_iter-copy-iterator.ensures.into_iter_gives in
    let all = YieldsList-end (YieldsList-from_vec c.args.copies.items whole.0 (whole.1 ∙ c.args.copies.ok.0)) c.loop-copy.yielded c.loop-copy.copy-iterator c.loop-copy.yielded_by c.next.result c.next.new.self c.in-None.is c.next.ensures.steps in
    subst (SameMembers c.loop-copy.leaf) (sym (map-id c.loop-copy.yielded) ∙ all.0) c.loop-copy.invariant
