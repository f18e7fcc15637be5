use Rattle.std.proofs.Common.{sym, ap, ◌∙◌, List, [], ◌∷◌, ◌++◌, map}
use Rattle.std.proofs.lemmas.Iterator.Consumers.{YieldsList-end}
use Rattle.std.proofs.lemmas.Iterator.Adapters.{YieldsList-from_vec}
use Rattle.std.proofs.lemmas.List.{map-append, map-id}
use Rattle.nk_values.specs.declared.lit.Lit.{Lit}
use Rattle.fdd_nodes.specs.Ranks.{copy_of}
use Rattle.fdd_nodes.proofs.leaf.ranks.without_ranks.Goals as goal

pub loop-one-preserved : goal.loop-one-preserved
loop-one-preserved c = c.in_ok-push.ensures.items ∙ ap (λ (xs : List (List Lit)). xs ++ copy_of c.in-Some.one ∷ []) c.loop-one.invariant ∙ sym (map-append copy_of c.loop-one.yielded (c.in-Some.one ∷ []))

pub returns : goal.returns
returns c =
    let whole = c.into_iter-one-iterator.ensures.into_iter_gives in
    let all = YieldsList-end (YieldsList-from_vec c.args.all.items whole.0 (whole.1 ∙ c.args.all.ok.0)) c.loop-one.yielded c.loop-one.one-iterator c.loop-one.yielded_by c.next.result c.next.new.self c.in-None.is c.next.ensures.steps in
    c.loop-one.invariant ∙ ap (map copy_of) (sym (map-id c.loop-one.yielded) ∙ all.0)
