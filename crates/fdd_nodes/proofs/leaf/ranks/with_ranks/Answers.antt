use Rattle.std.proofs.Common.{sym, ap, ◌∙◌, List, [], ◌∷◌, ◌++◌, map}
use Rattle.std.proofs.lemmas.Iterator.Consumers.{YieldsList-end}
use Rattle.std.proofs.lemmas.Iterator.Adapters.{YieldsList-from_vec}
use Rattle.std.proofs.lemmas.List.{map-append, map-id}
use Rattle.nk_values.specs.declared.lit.Lit.{Lit}
use Rattle.fdd_nodes.specs.Ranks.{copy_of}
use Rattle.fdd_nodes.proofs.leaf.ranks.with_ranks.Goals as goal

pub loop-copy-preserved : goal.loop-copy-preserved
loop-copy-preserved c = ap (map copy_of) c.in_ok-push.ensures.items ∙ map-append copy_of c.loop-copy.all.items (record { ranks = c.ranks_of-ranks.result; copy = c.in-Some.copy } ∷ []) ∙ ap (λ (xs : List (List Lit)). xs ++ c.in-Some.copy ∷ []) c.loop-copy.invariant

pub returns : goal.returns
returns c =
    let whole = c.into_iter-copy-iterator.ensures.into_iter_gives in
    let all = YieldsList-end (YieldsList-from_vec c.args.copies.items whole.0 (whole.1 ∙ c.args.copies.ok.0)) c.loop-copy.yielded c.loop-copy.copy-iterator c.loop-copy.yielded_by c.next.result c.next.new.self c.in-None.is c.next.ensures.steps in
    c.loop-copy.invariant ∙ sym (map-id c.loop-copy.yielded) ∙ all.0
