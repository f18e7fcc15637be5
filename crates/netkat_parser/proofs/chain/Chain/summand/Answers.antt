use Rattle.std.proofs.Common.{◌++◌, ◌∷◌, []}
use Rattle.netkat_parser.specs.Grammar.{seq_of}
use Rattle.netkat_parser.proofs.chain.Chain.summand.Goals as goal

pub returns : goal.returns
returns c = λ i ss qs p h k.
    let factors = c.push-2.ensures i qs p h.1 k in
    let factor = c.seq.ensures i (qs ++ p ∷ []) (rw (← c.replace-factors.ensures.value) at factors) in
    let none = c.none-none.ensures i (qs ++ p ∷ []) factors in
    (c.push-3.ensures i ss (seq_of (qs ++ p ∷ [])) h.0 factor, rw c.replace-factors.ensures.after none)
