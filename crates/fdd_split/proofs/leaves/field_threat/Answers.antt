use Rattle.std.proofs.Common.{rules, List, sym, subst}
use Rattle.nk_values.specs.declared.lit.Lit.{Lit}
use Rattle.fdd_split.proofs.FieldLaws.{AreKeepers, no_candidate, of_keepers}
use Rattle.fdd_split.proofs.leaves.field_threat.Goals as goal

pub returns-then-is_settled : goal.returns-then-is_settled
returns-then-is_settled c = no_candidate _ _ _ _ c.requires (λ y i x j e. c.is_settled.ensures (search rules) x e)

pub returns-then-not-has_candidate : goal.returns-then-not-has_candidate
returns-then-not-has_candidate c = no_candidate _ _ _ _ c.requires (c.has_candidate.ensures (search rules))

pub returns : goal.returns
returns c =
    let keepers : AreKeepers c.args.copies.now c.deref.result.now c.args.field = subst (λ (ds : List (List Lit)). AreKeepers c.args.copies.now ds c.args.field) (sym c.deref.ensures.value) c.in_ok-keepers.ensures in
    of_keepers _ _ _ _ _ _ (λ d. (keepers d).0) (λ d. (keepers d).1) c.threat_beside.ensures
