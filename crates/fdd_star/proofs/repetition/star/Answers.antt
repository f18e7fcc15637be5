use Rattle.std.proofs.Common.{sym, subst, List}
use Rattle.nk_values.specs.declared.lit.Lit.{Lit}
use Rattle.nk_values.specs.Members.{IsIn}
use Rattle.fdd_nodes.specs.Cells.{IsValid}
use Rattle.fdd_nodes.proofs.CellLaws.{open_valid}
use Rattle.fdd_differ.specs.Unnamed.{AreFewNames, IsFreshOf}
use Rattle.fdd_star.proofs.FaultLaws.{told_of}
use Rattle.fdd_star.proofs.FieldLaws.{match_on, shallow_by}
use Rattle.fdd_star.proofs.NamedLaws.{few_names, fresh_of}
use Rattle.fdd_star.proofs.StarLaws.{few_none, star_of}
use Rattle.fdd_store.proofs.StoreLaws.{gives_as}
use Rattle.fdd_star.proofs.repetition.star.Goals as goal

pub unnamed-other-requires : goal.unnamed-other-requires
unnamed-other-requires c = subst AreFewNames (sym c.as_slice.ensures.keys) (few_names _ _ c.requires.few c.in_ok-names.ensures.named)

pub part_in-requires-clause-valid : goal.part_in-requires-clause-valid
part_in-requires-clause-valid c = subst IsValid (sym c.whole-cell.ensures) open_valid

pub part_in-requires-clause-few : goal.part_in-requires-clause-few
part_in-requires-clause-few c = few_none _ _ c.in_ok-none.ensures c.requires.few

pub part_in-requires-clause-held : goal.part_in-requires-clause-held
part_in-requires-clause-held c = λ m k. absurd (subst (λ (ls : List Lit). IsIn ls m) c.in_ok-none.ensures k)

pub part_in-requires-clause-fresh : goal.part_in-requires-clause-fresh
part_in-requires-clause-fresh c = fresh_of _ _ _ c.in_ok-names.ensures.named (subst (λ (ls : List Lit). IsFreshOf ls c.unnamed-other.result) c.as_slice.ensures.keys c.unnamed-other.ensures)

pub part_in-requires-clause-assigned : goal.part_in-requires-clause-assigned
part_in-requires-clause-assigned c = c.in_ok-names.ensures.assigned.has

pub returns-clause-grows : goal.returns-clause-grows
returns-clause-grows c = c.part_in.ensures.grows

pub part_in-requires-clause-found : goal.part_in-requires-clause-found
part_in-requires-clause-found c = c.new-progress.ensures.found _

pub returns-clause-star : goal.returns-clause-star
returns-clause-star c = match_on c.part_in.result _ _ _ _ (λ r g. gives_as _ r _ _ (λ x w. star_of _ _ _ _ x c.in_ok-none.ensures c.whole-cell.ensures c.new-progress.ensures.missed w) g.star) (λ e h. told_of _ _ _ e h) c.part_in.ensures.part

pub returns-clause-never_deep : goal.returns-clause-never_deep
returns-clause-never_deep c = shallow_by c.part_in.result _ _ _ (returns-clause-star c)
