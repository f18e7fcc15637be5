use Rattle.std.proofs.Common.{◌≡◌, ◌∙◌, inl, inr, sym, subst, [], ◌∷◌, List}
use Rattle.nk_values.specs.declared.lit.Lit.{Lit}
use Rattle.nk_values.specs.Lits.{lit_field}
use Rattle.nk_values.specs.Members.{IsIn}
use Rattle.fdd_nodes.specs.Cells.{IsValid, whole_cell}
use Rattle.fdd_nodes.specs.Names.{AreFew}
use Rattle.fdd_nodes.specs.Trees.{Leaf}
use Rattle.fdd_nodes.proofs.CellLaws.{open_valid, valid_with}
use Rattle.fdd_differ.specs.Unnamed.{AreFewNames, IsFreshOf}
use Rattle.fdd_store.specs.Stores.{tree_at}
use Rattle.fdd_store.proofs.StoreLaws.{gives_as}
use Rattle.fdd_star.specs.Named.{NamesLit}
use Rattle.fdd_star.proofs.EndLaws.{ended_star_of, held_alone}
use Rattle.fdd_star.proofs.NamedLaws.{few_names, fresh_of}
use Rattle.fdd_star.proofs.StarLaws.{few_alone}
use Rattle.fdd_star.proofs.ending.ended_star.Goals as goal

pub unnamed-other-requires : goal.unnamed-other-requires
unnamed-other-requires c = subst AreFewNames (sym c.as_slice-named.ensures.keys) (few_names _ _ (few_alone _ _ c.requires.few) c.in_ok-names.ensures.named)

pub part_in-requires-clause-few : goal.part_in-requires-clause-few
part_in-requires-clause-few c = subst (λ (x : List Lit). AreFew (Leaf (x ∷ [])) (tree_at c.args.store.now c.args.p)) (sym c.in_ok-first.ensures) c.requires.few

pub part_in-requires-clause-valid : goal.part_in-requires-clause-valid
part_in-requires-clause-valid c = subst IsValid (sym c.of-cell.ensures) (valid_with whole_cell c.args.l.now open_valid)

pub part_in-requires-clause-found : goal.part_in-requires-clause-found
part_in-requires-clause-found c = c.new-progress.ensures.found _

pub part_in-requires-clause-fresh : goal.part_in-requires-clause-fresh
part_in-requires-clause-fresh c = fresh_of _ _ _ c.in_ok-names.ensures.named (subst (λ (ls : List Lit). IsFreshOf ls c.unnamed-other.result) c.as_slice-named.ensures.keys c.unnamed-other.ensures)

pub part_in-requires-clause-assigned : goal.part_in-requires-clause-assigned
part_in-requires-clause-assigned c = c.in_ok-names.ensures.assigned.has

pub part_in-requires-clause-held : goal.part_in-requires-clause-held
part_in-requires-clause-held c = held_alone _ _ _ c.of-cell.ensures c.in_ok-first.ensures

pub returns-in-Ok-clause-star : goal.returns-in-Ok-clause-star
returns-in-Ok-clause-star c =
    let apart = λ (m : Lit) (k : NamesLit (tree_at c.args.store.now c.args.p) m) (e : lit_field m ≡ lit_field c.args.l.now). c.names_field.ensures.none c.if-names_field.false m (subst (λ (ls : List Lit). IsIn ls m) (sym c.as_slice-named.ensures.keys) (c.in_ok-names.ensures.named.has m k)) (e ∙ sym c.field.ensures) in
    gives_as _ _ _ _ (λ x w. ended_star_of _ c.args.l.now apart _ _ _ x c.in_ok-first.ensures c.of-cell.ensures c.new-progress.ensures.missed w) c.in-Ok.ensures.part.star

pub returns-then-names_field-clause-none : goal.returns-then-names_field-clause-none
returns-then-names_field-clause-none c =
    let w = c.names_field.ensures.some c.if-names_field.true in
    let named = c.in_ok-names.ensures.named.only w.0 (subst (λ (ls : List Lit). IsIn ls w.0) c.as_slice-named.ensures.keys w.1) in
    inl (w.0, elim named [ inl n ↦ absurd n | inr k ↦ k ], w.2 ∙ c.field.ensures)
