use Rattle.std.proofs.Common.{sym, ◌∙◌}
use Rattle.std.proofs.lemmas.Bool.{false≢true}
use Rattle.fdd_star.proofs.NamedLaws.{not_in}
use Rattle.fdd_star.proofs.shared.is_shared.Goals as goal

pub returns-then-not-sets : goal.returns-then-not-sets
returns-then-not-sets c = λ _ h a. false≢true (sym c.if-not-sets.true ∙ c.sets.ensures.1 (record { lit = c.args.l.now; assigned = a; field = sym c.field.ensures }))

pub returns-else-not-sets : goal.returns-else-not-sets
returns-else-not-sets c = λ covers h a. not_in c.args.assigned.now.keys c.args.l.now _ c.contains.ensures h (covers c.args.l.now a)
