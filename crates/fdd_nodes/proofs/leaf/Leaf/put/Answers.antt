use Rattle.std.proofs.Common.{List, sym, subst}
use Rattle.std.specs.List.Sorted.{IsStrictlySortedBy}
use Rattle.nk_values.specs.declared.lit.Lit.{Lit}
use Rattle.fdd_nodes.specs.Copies.{copy_cmp, IsPlace, PutsCopy}
use Rattle.fdd_nodes.proofs.OrderLaws.{rising_put, puts_insert}
use Rattle.fdd_nodes.proofs.leaf.Leaf.put.Goals as goal

pub invariant_of-self : goal.invariant_of-self
invariant_of-self c =
    subst (IsStrictlySortedBy copy_cmp) (sym c.in_ok-insert.ensures.items)
    (rising_put c.args.copy c.self.inside.copies.items c.in-Some.place (subst (λ (x : List (List Lit)). IsPlace c.args.copy x c.in-Some.place) c.deref.ensures.value c.in-Some.ensures) c.self.invariant)

pub returns-in_ok-insert-clause-ok : goal.returns-in_ok-insert-clause-ok
returns-in_ok-insert-clause-ok c =
    let old = c.self.inside.copies.items in
    let puts = subst (λ (x : List (List Lit)). PutsCopy c.args.copy old x) (sym c.in_ok-insert.ensures.items) (puts_insert c.args.copy old c.in-Some.place) in
    subst (λ (x : List (List Lit)). PutsCopy c.args.copy x c.insert.new.self.items) c.self.view_is puts
