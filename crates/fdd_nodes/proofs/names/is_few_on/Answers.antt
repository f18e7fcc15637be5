use Rattle.std.proofs.Common.{List, ◌++◌, arith, subst}
use Rattle.std.proofs.lemmas.Bool.{le-leb, leb-true}
use Rattle.nk_values.specs.declared.lit.Lit.{Lit}
use Rattle.fdd_nodes.specs.Names.{Gathers}
use Rattle.fdd_nodes.proofs.NameLaws.{gathers_both, gathered_length}
use Rattle.fdd_nodes.proofs.names.is_few_on.Goals as goal

pub returns : goal.returns
returns c =
    let xs = c.args.path.now.trues in
    let ys = c.args.path.now.falses in
    let first = subst (λ (ls : List Lit). Gathers ls c.new-names.result.items c.gather_all.new.names.items) c.trues.ensures c.in_ok-gather_all.ensures in
    let last = subst (λ (ls : List Lit). Gathers ls c.gather_all.new.names.items c.gather_all-2.new.names.items) c.falses.ensures c.in_ok-gather_all-2.ensures in
    let all = gathers_both xs ys _ _ _ first last in
    let counted = gathered_length _ _ (subst (λ (old : List Lit). Gathers (xs ++ ys) old c.gather_all-2.new.names.items) c.new-names.ensures.items all) in (
      (λ e. record { bound = let h = leb-true _ _ e in omega (arith, h, counted, c.len.ensures) }),
      (λ few. le-leb _ _ (omega (arith, few.bound, counted, c.len.ensures))),
    )
