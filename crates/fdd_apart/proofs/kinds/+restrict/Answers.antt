use Rattle.std.proofs.Common.{ℕ, ap, sym, subst, ◌∙◌, arith}
use Rattle.std.proofs.lemmas.Bool.{false≢true}
use Rattle.nk_values.specs.declared.field.Field.{Field}
use Rattle.nk_values.specs.declared.packet.Packet.{Packet}
use Rattle.nk_values.specs.Held.{Holds}
use Rattle.nk_values.specs.Lits.{lit_value}
use Rattle.fdd_nodes.specs.Known.{Bars}
use Rattle.fdd_nodes.specs.Names.{IsFew}
use Rattle.fdd_nodes.specs.Trees.{Tree}
use Rattle.fdd_differ.specs.Frames.{Leaves}
use Rattle.fdd_split.specs.Memos.{EachIs}
use Rattle.fdd_split.proofs.KeptLaws.{right_added}
use Rattle.fdd_store.specs.Stores.{tree_at}
use Rattle.fdd_store.proofs.ForkLaws.{fall_then, fall_else, if_ok, level}
use Rattle.fdd_store.proofs.StoreLaws.{gives_as, gives_grown, grows_on, has_grown, tree_grown}
use Rattle.fdd_apart.specs.Kinds.{IsRestriction, Restricts}
use Rattle.fdd_apart.proofs.KindLaws.{id_eq, any_ok, few_choice, few_else, few_then, restriction_back, restriction_grown, restriction_to, restrictions_grown, restricts_barred, restricts_excluded, restricts_test, restricts_then}
use Rattle.fdd_apart.proofs.kinds.+restrict.Goals as goal

pub restrict-returns-in-Some-clause-only : goal.restrict-returns-in-Some-clause-only
restrict-returns-in-Some-clause-only t c = (c.in-Some.ensures c.args.frame c.args.store.now c.requires.known).1

pub restrict-returns-clause-known : goal.restrict-returns-clause-known
restrict-returns-clause-known t c =
    let k = c.args.frame in
    let s = c.restrict_anew.new.store in
    subst (EachIs (IsRestriction k s)) (sym c.in_ok-insert.ensures.entries)
    (right_added id_eq (IsRestriction k s) (restriction_to k s) (restriction_back k s) _ _ _ c.in_ok-r.ensures.known
    (restriction_grown k _ _ _ _ c.in_ok-r.ensures.grows c.requires.has c.in_ok-r.ensures.only))

pub restrict_anew-restrict-requires : goal.restrict_anew-restrict-requires
restrict_anew-restrict-requires t c =
    let f = c.in-Fork.ensures.look in (
      (let w = fall_then _ c.in-Fork.test _ _ _ _ f c.in-Fork.ensures.made in omega (arith, w)),
      (f.has_then, (few_then c.in-Fork.test _ _ _ f.is c.requires.few, c.requires.known)),
    )

pub restrict_anew-restrict-requires-in-No : goal.restrict_anew-restrict-requires-in-No
restrict_anew-restrict-requires-in-No t c =
    let f = c.in-Fork.ensures.look in (
      (let w = fall_else _ c.in-Fork.test _ _ _ _ f c.in-Fork.ensures.made in omega (arith, w)),
      (f.has_else, (few_else c.in-Fork.test _ _ _ f.is c.requires.few, c.requires.known)),
    )

pub restrict_anew-returns-in-Leaf-clause-known : goal.restrict_anew-returns-in-Leaf-clause-known
restrict_anew-returns-in-Leaf-clause-known t c = any_ok _ _ (restrictions_grown c.args.frame _ _ _ c.restrict_leaf.ensures.grows c.requires.known)

pub restrict_anew-returns-in-Yes-clause-only : goal.restrict_anew-returns-in-Yes-clause-only
restrict_anew-returns-in-Yes-clause-only t c =
    let holds = subst (λ (q : Packet). Holds q c.in-Fork.test) c.cell.ensures c.in-Yes.ensures in
    if_ok c.restrict.result _ _ c.restrict.ensures.only (λ r g. gives_as _ r _ _ (λ x w. restricts_then c.args.frame c.in-Fork.test _ _ _ x c.in-Fork.ensures.look.is holds w) g)

pub restrict_anew-returns-in-No-clause-only : goal.restrict_anew-returns-in-No-clause-only
restrict_anew-returns-in-No-clause-only t c =
    let bars = subst (λ (q : Packet). Bars q c.in-Fork.test) c.cell.ensures c.in-No.ensures in
    if_ok c.restrict-in-No.result _ _ c.restrict-in-No.ensures.only (λ r g. gives_as _ r _ _ (λ x w. restricts_barred c.args.frame c.in-Fork.test _ _ _ x c.in-Fork.ensures.look.is bars w) g)

pub restrict_test-restrict-requires : goal.restrict_test-restrict-requires
restrict_test-restrict-requires t c =
    let f = c.requires.fork in (
      (let w = fall_else _ c.args.fork.test _ _ _ _ f c.requires.made in omega (arith, w)),
      (f.has_else, (few_else c.args.fork.test _ _ _ f.is c.requires.few, c.requires.known)),
    )

pub restrict_test-returns-then-not-leaves-clause-only : goal.restrict_test-returns-then-not-leaves-clause-only
restrict_test-returns-then-not-leaves-clause-only t c =
    let out : ¬ Leaves c.args.frame c.field.result c.value.result = λ w. false≢true (sym c.if-not-leaves.true ∙ c.leaves.ensures.1 w) in
    let excluded = subst (λ (f : Field). ¬ Leaves c.args.frame f (lit_value c.args.fork.test)) c.field.ensures
    (subst (λ (n : ℕ). ¬ Leaves c.args.frame c.field.result n) c.value.ensures out) in
    gives_as _ _ _ _ (λ x w. restricts_excluded c.args.frame c.args.fork.test _ _ _ x c.requires.fork.is excluded w) c.in_ok-no.ensures.only

pub restrict_test-restrict-requires-2 : goal.restrict_test-restrict-requires-2
restrict_test-restrict-requires-2 t c =
    let f = c.requires.fork in
    let g = c.in_ok-no.ensures.grows in
    let same = tree_grown _ _ _ g f.has_then in (
      (let w = fall_then _ c.args.fork.test _ _ _ _ f c.requires.made in let e = ap level same in omega (arith, w, e)),
      (has_grown _ _ _ g f.has_then, (subst IsFew (sym same) (few_then c.args.fork.test _ _ _ f.is c.requires.few), c.in_ok-no.ensures.known)),
    )

pub restrict_test-returns-in_err-yes-clause-grows : goal.restrict_test-returns-in_err-yes-clause-grows
restrict_test-returns-in_err-yes-clause-grows t c = grows_on _ _ _ c.in_ok-no.ensures.grows c.in_err-yes.ensures.grows

pub restrict_test-choice-requires-clause-few : goal.restrict_test-choice-requires-clause-few
restrict_test-choice-requires-clause-few t c =
    let k = c.args.frame in
    let f = c.requires.fork in
    let yes = subst (λ (x : Tree). Restricts k x (tree_at c.restrict-2.new.store c.in_ok-yes.yes)) (tree_grown _ _ _ c.in_ok-no.ensures.grows f.has_then) c.in_ok-yes.ensures.only.is in
    let no = gives_grown _ _ _ _ c.in_ok-yes.ensures.grows c.in_ok-no.ensures.only in
    few_choice k c.args.fork.test _ _ _ _ _ f.is yes no.is c.requires.few

pub restrict_test-returns-clause-known : goal.restrict_test-returns-clause-known
restrict_test-returns-clause-known t c = any_ok _ _ (restrictions_grown c.args.frame _ _ _ c.choice.ensures.grows c.in_ok-yes.ensures.known)

pub restrict_test-returns-clause-only : goal.restrict_test-returns-clause-only
restrict_test-returns-clause-only t c =
    let k = c.args.frame in
    let f = c.requires.fork in
    let yes = subst (λ (x : Tree). Restricts k x (tree_at c.restrict-2.new.store c.in_ok-yes.yes)) (tree_grown _ _ _ c.in_ok-no.ensures.grows f.has_then) c.in_ok-yes.ensures.only.is in
    let no = gives_grown _ _ _ _ c.in_ok-yes.ensures.grows c.in_ok-no.ensures.only in
    let left = subst (λ (g : Field). Leaves k g (lit_value c.args.fork.test)) c.field.ensures
    (subst (λ (n : ℕ). Leaves k c.field.result n) c.value.ensures (c.leaves.ensures.0 c.if-not-leaves.false)) in
    if_ok c.choice.result _ _ c.choice.ensures.place (λ r g. gives_as _ r _ _ (λ z w. restricts_test k c.args.fork.test _ _ _ _ _ z f.is c.requires.untold left yes no.is w) g)
