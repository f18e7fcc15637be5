use Rattle.std.proofs.Common.{sym, ◌∙◌, subst, arith}
use Rattle.std.proofs.lemmas.Bool.{false≢true}
use Rattle.nk_values.specs.declared.packet.Packet.{Packet}
use Rattle.fdd_nodes.specs.Trees.{Tree}
use Rattle.fdd_store.specs.Stores.{Gives, tree_at}
use Rattle.fdd_store.proofs.ForkLaws.{if_ok}
use Rattle.fdd_store.proofs.StoreLaws.{tree_grown, gives_as, gives_grown}
use Rattle.fdd_store.specs.Results.{Cuts}
use Rattle.fdd_apart.specs.Walks.{IsReady, CellApart}
use Rattle.fdd_apart.proofs.WalkLaws.{apart_leaf, apart_else, apart_then, nearer, ready_else, ready_then, beyond_later, no-step-back, tests_at}
use Rattle.fdd_apart.proofs.walk.+cell_apart.Goals as goal

pub returns-in_default-clause-apart : goal.returns-in_default-clause-apart
returns-in_default-clause-apart t c =
    apart_leaf _ _ _ c.in_default.ensures.first.0 c.in_default.ensures.first.1 c.in_default.ensures.made_a c.in_default.ensures.made_b c.requires.two c.requires.ready_x c.requires.ready_y

pub cell_apart-requires : goal.cell_apart-requires
cell_apart-requires t c =
    let s = c.in-Some.ensures in
    let u = c.else_of-u.ensures.is in
    let v = c.else_of-v.ensures.is in (
      (let w = nearer c.in-Some.l _ _ _ _ s.made_a s.made_b s.first u.tests v.tests u.later v.later in omega (arith, w)),
      (
        c.else_of-u.ensures.has,
        (
          c.else_of-v.ensures.has,
          (
            (λ e. false≢true (sym c.if-not-are_one.true ∙ c.are_one.ensures.1 e)),
            (ready_else _ c.in-Some.l _ _ u c.requires.ready_x, ready_else _ c.in-Some.l _ _ v c.requires.ready_y),
          ),
        ),
      ),
    )

pub returns-then-not-are_one-clause-apart : goal.returns-then-not-are_one-clause-apart
returns-then-not-are_one-clause-apart t c =
    if_ok c.cell_apart.result _ _ c.cell_apart.ensures.apart
    (λ q h. apart_else _ c.in-Some.l _ _ _ _ q c.in-Some.ensures.first c.requires.ready_x c.requires.ready_y c.else_of-u.ensures.is c.else_of-v.ensures.is h)

pub narrow-requires : goal.narrow-requires
narrow-requires t c = record {
  has = c.requires.has_x;
  made = c.in-Some.ensures.made_a;
  is = tests_at c.in-Some.l _ c.in-Some.ensures.made_a c.in-Some.ensures.first.from_a;
}

pub narrow-requires-2 : goal.narrow-requires-2
narrow-requires-2 t c = gives_grown _ _ _ _ c.in_ok-g.ensures.grows (record {
  has = c.requires.has_y;
  made = c.in-Some.ensures.made_b;
  is = tests_at c.in-Some.l _ c.in-Some.ensures.made_b c.in-Some.ensures.first.from_b;
})

pub cell_apart-requires-2 : goal.cell_apart-requires-2
cell_apart-requires-2 t c =
    let l = c.in-Some.l in
    let s = c.in-Some.ensures in
    let first = gives_grown _ _ _ _ c.in_ok-h.ensures.grows c.in_ok-g.ensures.place in
    let second : Gives c.narrow-2.new.self c.in_ok-h.h (Cuts l (tree_at c.args.store.now c.args.y)) =
    gives_as _ _ _ _ (λ x i. subst (λ (y : Tree). Cuts l y x) (tree_grown _ _ _ c.in_ok-g.ensures.grows c.requires.has_y) i) c.in_ok-h.ensures.place in
    let g = first.is in
    let h = second.is in (
      (let w = nearer l _ _ _ _ s.made_a s.made_b s.first g.tests h.tests (beyond_later l _ g.beyond) (beyond_later l _ h.beyond) in omega (arith, w)),
      (
        first.has,
        (
          second.has,
          (
            (λ e. c.requires.two (no-step-back l _ _ _ _ _ _ s.made_a s.made_b c.else_of-u.ensures.is c.else_of-v.ensures.is g h (c.are_one.ensures.0 c.if-not-are_one.false) e)),
            (
              subst (λ (q : Packet). IsReady q (tree_at c.narrow-2.new.self c.in_ok-g.g)) (sym c.with.ensures) (ready_then c.args.cell.now l _ _ g c.requires.ready_x),
              subst (λ (q : Packet). IsReady q (tree_at c.narrow-2.new.self c.in_ok-h.h)) (sym c.with.ensures) (ready_then c.args.cell.now l _ _ h c.requires.ready_y),
            ),
          ),
        ),
      ),
    )

pub returns-clause-apart : goal.returns-clause-apart
returns-clause-apart t c =
    let l = c.in-Some.l in
    let first = gives_grown _ _ _ _ c.in_ok-h.ensures.grows c.in_ok-g.ensures.place in
    let second : Gives c.narrow-2.new.self c.in_ok-h.h (Cuts l (tree_at c.args.store.now c.args.y)) =
    gives_as _ _ _ _ (λ x i. subst (λ (y : Tree). Cuts l y x) (tree_grown _ _ _ c.in_ok-g.ensures.grows c.requires.has_y) i) c.in_ok-h.ensures.place in
    if_ok c.cell_apart-2.result _ _ c.cell_apart-2.ensures.apart
    (λ q i. apart_then c.args.cell.now l _ _ _ _ q c.in-Some.ensures.first c.requires.ready_x c.requires.ready_y first.is second.is
    (subst (λ (w : Packet). CellApart w (tree_at c.narrow-2.new.self c.in_ok-g.g) (tree_at c.narrow-2.new.self c.in_ok-h.h) q) c.with.ensures i))
