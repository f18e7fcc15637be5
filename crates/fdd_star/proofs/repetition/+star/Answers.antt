use Rattle.std.specs.Prelude.{IfSome}
use Rattle.std.proofs.Common.{Bor, Option, ℕ, inl, refl, rules, List, [], ◌∷◌, ◌++◌, length, length-append, sym, ap, subst, arith, ◌∙◌}
use Rattle.std.proofs.lemmas.Bool.{false≢true}
use Rattle.std.proofs.lemmas.List.{append-nil}
use Rattle.nk_values.specs.declared.field.Field.{Field}
use Rattle.nk_values.specs.declared.lit.Lit.{Lit}
use Rattle.nk_values.specs.declared.packet.Packet.{Packet}
use Rattle.nk_values.specs.Held.{put}
use Rattle.nk_values.specs.Lits.{lit_field}
use Rattle.nk_values.proofs.MemberLaws.{in-left, in-right}
use Rattle.fdd_nodes.specs.Cells.{IsFresh, IsValid}
use Rattle.fdd_nodes.specs.Names.{AreFew}
use Rattle.fdd_nodes.specs.Trees.{Assigns, Leaf}
use Rattle.fdd_nodes.proofs.CellLaws.{valid_with}
use Rattle.fdd_nodes.proofs.OpenLaws.{open_fields, fewer_open}
use Rattle.fdd_star.specs.Faults.{IsErrorIn}
use Rattle.fdd_star.specs.Named.{Covers}
use Rattle.fdd_star.specs.Narrow.{IsNarrowed}
use Rattle.fdd_star.specs.Reaches.{HoldsAll, StarBut}
use Rattle.fdd_star.specs.Shared.{AreShared, IsShared, MovesTo}
use Rattle.fdd_star.proofs.FaultLaws.{fault_narrowed, fault_within, fresh_within}
use Rattle.fdd_star.proofs.FoundLaws.{found_grown, stays, stayed}
use Rattle.fdd_star.proofs.KeptLaws.{found_right}
use Rattle.fdd_star.proofs.NarrowLaws.{narrowed_within, star_narrowed}
use Rattle.fdd_star.proofs.FieldLaws.{id_eq, same_id}
use Rattle.fdd_star.proofs.SharedLaws.{none_left, shared_grown, shared_kept, shared_of, shared_moved, took_last}
use Rattle.fdd_star.proofs.FirstLaws.{held_within}
use Rattle.fdd_star.proofs.StarLaws.{ended_few, few_alone, few_inside, star_more}
use Rattle.fdd_star.proofs.TurnLaws.{in_same}
use Rattle.fdd_store.specs.Operations.{CofactorOf, LeavesOut}
use Rattle.fdd_store.specs.Stores.{Gives, tree_at}
use Rattle.fdd_store.proofs.StoreLaws.{gives_as, gives_grown, grows_on, has_grown}
use Rattle.fdd_star.proofs.repetition.+star.Goals as goal
use Rattle.fdd_star.proofs.repetition.+star.Goals.{part_of-then-is_shared+in_ok-keep, part_of-else-is_shared}

pub part_in-of-requires-clause-few : goal.part_in-of-requires-clause-few
part_in-of-requires-clause-few t c = few_alone _ _ c.requires.few

pub part_of-cofactor-requires-clause-few : goal.part_of-cofactor-requires-clause-few
part_of-cofactor-requires-clause-few t c = few_alone _ _ c.requires.few

pub part_in-loop-l-init : goal.part_in-loop-l-init
part_in-loop-l-init t c = (c.in_ok-parts.ensures.grows, c.in_ok-parts.ensures.found, c.in_ok-parts.ensures.parts)

pub part_in-part_of-requires : goal.part_in-part_of-requires
part_in-part_of-requires t c =
    let i = c.loop-l.invariant.2 in
    let names = i.body.is.names in
    let turns = subst (λ (f : Field). MovesTo f c.loop-l.parts.shared c.move_to.new.self) c.field.ensures c.move_to.ensures in
    let took = took_last _ _ _ _ _ c.in-Some.l _ i.missed c.in-Some.ensures.items c.truncate.ensures.keys (let s = c.saturating_sub.ensures in let n = c.len.ensures.len in omega (arith, s, n)) in
    let there = i.asked c.in-Some.l (in_same _ _ _ (sym c.in-Some.ensures.items) (in-right c.pop.new.self.items (c.in-Some.l ∷ []) c.in-Some.l (inl refl))) in (
      omega arith,
      (
        i.body.has,
        (
          few_inside _ _ _ c.requires.few names,
          (
            c.requires.valid,
            (c.loop-l.invariant.1, (shared_moved _ _ _ _ _ _ c.in-Some.l _ _ took.1 turns i.shared, (turns.field, (c.requires.range, (fresh_within _ _ _ names c.requires.fresh, ((λ m w. c.requires.assigned m (names.assigns m w)), (c.requires.held, there.0))))))),
          ),
        ),
      ),
    )

pub part_in-returns-in_err-part-clause-grows : goal.part_in-returns-in_err-part-clause-grows
part_in-returns-in_err-part-clause-grows t c = grows_on _ _ _ c.loop-l.invariant.0 c.in_err-part.ensures.grows

pub part_in-returns-in_err-part-clause-part : goal.part_in-returns-in_err-part-clause-part
part_in-returns-in_err-part-clause-part t c =
    let p = tree_at c.args.store.now c.args.scope.now.body in
    let i = c.loop-l.invariant.2 in
    let there = i.asked c.in-Some.l (in_same _ _ _ (sym c.in-Some.ensures.items) (in-right c.pop.new.self.items (c.in-Some.l ∷ []) c.in-Some.l (inl refl))) in
    let w = fault_within p c.in-Some.l c.args.scope.now.cell.now c.args.scope.now.other.now c.in_err-part.field-0.0 there.1 there.0
    (fault_narrowed p _ (put c.in-Some.l c.args.scope.now.cell.now) c.args.scope.now.other.now c.in_err-part.field-0.0 (narrowed_within p _ c.args.scope.now.cell.now c.in-Some.l there.0 i.body.is) c.in_err-part.ensures.part) in
    search (rules, w)

pub part_in-choice-requires-clause-has_a : goal.part_in-choice-requires-clause-has_a
part_in-choice-requires-clause-has_a t c = c.in_ok-part.ensures.part.star.has

pub part_in-choice-requires-clause-has_b : goal.part_in-choice-requires-clause-has_b
part_in-choice-requires-clause-has_b t c = has_grown _ _ _ c.in_ok-part.ensures.grows c.loop-l.invariant.2.all.has

pub part_in-choice-requires-clause-few : goal.part_in-choice-requires-clause-few
part_in-choice-requires-clause-few t c =
    let i = c.loop-l.invariant.2 in
    let there = i.asked c.in-Some.l (in_same _ _ _ (sym c.in-Some.ensures.items) (in-right c.pop.new.self.items (c.in-Some.l ∷ []) c.in-Some.l (inl refl))) in
    ended_few _ (tree_at c.args.store.now c.args.scope.now.body) _ _ _ c.requires.few there.1 (star_narrowed _ (tree_at c.args.store.now c.args.scope.now.body) _ _ _ _ (narrowed_within _ _ c.args.scope.now.cell.now c.in-Some.l there.0 i.body.is) c.in_ok-part.ensures.part.star.is).names (gives_grown _ _ _ _ c.in_ok-part.ensures.grows i.all).is.names

pub part_in-returns-in_err-parts-2-clause-grows : goal.part_in-returns-in_err-parts-2-clause-grows
part_in-returns-in_err-parts-2-clause-grows t c = grows_on _ _ _ c.loop-l.invariant.0 (grows_on _ _ _ c.in_ok-part.ensures.grows c.in_err-parts-2.ensures.grows)

pub part_in-loop-l-preserved : goal.part_in-loop-l-preserved
part_in-loop-l-preserved t c =
    let p = tree_at c.args.store.now c.args.scope.now.body in
    let l = c.in-Some.l in
    let i = c.loop-l.invariant.2 in
    let there = i.asked l (in_same _ _ _ (sym c.in-Some.ensures.items) (in-right c.pop.new.self.items (l ∷ []) l (inl refl))) in
    let more = grows_on _ _ _ c.in_ok-part.ensures.grows c.in_ok-parts-2.ensures.grows in
    let rest = gives_grown _ _ _ _ c.in_ok-part.ensures.grows i.all in
    let missed = c.in_ok-part.ensures.part.missed in
    let took = took_last _ _ _ _ _ c.in-Some.l _ i.missed c.in-Some.ensures.items c.truncate.ensures.keys (let s = c.saturating_sub.ensures in let n = c.len.ensures.len in omega (arith, s, n)) in
    let part = star_narrowed _ (tree_at c.args.store.now c.args.scope.now.body) _ _ _ _ (narrowed_within _ _ c.args.scope.now.cell.now c.in-Some.l there.0 i.body.is) c.in_ok-part.ensures.part.star.is in
    let shared = shared_grown _ _ _ _ _ _ c.part_of.new.shared c.in_ok-parts-2.ensures.grows c.in_ok-part.ensures.shared in (
      grows_on _ _ _ c.loop-l.invariant.0 more,
      found_grown _ _ _ c.in_ok-parts-2.ensures.grows c.in_ok-part.ensures.part.found,
      record {
        all = gives_as _ _ _ _ (λ x w. subst (λ (ls : List Lit). StarBut c.args.scope.now.first.now p c.args.scope.now.cell.now ls x) (sym missed) (star_more _ p _ _ _ l _ _ x c.requires.held there.1 there.0 took.1 part rest.is w)) c.in_ok-parts-2.ensures.place;
        missed = missed ∙ took.0;
        asked = λ m k. i.asked m (in_same _ _ _ (sym c.in-Some.ensures.items) (in-left c.pop.new.self.items (l ∷ []) m k));
        body = record { has = has_grown _ _ _ more i.body.has; is = stays (IsNarrowed p c.args.scope.now.cell.now) _ _ _ more i.body.has i.body.is };
        shared = stays (λ b. AreShared c.choice.new.self c.args.scope.now.first.now b c.args.scope.now.cell.now c.part_of.new.progress.missed.keys c.part_of.new.shared) _ _ _ more i.body.has
            (subst (λ (ls : List Lit). AreShared c.choice.new.self c.args.scope.now.first.now (tree_at c.loop-l.store c.loop-l.parts.body) c.args.scope.now.cell.now ls c.part_of.new.shared) (sym missed) shared);
      },
    )

pub part_in-returns-clause-grows : goal.part_in-returns-clause-grows
part_in-returns-clause-grows t c = c.loop-l.invariant.0

pub part_in-returns-clause-part : goal.part_in-returns-clause-part
part_in-returns-clause-part t c =
    let i = c.loop-l.invariant.2 in
    let none = none_left c.loop-l.parts.left.items (λ b. false≢true (c.in_default.ensures.variant.1 (let k = c.loop-l.parts.left.ok in omega (arith, b, k)))) in
    let missed = i.missed ∙ ap (λ (ls : List Lit). c.args.progress.now.missed.keys ++ ls) none ∙ append-nil _ in
    record { star = gives_as _ _ _ _ (λ x w. subst (λ (ls : List Lit). StarBut c.args.scope.now.first.now (tree_at c.args.store.now c.args.scope.now.body) c.args.scope.now.cell.now ls x) missed w) i.all; found = c.loop-l.invariant.1; missed = missed }

pub part_in-loop-l-smaller : goal.part_in-loop-l-smaller
part_in-loop-l-smaller t c = let e = ap length c.in-Some.ensures.items ∙ length-append c.pop.new.self.items (c.in-Some.l ∷ []) in omega (arith, e)

pub part_of-returns-in-Some-clause-shared : goal.part_of-returns-in-Some-clause-shared
part_of-returns-in-Some-clause-shared t c = shared_grown _ _ _ _ _ _ c.args.shared.now c.in_ok-left.ensures.grows c.requires.shared

pub part_of-returns-in-Some-clause-part : goal.part_of-returns-in-Some-clause-part
part_of-returns-in-Some-clause-part t c =
    let k = c.cofactor.new.self in
    let P = IsShared k c.args.scope.now.first.now (tree_at c.args.store.now c.args.scope.now.body) c.args.scope.now.cell.now c.args.progress.now.missed.keys c.args.shared.now.field in
    let kept = shared_grown _ _ _ _ _ _ c.args.shared.now c.in_ok-left.ensures.grows c.requires.shared in
    let here = subst (λ (o : Option (Bor ℕ)). IfSome o (λ v. P c.in_ok-left.left v.now)) c.in-Some.is (found_right id_eq same_id P _ _ _ kept c.get.ensures.value) in
    record { star = here.star c.args.l.now (sym c.requires.field) c.in_ok-left.ensures.place.is; found = found_grown _ _ _ c.in_ok-left.ensures.grows c.requires.found; missed = refl }

pub part_of-inner_of-inner-requires-clause-left : goal.part_of-inner_of-inner-requires-clause-left
part_of-inner_of-inner-requires-clause-left t c = stays (λ b. CofactorOf c.args.l.now b (tree_at c.cofactor.new.self c.in_ok-left.left)) _ _ _ c.in_ok-left.ensures.grows c.requires.has c.in_ok-left.ensures.place.is

pub part_of-inner_of-inner-requires-clause-has : goal.part_of-inner_of-inner-requires-clause-has
part_of-inner_of-inner-requires-clause-has t c = has_grown _ _ _ c.in_ok-left.ensures.grows c.requires.has

pub part_of-part_in-requires : goal.part_of-part_in-requires
part_of-part_in-requires t c =
    let cell = c.args.scope.now.cell.now in
    let l = c.args.l.now in
    let g = c.in_ok-left.ensures.grows in
    let names = (c.inner_of-inner.ensures.inner cell).names in
    let less = fewer_open cell l c.requires.is_unset in
    let e = ap open_fields c.with-cell.ensures in (
      omega (arith, less, e),
      (
        c.inner_of-inner.ensures.has,
        (
          few_inside _ _ _ (stays (AreFew (Leaf (c.args.scope.now.first.now ∷ []))) _ _ _ g c.requires.has c.requires.few) names,
          (
            subst IsValid (sym c.with-cell.ensures) (valid_with cell l c.requires.valid),
            (
              found_grown _ _ _ g c.requires.found,
              (
                c.requires.range,
                (
                  fresh_within _ _ _ names (stays (IsFresh c.args.scope.now.other.now) _ _ _ g c.requires.has c.requires.fresh),
                  ((λ m w. stays (Covers c.args.scope.now.assigned.now.keys) _ _ _ g c.requires.has c.requires.assigned m (names.assigns m w)), subst (λ (q : Packet). HoldsAll q c.args.scope.now.first.now) (sym c.with-cell.ensures) (held_within _ cell l c.requires.held c.requires.is_unset)),
                ),
              ),
            ),
          ),
        ),
      ),
    )

pub part_of-returns-in_err-part-clause-grows : goal.part_of-returns-in_err-part-clause-grows
part_of-returns-in_err-part-clause-grows t c = grows_on _ _ _ c.in_ok-left.ensures.grows c.in_err-part.ensures.grows

pub part_of-is_shared-requires : goal.part_of-is_shared-requires
part_of-is_shared-requires t c = has_grown _ _ _ (grows_on _ _ _ c.in_ok-left.ensures.grows c.in_ok-part.ensures.grows) c.requires.has

pub part_of-returns-in_err-keep-clause-grows : goal.part_of-returns-in_err-keep-clause-grows
part_of-returns-in_err-keep-clause-grows t c = grows_on _ _ _ c.in_ok-left.ensures.grows c.in_ok-part.ensures.grows

pub part_of-returns-clause-grows : goal.part_of-returns-clause-grows
part_of-returns-clause-grows t c = grows_on _ _ _ c.in_ok-left.ensures.grows c.in_ok-part.ensures.grows

pub part_of-returns-in_err-part-clause-part : goal.part_of-returns-in_err-part-clause-part
part_of-returns-in_err-part-clause-part t c =
    let cell = put c.args.l.now c.args.scope.now.cell.now in
    let g = c.args.scope.now.other.now in
    let e = c.in_err-part.field-0.0 in
    let inner = subst (λ (q : Packet). IsErrorIn (tree_at c.cofactor.new.self c.inner_of-inner.result) q g e) c.with-cell.ensures c.in_err-part.ensures.part in
    let w = stayed (λ x. IsErrorIn x cell g e) _ _ _ c.in_ok-left.ensures.grows c.requires.has (fault_narrowed _ _ cell g e (c.inner_of-inner.ensures.inner c.args.scope.now.cell.now) inner) in
    search (rules, w)

whole : (t : ℕ) (c : goal.part_of-Joined-is_shared t) → Gives c.part_in.new.store c.in_ok-part.part (StarBut c.args.scope.now.first.now (tree_at c.args.store.now c.args.scope.now.body) (put c.args.l.now c.args.scope.now.cell.now) c.args.progress.now.missed.keys)
whole t c =
    let k = c.cofactor.new.self in
    let cell = put c.args.l.now c.args.scope.now.cell.now in
    let ls = c.args.progress.now.missed.keys in
    gives_as _ _ _ _ (λ r x. stayed (λ b. StarBut c.args.scope.now.first.now b cell ls r) _ _ _ c.in_ok-left.ensures.grows c.requires.has
    (star_narrowed _ (tree_at k c.args.scope.now.body) _ cell ls r (c.inner_of-inner.ensures.inner c.args.scope.now.cell.now) (subst (λ (q : Packet). StarBut c.args.scope.now.first.now (tree_at k c.inner_of-inner.result) q ls r) c.with-cell.ensures x))) c.in_ok-part.ensures.part.star

pub part_of-returns-clause-part : goal.part_of-returns-clause-part
part_of-returns-clause-part t c = record { star = whole t c; found = c.in_ok-part.ensures.part.found; missed = c.in_ok-part.ensures.part.missed }

pub part_of-returns-clause-shared : goal.part_of-returns-clause-shared
part_of-returns-clause-shared t c =
    let b = tree_at c.args.store.now c.args.scope.now.body in
    let cell = c.args.scope.now.cell.now in
    let ls = c.args.progress.now.missed.keys in
    let l = c.args.l.now in
    let n = c.part_in.new.store in
    let more = c.in_ok-part.ensures.grows in
    let grown = grows_on _ _ _ c.in_ok-left.ensures.grows more in
    let place = c.in_ok-left.ensures.place in
    let old = shared_grown _ n _ b cell ls c.args.shared.now grown c.requires.shared in
    elim c.if-is_shared.branch [
      | part_of-then-is_shared+in_ok-keep w ↦
          let unset = stayed (λ x. ¬ Assigns x l) _ _ _ grown c.requires.has (c.is_shared.ensures (stays (Covers c.args.scope.now.assigned.now.keys) _ _ _ grown c.requires.has c.requires.assigned) w.if-is_shared.true) in
          let new = shared_of n _ b cell ls l c.in_ok-left.left c.in_ok-part.part c.requires.held (has_grown _ _ _ more place.has) (stays (CofactorOf l b) _ _ _ more place.has place.is) (stays (LeavesOut (lit_field l)) _ _ _ more place.has c.in_ok-left.ensures.past) unset c.requires.is_unset (whole t c) in
          subst (AreShared n c.args.scope.now.first.now b cell ls) (sym w.shared-is) (shared_kept n _ b cell ls c.args.shared.now w.keep.new.self _ _ w.in_ok-keep.ensures.field w.in_ok-keep.ensures.parts old (subst (λ (f : Field). IsShared n c.args.scope.now.first.now b cell ls f c.in_ok-left.left c.in_ok-part.part) (sym c.requires.field) new))
      | part_of-else-is_shared w ↦ subst (AreShared n c.args.scope.now.first.now b cell ls) (sym w.shared-is) old
    ]
