use Rattle.std.proofs.Common.{inl, inr, ap, sym, refl, ◌∙◌, arith, ℕ, zero, suc, ◌+◌, List, [], ◌∷◌, ◌++◌, take}
use Rattle.std.proofs.lemmas.List.{take_more, take_all}
use Rattle.nk_values.specs.declared.lit.Lit.{Lit}
use Rattle.nk_values.specs.Lits.{lit_field}
use Rattle.nk_values.specs.Ranges.{place}
use Rattle.nk_values.specs.Members.{IsIn}
use Rattle.nk_values.proofs.MemberLaws.{in-either, in-right}
use Rattle.nk_values.proofs.PacketLaws.{same_field}
use Rattle.fdd_star.proofs.TurnLaws.{in_same}
use Rattle.fdd_star.proofs.ending.names_field.Goals as goal

from-take : (k : ℕ) (ls : List Lit) (m : Lit) → IsIn (take k ls) m → IsIn ls m
from-take zero ls m h = absurd h
from-take (suc k) [] m h = h
from-take (suc k) (x ∷ xs) m (inl e) = inl e
from-take (suc k) (x ∷ xs) m (inr h) = inr (from-take k xs m h)

pub loop-l-preserved : goal.loop-l-preserved
loop-l-preserved c = λ m h e.
    let i = c.loop-l.l-index in
    let taken = take_more c.args.lits.now i c.l-item.result c.loop-l-test.true ∙ ap (λ (x : Lit). take i c.args.lits.now ++ x ∷ []) (sym c.l-item.is) in
    elim (in-either (take i c.args.lits.now) (c.l-item.result ∷ []) m (in_same _ _ m taken h)) [
      | inl k ↦ c.loop-l.invariant m k e
      | inr k ↦ elim k [
        | inl s ↦ (let w = ap (λ (x : Lit). place (lit_field x)) s ∙ ap place e in let v = ap place c.field.ensures in omega (arith, w, v))
        | inr n ↦ absurd n
      ]
    ]

pub returns-clause-none : goal.returns-clause-none
returns-clause-none c = λ _ m h. c.loop-l.invariant m (in_same _ _ m (sym (take_all c.loop-l.l-index c.args.lits.now c.loop-l-test.false)) h)

pub returns-then-place-clause-some : goal.returns-then-place-clause-some
returns-then-place-clause-some c = λ _.
    let i = c.loop-l.l-index in
    let taken = take_more c.args.lits.now i c.l-item.result c.loop-l-test.true ∙ ap (λ (x : Lit). take i c.args.lits.now ++ x ∷ []) (sym c.l-item.is) in
    let among = from-take (i + 1) c.args.lits.now c.l-item.result (in_same _ _ c.l-item.result (sym taken) (in-right (take i c.args.lits.now) (c.l-item.result ∷ []) c.l-item.result (inl refl))) in
    (c.l-item.result, among, same_field _ _ (let v = ap place c.field.ensures in omega (arith, v)))
