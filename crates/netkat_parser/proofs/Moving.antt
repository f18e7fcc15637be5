-- The moves of a reader, over its state.
use Rattle.std.proofs.Common.{◌≡◌, ◌≢◌, ℕ, ◌+◌, ◌<◌, ◌≤◌, ◌⊎◌, nat_le, inl, inr, Bool, true, false, not, cond, ◌==◌, Option, None, Some, Result, Ok, Err, List, [], ◌∷◌, ◌++◌, length, reverse, refl, sym, ap, ◌∙◌, subst, arith}
use Rattle.std.specs.Option.{IfSome}
use Rattle.std.proofs.lemmas.Bool.{le-leb}
use Rattle.std.proofs.lemmas.Bool.Decides.{nat_tests}
use Rattle.std.proofs.lemmas.List.{reverse-append}
use Rattle.nk_values.specs.declared.field.Field.{Field}
use Rattle.nk_values.specs.declared.text_fault.TextFault.{TextFault}
use Rattle.nk_values.specs.declared.text_fault.TextFault.TheVariants as fault
use Rattle.nk_syntax.specs.Terms.{Guard, Term, Filter, One, Zero, Dup}
use Rattle.nk_syntax.specs.Terms as to
use Rattle.nk_syntax.specs.Views.{term_of}
use Rattle.nk_syntax.specs.declared.pol.Pol.{Pol}
use Rattle.netkat_parser.specs.declared.sign.Sign.{Sign}
use Rattle.netkat_parser.specs.declared.sign.Sign.TheVariants as to_sign
use Rattle.netkat_parser.specs.declared.stage.Stage.{Stage}
use Rattle.netkat_parser.specs.declared.stage.Stage.TheVariants as stage
use Rattle.netkat_parser.specs.declared.stage.Operator.{Operator}
use Rattle.netkat_parser.specs.declared.stage.Operator.TheVariants as operator
use Rattle.netkat_parser.specs.declared.chain.Chain.{Chain}
use Rattle.netkat_parser.specs.declared.reading.Level.{Level}
use Rattle.netkat_parser.specs.declared.reading.Level.TheVariants as level
use Rattle.netkat_parser.specs.declared.reading.Halt.{Halt}
use Rattle.netkat_parser.specs.declared.reading.Halt.TheVariants as halt
use Rattle.nk_values.specs.Ranges.{IsLiteralOf}
use Rattle.netkat_parser.specs.Numbers.{number}
use Rattle.netkat_parser.proofs.Values.{value-read, value-bad}
use Rattle.netkat_parser.specs.Signs.{sign, past, run, past_run}
use Rattle.netkat_parser.specs.Grammar.{Spot, Got, Read, Bad, step, stray, strays, sum_of, seq_of, taken, negated, starred_by, Opens, is_too_many, with_pair, IsNumber, IsRun, IsPair, IsLeaf}
use Rattle.netkat_parser.specs.Answers.{spot}
use Rattle.netkat_parser.specs.Going.{Frame, Negated, Bracketed, depth_of, is_inside, is_based, Phase, Operand, Relation, Number, Behind, Reach, made, Leads, ComesIn, Comes}
use Rattle.netkat_parser.specs.Showing.{IsOperand, AreChain}
use Rattle.netkat_parser.specs.Views.{View, Shows, IsStage, AreLevels, TakesSign, EndsNot, StopsAt, TakesNumber, StopsAtRun, GoesOn, GivesWhole, MayStand, HasNoRun, KeepsView, Reaches, FollowsNots, Moves, MovesOn}
use Rattle.netkat_parser.proofs.Goes.{IsChain, leads-bad, at-semicolon, at-plus, at-close, at-stray, at-end, at-open, at-not, at-leaf, at-star, no-star}

abbrev bad : TextFault → List ℕ → Got Term
bad f at = Bad f at

comes-in : (x : Reach) (ph : Phase) (s : Spot) (o : Got Term) → x.phase ≡ ph → ComesIn ph x.frames x.summands x.factors s o → Comes x s o
comes-in x ph s o e h = subst (λ q. ComesIn q x.frames x.summands x.factors s o) (sym e) h

stage-at : (v : View) (x : Reach) (st : Stage) → Shows v x → v.stage ≡ st → IsStage (is_inside x.frames) st x.phase
stage-at v x st h e = subst (λ q. IsStage (is_inside x.frames) q x.phase) e h.stage

depth-levels : (ls : List Level) (fs : List Frame) → AreLevels ls fs → depth_of fs ≡ length ls
depth-levels [] [] h = refl
depth-levels [] (f ∷ fs) h = absurd h
depth-levels (level.Not was ∷ ls) [] h = absurd h
depth-levels (level.Not was ∷ ls) (Negated ∷ fs) h = let e = depth-levels ls fs h.1 in omega arith
depth-levels (level.Not was ∷ ls) (Bracketed ss qs ∷ fs) h = absurd h
depth-levels (level.Bracket c ∷ ls) [] h = absurd h
depth-levels (level.Bracket c ∷ ls) (Negated ∷ fs) h = absurd h
depth-levels (level.Bracket c ∷ ls) (Bracketed ss qs ∷ fs) h = let e = depth-levels ls fs h.1 in omega arith

pub filter-operand : (i : Bool) (pol : Pol) (a : Guard) → term_of pol ≡ Filter a → IsOperand i pol (Filter a)
filter-operand false pol a e = e
filter-operand true pol a e = e

pub outside-operand : (i b : Bool) (pol : Pol) (p : Term) → b ≡ false → b ≡ i → term_of pol ≡ p → IsOperand i pol p
outside-operand i b pol p e f h = subst (λ k. IsOperand k pol p) (sym e ∙ f) h

still-operand : (i : Bool) (st : Stage) → st ≡ stage.Operand → IsStage i st Operand
still-operand i st e = subst (λ q. IsStage i q Operand) (sym e) refl

-- one more level inside
pub levels-put : (old mid new : List Level) (l : Level) → new ≡ mid ++ l ∷ [] → mid ≡ old → reverse new ≡ l ∷ reverse old
levels-put old mid new l e f = ap reverse e ∙ reverse-append mid (l ∷ []) ∙ ap (λ xs. l ∷ reverse xs) f

pub levels-pop : (old new : List Level) (x l : Level) → old ≡ new ++ x ∷ [] → x ≡ l → reverse old ≡ l ∷ reverse new
levels-pop old new x l e f = ap reverse e ∙ reverse-append new (x ∷ []) ∙ ap (λ y. y ∷ reverse new) f

-- ---- where an operand begins

pub takes-atom : (v : View) (g : Sign) (pol : Pol) (p : Term) → g ≢ to_sign.End → v.stage ≡ stage.Operand → g ≢ to_sign.Not → g ≢ to_sign.Open
    → ((i : Bool) → v.inside ≡ i → IsOperand i pol p) → ((d : ℕ) (s : Spot) → IsLeaf d v.inside s g (Read p (step s)))
    → TakesSign v g (record { named = v.named; stage = stage.Behind pol true; levels = v.levels; inside = v.inside; chain = v.chain })
takes-atom v g pol p ne e nn nb op lf = (
  ne,
  λ x h.
      let ph = stage-at v x stage.Operand h e in (
        record { phase = Behind p true; frames = x.frames; summands = x.summands; factors = x.factors },
        record { stage = (p, op (is_inside x.frames) h.inside, refl); levels = h.levels; inside = h.inside; chain = h.chain },
        λ text o e' k.
            let s = spot text v.named in
            comes-in x Operand s o ph
            (at-leaf x.frames x.summands x.factors s o (Read p (step s)) (λ z. nn (sym e' ∙ z.0)) (λ z. nb (sym e' ∙ z.0))
            (subst (λ q. IsLeaf (depth_of x.frames) (is_inside x.frames) s q (Read p (step s))) (sym e')
            (subst (λ i. IsLeaf (depth_of x.frames) i s g (Read p (step s))) h.inside (lf (depth_of x.frames) s))) k),
      ),
)

pub takes-skip : (v : View) (pol : Pol) → v.stage ≡ stage.Operand → term_of pol ≡ Filter One
    → TakesSign v to_sign.Skip (record { named = v.named; stage = stage.Behind pol true; levels = v.levels; inside = v.inside; chain = v.chain })
takes-skip v pol e is = takes-atom v to_sign.Skip pol (Filter One) (λ z. cc) e (λ z. cc) (λ z. cc) (λ i k. filter-operand i pol One is) (λ d s. refl)

pub takes-drop : (v : View) (pol : Pol) → v.stage ≡ stage.Operand → term_of pol ≡ Filter Zero
    → TakesSign v to_sign.Drop (record { named = v.named; stage = stage.Behind pol true; levels = v.levels; inside = v.inside; chain = v.chain })
takes-drop v pol e is = takes-atom v to_sign.Drop pol (Filter Zero) (λ z. cc) e (λ z. cc) (λ z. cc) (λ i k. filter-operand i pol Zero is) (λ d s. refl)

dup-leaf : (d : ℕ) (i : Bool) (s : Spot) → i ≡ false → IsLeaf d i s to_sign.Dup (Read Dup (step s))
dup-leaf d i s e = subst (λ k. IsLeaf d k s to_sign.Dup (Read Dup (step s))) (sym e) refl

pub takes-dup : (v : View) (pol : Pol) → v.stage ≡ stage.Operand → v.inside ≡ false → term_of pol ≡ Dup
    → TakesSign v to_sign.Dup (record { named = v.named; stage = stage.Behind pol true; levels = v.levels; inside = v.inside; chain = v.chain })
takes-dup v pol e outside is =
    takes-atom v to_sign.Dup pol Dup (λ z. cc) e (λ z. cc) (λ z. cc) (λ i k. outside-operand i v.inside pol Dup outside k is) (λ d s. dup-leaf d v.inside s outside)

pub takes-name : (v : View) (f : Field) → v.stage ≡ stage.Operand
    → TakesSign v (to_sign.Name f) (record { named = v.named; stage = stage.Relation f; levels = v.levels; inside = v.inside; chain = v.chain })
takes-name v f e = (
  λ z. cc,
  λ x h.
      let ph = stage-at v x stage.Operand h e in (
        record { phase = Relation f; frames = x.frames; summands = x.summands; factors = x.factors },
        record { stage = refl; levels = h.levels; inside = h.inside; chain = h.chain },
        λ text o e' k.
            let s = spot text v.named in
            comes-in x Operand s o ph
            (at-leaf x.frames x.summands x.factors s o k.0 (λ z. let clash = sym e' ∙ z.0 in cc) (λ z. let clash = sym e' ∙ z.0 in cc)
            (subst (λ q. IsLeaf (depth_of x.frames) (is_inside x.frames) s q k.0) (sym e') k.1) k.2),
      ),
)

leaf-stray : (d : ℕ) (i : Bool) (s : Spot) (g : Sign) → g ≢ to_sign.Skip → g ≢ to_sign.Drop → g ≢ to_sign.Dup → ((f : Field) → g ≢ to_sign.Name f)
    → IsLeaf d i s g (strays d s)
leaf-stray d i s to_sign.Skip a b c n = absurd (a refl)
leaf-stray d i s to_sign.Drop a b c n = absurd (b refl)
leaf-stray d false s to_sign.Dup a b c n = absurd (c refl)
leaf-stray d true s to_sign.Dup a b c n = absurd (c refl)
leaf-stray d i s (to_sign.Name f) a b c n = absurd (n f refl)
leaf-stray d i s g a b c n = refl

pub stops-operand : (v : View) (g : Sign) → v.stage ≡ stage.Operand → g ≢ to_sign.Skip → g ≢ to_sign.Drop → g ≢ to_sign.Dup → ((f : Field) → g ≢ to_sign.Name f)
    → ((g ≡ to_sign.Open) → 200 ≤ length v.levels) → ((g ≡ to_sign.Not) → 200 ≤ length v.levels) → StopsAt v g (stray (length v.levels) g)
stops-operand v g e a b c n op nt = λ x h text e' r.
    let s = spot text v.named in
    let d = depth_of x.frames in
    let dl = depth-levels v.levels x.frames h.levels in
    let f = stray (length v.levels) g in
    let same : Bad f text ≡ strays {A = Term} d s = ap (λ k. bad (stray k g) text) (sym dl) ∙ ap (λ k. bad (stray d k) text) (sym e') in
    let not_not : ¬ (Opens to_sign.Not d s) = λ z. let lt = z.1 in let le = nt (sym e' ∙ z.0) in absurd (omega (arith, dl)) in
    let not_open : ¬ (Opens to_sign.Open d s) = λ z. let lt = z.1 in let le = op (sym e' ∙ z.0) in absurd (omega (arith, dl)) in
    comes-in x Operand s (Bad f text) (stage-at v x stage.Operand h e)
    (at-leaf x.frames x.summands x.factors s (Bad f text) (Bad f text) not_not not_open
    (subst (λ q. IsLeaf d (is_inside x.frames) s q (Bad f text)) (sym e')
    (subst (λ q. IsLeaf d (is_inside x.frames) s g q) (sym same) (leaf-stray d (is_inside x.frames) s g a b c n)))
    (leads-bad x.frames x.summands x.factors f text))

pub stops-deep : (v : View) (g : Sign) (f : TextFault) → v.stage ≡ stage.Operand → 200 ≤ length v.levels → (g ≡ to_sign.Open) ⊎ (g ≡ to_sign.Not) → f ≡ stray (length v.levels) g
    → StopsAt v g f
stops-deep v g f e deep (inl k) is =
    subst (StopsAt v g) (sym is) (stops-operand v g e (λ z. let clash = sym k ∙ z in cc) (λ z. let clash = sym k ∙ z in cc) (λ z. let clash = sym k ∙ z in cc) (λ f z. let clash = sym k ∙ z in cc)
    (λ z. deep) (λ z. deep))
stops-deep v g f e deep (inr k) is =
    subst (StopsAt v g) (sym is) (stops-operand v g e (λ z. let clash = sym k ∙ z in cc) (λ z. let clash = sym k ∙ z in cc) (λ z. let clash = sym k ∙ z in cc) (λ f z. let clash = sym k ∙ z in cc)
    (λ z. deep) (λ z. deep))

deep-true : (n : ℕ) → 200 ≤ n → nat_le 200 n ≡ true
deep-true n h = le-leb 200 n h

pub stray-open : (n : ℕ) → 200 ≤ n → fault.TooDeep ≡ stray n to_sign.Open
stray-open n h = sym (rw (deep-true n h) refl)

pub stray-not : (n : ℕ) → 200 ≤ n → fault.TooDeep ≡ stray n to_sign.Not
stray-not n h = sym (rw (deep-true n h) refl)

pub stops-dup : (v : View) → v.stage ≡ stage.Operand → v.inside ≡ true → StopsAt v to_sign.Dup fault.NotPredicate
stops-dup v e inside = λ x h text e' r.
    let s = spot text v.named in
    let o = bad fault.NotPredicate text in
    comes-in x Operand s o (stage-at v x stage.Operand h e)
    (at-leaf x.frames x.summands x.factors s o o (λ z. let clash = sym e' ∙ z.0 in cc) (λ z. let clash = sym e' ∙ z.0 in cc)
    (subst (λ q. IsLeaf (depth_of x.frames) (is_inside x.frames) s q o) (sym e')
    (subst (λ i. IsLeaf (depth_of x.frames) i s to_sign.Dup o) (sym inside ∙ h.inside) refl))
    (leads-bad x.frames x.summands x.factors fault.NotPredicate text))

pub takes-open : (v : View) (none : Chain) → v.stage ≡ stage.Operand → length v.levels < 200 → AreChain v.inside none [] []
    → TakesSign v to_sign.Open (record { named = v.named; stage = v.stage; levels = level.Bracket v.chain ∷ v.levels; inside = v.inside; chain = none })
takes-open v none e lt empty = (
  λ z. cc,
  λ x h.
      let dl = depth-levels v.levels x.frames h.levels in (
        record { phase = Operand; frames = Bracketed x.summands x.factors ∷ x.frames; summands = []; factors = [] },
        record { stage = still-operand (is_inside x.frames) v.stage e; levels = (h.chain, h.levels); inside = h.inside; chain = subst (λ i. AreChain i none [] []) h.inside empty },
        λ text o e' k. comes-in x Operand (spot text v.named) o (stage-at v x stage.Operand h e)
            (at-open x.frames x.summands x.factors (spot text v.named) o (e', omega (arith, dl)) k),
      ),
)

pub takes-not : (v : View) → v.stage ≡ stage.Operand → length v.levels < 200
    → TakesSign v to_sign.Not (record { named = v.named; stage = v.stage; levels = level.Not v.inside ∷ v.levels; inside = true; chain = v.chain })
takes-not v e lt = (
  λ z. cc,
  λ x h.
      let dl = depth-levels v.levels x.frames h.levels in (
        record { phase = Operand; frames = Negated ∷ x.frames; summands = x.summands; factors = x.factors },
        record { stage = still-operand true v.stage e; levels = (h.inside, h.levels); inside = refl; chain = h.chain },
        λ text o e' k. comes-in x Operand (spot text v.named) o (stage-at v x stage.Operand h e)
            (at-not x.frames x.summands x.factors (spot text v.named) o (e', omega (arith, dl)) k),
      ),
)

-- ---- after a field's name

may : (i : Bool) → MayStand i operator.Test
may true = tt
may false = tt

pub takes-equals : (v : View) (f : Field) → v.stage ≡ stage.Relation f
    → TakesSign v to_sign.Equals (record { named = v.named; stage = stage.Number f operator.Test; levels = v.levels; inside = v.inside; chain = v.chain })
takes-equals v f e = (
  λ z. cc,
  λ x h. (
    record { phase = Number f operator.Test; frames = x.frames; summands = x.summands; factors = x.factors },
    record { stage = (refl, may (is_inside x.frames)); levels = h.levels; inside = h.inside; chain = h.chain },
    λ text o e' k.
        let s = spot text v.named in
        comes-in x (Relation f) s o (stage-at v x (stage.Relation f) h e)
        (k.0, subst (λ q. IsPair (depth_of x.frames) (is_inside x.frames) f s q k.0) (sym e') k.1, k.2),
  ),
)

pub takes-becomes : (v : View) (f : Field) → v.stage ≡ stage.Relation f → v.inside ≡ false
    → TakesSign v to_sign.Becomes (record { named = v.named; stage = stage.Number f operator.Assign; levels = v.levels; inside = v.inside; chain = v.chain })
takes-becomes v f e outside = (
  λ z. cc,
  λ x h.
      let out : false ≡ is_inside x.frames = sym outside ∙ h.inside in (
        record { phase = Number f operator.Assign; frames = x.frames; summands = x.summands; factors = x.factors },
        record { stage = (refl, subst (λ i. MayStand i operator.Assign) out tt); levels = h.levels; inside = h.inside; chain = h.chain },
        λ text o e' k.
            let s = spot text v.named in
            comes-in x (Relation f) s o (stage-at v x (stage.Relation f) h e) (
              k.0,
              subst (λ q. IsPair (depth_of x.frames) (is_inside x.frames) f s q k.0) (sym e')
                  (subst (λ i. IsPair (depth_of x.frames) i f s to_sign.Becomes k.0) out k.1),
              k.2,
            ),
      ),
)

pair-stray : (d : ℕ) (i : Bool) (f : Field) (s : Spot) (g : Sign) → g ≢ to_sign.Equals → g ≢ to_sign.Becomes → IsPair d i f s g (strays d s)
pair-stray d false f s to_sign.Equals a b = absurd (a refl)
pair-stray d true f s to_sign.Equals a b = absurd (a refl)
pair-stray d false f s to_sign.Becomes a b = absurd (b refl)
pair-stray d true f s to_sign.Becomes a b = absurd (b refl)
pair-stray d false f s g a b = refl
pair-stray d true f s g a b = refl

pub stops-relation : (v : View) (f : Field) (g : Sign) → v.stage ≡ stage.Relation f → g ≢ to_sign.Equals → g ≢ to_sign.Becomes → StopsAt v g (stray (length v.levels) g)
stops-relation v f g e a b = λ x h text e' r.
    let s = spot text v.named in
    let d = depth_of x.frames in
    let dl = depth-levels v.levels x.frames h.levels in
    let o = bad (stray (length v.levels) g) text in
    let same : o ≡ strays {A = Term} d s = ap (λ k. bad (stray k g) text) (sym dl) ∙ ap (λ k. bad (stray d k) text) (sym e') in
    comes-in x (Relation f) s o (stage-at v x (stage.Relation f) h e) (
      o,
      subst (λ q. IsPair d (is_inside x.frames) f s q o) (sym e')
          (subst (λ q. IsPair d (is_inside x.frames) f s g q) (sym same) (pair-stray d (is_inside x.frames) f s g a b)),
      leads-bad x.frames x.summands x.factors (stray (length v.levels) g) text,
    )

pub stops-becomes : (v : View) (f : Field) → v.stage ≡ stage.Relation f → v.inside ≡ true → StopsAt v to_sign.Becomes fault.NotPredicate
stops-becomes v f e inside = λ x h text e' r.
    let s = spot text v.named in
    let d = depth_of x.frames in
    let o = bad fault.NotPredicate text in
    comes-in x (Relation f) s o (stage-at v x (stage.Relation f) h e) (
      o,
      subst (λ q. IsPair d (is_inside x.frames) f s q o) (sym e')
          (subst (λ i. IsPair d i f s to_sign.Becomes o) (sym inside ∙ h.inside) refl),
      leads-bad x.frames x.summands x.factors fault.NotPredicate text,
    )

-- ---- where a value is to come

pub stops-number : (v : View) (f : Field) (op : Operator) (g : Sign) → v.stage ≡ stage.Number f op → StopsAt v g (stray (length v.levels) g)
stops-number v f op g e = λ x h text e' r.
    let s = spot text v.named in
    let d = depth_of x.frames in
    let dl = depth-levels v.levels x.frames h.levels in
    let o = bad (stray (length v.levels) g) text in
    let same : o ≡ strays {A = Term} d s = ap (λ k. bad (stray k g) text) (sym dl) ∙ ap (λ k. bad (stray d k) text) (sym e') in
    let none : run text ≡ [] = subst (λ st. HasNoRun st text) e r in
    comes-in x (Number f op) s o (stage-at v x (stage.Number f op) h e).0
    (o, subst (λ q. IsRun d f (made op f) s q o) (sym none) same, leads-bad x.frames x.summands x.factors (stray (length v.levels) g) text)

-- ---- after an operand

-- no `not` ends in front of the sign
goes-chain : (ls : List Level) (fs : List Frame) (g : Sign) → AreLevels ls fs → GoesOn ls g → IsChain fs × ((fs ≡ []) → g ≢ to_sign.End) × ((fs ≢ []) → g ≢ to_sign.Close)
goes-chain [] [] g h k = (tt, λ e. k, λ ne. absurd (ne refl))
goes-chain [] (f ∷ fs) g h k = absurd h
goes-chain (level.Not was ∷ ls) fs g h k = absurd k
goes-chain (level.Bracket c ∷ ls) [] g h k = absurd h
goes-chain (level.Bracket c ∷ ls) (Negated ∷ fs) g h k = absurd h
goes-chain (level.Bracket c ∷ ls) (Bracketed ss qs ∷ fs) g h k = (tt, λ e. let e' = e in cc, λ ne. k)

-- outside of nots the operand is of the innermost bracket
based-inside : (fs : List Frame) → IsChain fs → is_inside fs ≡ is_based fs
based-inside [] c = refl
based-inside (Negated ∷ fs) c = absurd c
based-inside (Bracketed ss qs ∷ fs) c = refl

-- an operand at which no star stands
past-star : (p : Term) (atom : Bool) (fs : List Frame) (ss qs : List Term) (s : Spot) (o : Got Term) → ((atom ≡ true) → sign s.text ≢ to_sign.Star)
    → Leads fs ss qs (Read p s) o → ComesIn (Behind p atom) fs ss qs s o
past-star p true fs ss qs s o ne h = no-star fs ss qs s o p (ne refl) h
past-star p false fs ss qs s o ne h = h

pub takes-semicolon : (v : View) (pol : Pol) (atom : Bool) (new : Chain) → v.stage ≡ stage.Behind pol atom → GoesOn v.levels to_sign.Semicolon
    → ((i : Bool) (ss qs : List Term) (p : Term) → AreChain i v.chain ss qs → IsOperand i pol p → AreChain i new ss (qs ++ p ∷ []))
    → TakesSign v to_sign.Semicolon (record { named = v.named; stage = stage.Operand; levels = v.levels; inside = v.inside; chain = new })
takes-semicolon v pol atom new e goes grows = (
  λ z. cc,
  λ x h.
      let st = stage-at v x (stage.Behind pol atom) h e in
      let p = st.0 in
      let chain = goes-chain v.levels x.frames to_sign.Semicolon h.levels goes in
      let op : IsOperand (is_based x.frames) pol p = subst (λ i. IsOperand i pol p) (based-inside x.frames chain.0) st.1 in (
        record { phase = Operand; frames = x.frames; summands = x.summands; factors = x.factors ++ p ∷ [] },
        record { stage = refl; levels = h.levels; inside = h.inside; chain = grows (is_based x.frames) x.summands x.factors p h.chain op },
        λ text o e' k. comes-in x (Behind p atom) (spot text v.named) o st.2
            (past-star p atom x.frames x.summands x.factors (spot text v.named) o (λ z y. let clash = sym e' ∙ y in cc)
            (at-semicolon x.summands x.factors p (spot text v.named) o x.frames chain.0 e' k)),
      ),
)

pub takes-plus : (v : View) (pol : Pol) (atom : Bool) (new : Chain) → v.stage ≡ stage.Behind pol atom → GoesOn v.levels to_sign.Plus
    → ((i : Bool) (ss qs : List Term) (p : Term) → AreChain i v.chain ss qs → IsOperand i pol p → AreChain i new (ss ++ seq_of (qs ++ p ∷ []) ∷ []) [])
    → TakesSign v to_sign.Plus (record { named = v.named; stage = stage.Operand; levels = v.levels; inside = v.inside; chain = new })
takes-plus v pol atom new e goes grows = (
  λ z. cc,
  λ x h.
      let st = stage-at v x (stage.Behind pol atom) h e in
      let p = st.0 in
      let chain = goes-chain v.levels x.frames to_sign.Plus h.levels goes in
      let op : IsOperand (is_based x.frames) pol p = subst (λ i. IsOperand i pol p) (based-inside x.frames chain.0) st.1 in (
        record { phase = Operand; frames = x.frames; summands = x.summands ++ seq_of (x.factors ++ p ∷ []) ∷ []; factors = [] },
        record { stage = refl; levels = h.levels; inside = h.inside; chain = grows (is_based x.frames) x.summands x.factors p h.chain op },
        λ text o e' k. comes-in x (Behind p atom) (spot text v.named) o st.2
            (past-star p atom x.frames x.summands x.factors (spot text v.named) o (λ z y. let clash = sym e' ∙ y in cc)
            (at-plus x.summands x.factors p (spot text v.named) o x.frames chain.0 e' k)),
      ),
)

pub stops-chained : (v : View) (pol : Pol) (atom : Bool) (g : Sign) → v.stage ≡ stage.Behind pol atom → GoesOn v.levels g → ((atom ≡ true) → g ≢ to_sign.Star)
    → g ≢ to_sign.Semicolon → g ≢ to_sign.Plus → StopsAt v g (stray (length v.levels) g)
stops-chained v pol atom g e goes star ne nf = λ x h text e' r.
    let s = spot text v.named in
    let d = depth_of x.frames in
    let st = stage-at v x (stage.Behind pol atom) h e in
    let p = st.0 in
    let dl = depth-levels v.levels x.frames h.levels in
    let chain = goes-chain v.levels x.frames g h.levels goes in
    let o = bad (stray (length v.levels) g) text in
    let same : bad (stray d (sign text)) text ≡ o = ap (λ k. bad (stray d k) text) e' ∙ ap (λ k. bad (stray k g) text) dl in
    comes-in x (Behind p atom) s o st.2
    (past-star p atom x.frames x.summands x.factors s o (λ z y. star z (sym e' ∙ y))
    (subst (λ q. Leads x.frames x.summands x.factors (Read p s) q) same
    (at-stray x.summands x.factors p s x.frames chain.0 (λ y. ne (sym e' ∙ y)) (λ y. nf (sym e' ∙ y)) (λ z y. chain.1 z (sym e' ∙ y)) (λ z y. chain.2 z (sym e' ∙ y)))))

module _ (v : View) (pol closed : Pol) (atom : Bool) (outer : Chain) (ls : List Level)
    (grows : (i : Bool) (ss qs : List Term) (p : Term) → AreChain i v.chain ss qs → IsOperand i pol p → IsOperand i closed (sum_of (ss ++ seq_of (qs ++ p ∷ []) ∷ []))) where
  closes-bracket : (fs : List Frame) (ss qs : List Term) (ph : Phase) → IsStage (is_inside fs) (stage.Behind pol atom) ph → AreLevels (level.Bracket outer ∷ ls) fs
      → v.inside ≡ is_inside fs → AreChain (is_based fs) v.chain ss qs
      → (y : Reach) × Shows (record { named = v.named; stage = stage.Behind closed true; levels = ls; inside = v.inside; chain = outer }) y
      × ((text : List ℕ) (o : Got Term) → sign text ≡ to_sign.Close → Comes y (spot (past text) v.named) o → ComesIn ph fs ss qs (spot text v.named) o)
  closes-bracket [] ss qs ph st l i c = absurd l
  closes-bracket (Negated ∷ fs) ss qs ph st l i c = absurd l
  closes-bracket (Bracketed ss' qs' ∷ fs) ss qs ph st l i c =
      let p = st.0 in
      let w = sum_of (ss ++ seq_of (qs ++ p ∷ []) ∷ []) in (
        record { phase = Behind w true; frames = fs; summands = ss'; factors = qs' },
        record { stage = (w, grows (is_inside fs) ss qs p c st.1, refl); levels = l.1; inside = i; chain = l.0 },
        λ text o e' k. subst (λ q. ComesIn q (Bracketed ss' qs' ∷ fs) ss qs (spot text v.named) o) (sym st.2)
            (past-star p atom (Bracketed ss' qs' ∷ fs) ss qs (spot text v.named) o (λ z y. let clash = sym e' ∙ y in cc)
            (at-close ss qs p (spot text v.named) o ss' qs' fs e' k)),
      )

pub takes-close : (v : View) (pol closed : Pol) (atom : Bool) (outer : Chain) (ls : List Level) → v.stage ≡ stage.Behind pol atom → v.levels ≡ level.Bracket outer ∷ ls
    → ((i : Bool) (ss qs : List Term) (p : Term) → AreChain i v.chain ss qs → IsOperand i pol p → IsOperand i closed (sum_of (ss ++ seq_of (qs ++ p ∷ []) ∷ [])))
    → TakesSign v to_sign.Close (record { named = v.named; stage = stage.Behind closed true; levels = ls; inside = v.inside; chain = outer })
takes-close v pol closed atom outer ls e l grows = (
  λ z. cc,
  λ x h.
      let st = stage-at v x (stage.Behind pol atom) h e in
      closes-bracket v pol closed atom outer ls grows x.frames x.summands x.factors x.phase st (subst (λ k. AreLevels k x.frames) l h.levels) h.inside h.chain,
)

negated-operand : (i : Bool) (pol : Pol) (p : Term) → term_of pol ≡ Filter (to.Not (taken p)) → IsOperand i pol (negated p)
negated-operand false pol p e = e
negated-operand true pol p e = e

module _ (v : View) (pol neg : Pol) (atom was : Bool) (ls : List Level) (g : Sign)
    (makes : (a : Guard) → term_of pol ≡ Filter a → term_of neg ≡ Filter (to.Not a)) (star : (atom ≡ true) → g ≢ to_sign.Star) where
  closes-not : (fs : List Frame) (ss qs : List Term) (ph : Phase) → IsStage (is_inside fs) (stage.Behind pol atom) ph → AreLevels (level.Not was ∷ ls) fs
      → AreChain (is_based fs) v.chain ss qs
      → (y : Reach) × Shows (record { named = v.named; stage = stage.Behind neg false; levels = ls; inside = was; chain = v.chain }) y
      × ((text : List ℕ) (o : Got Term) → sign text ≡ g → Comes y (spot text v.named) o → ComesIn ph fs ss qs (spot text v.named) o)
  closes-not [] ss qs ph st l c = absurd l
  closes-not (Bracketed ss' qs' ∷ fs) ss qs ph st l c = absurd l
  closes-not (Negated ∷ fs) ss qs ph st l c =
      let p = st.0 in (
        record { phase = Behind (negated p) false; frames = fs; summands = ss; factors = qs },
        record { stage = (negated p, negated-operand (is_inside fs) neg p (makes (taken p) st.1), refl); levels = l.1; inside = l.0; chain = c },
        λ text o e' k. subst (λ q. ComesIn q (Negated ∷ fs) ss qs (spot text v.named) o) (sym st.2)
            (past-star p atom (Negated ∷ fs) ss qs (spot text v.named) o (λ z y. star z (sym e' ∙ y)) k),
      )

fewer : (old new : List Level) (x : Level) → old ≡ x ∷ new → length new + 1 ≡ length old
fewer old new x e = let h = ap length e in omega arith

pub ends-not : (v : View) (pol neg : Pol) (atom was : Bool) (ls : List Level) (g : Sign) → v.stage ≡ stage.Behind pol atom → v.levels ≡ level.Not was ∷ ls
    → ((a : Guard) → term_of pol ≡ Filter a → term_of neg ≡ Filter (to.Not a)) → ((atom ≡ true) → g ≢ to_sign.Star)
    → EndsNot v g (record { named = v.named; stage = stage.Behind neg false; levels = ls; inside = was; chain = v.chain })
ends-not v pol neg atom was ls g e l makes star = (
  fewer v.levels ls (level.Not was) l,
  λ text r. tt,
  λ x h.
      let st = stage-at v x (stage.Behind pol atom) h e in
      closes-not v pol neg atom was ls g makes star x.frames x.summands x.factors x.phase st (subst (λ k. AreLevels k x.frames) l h.levels) h.chain,
)

pub takes-star : (v : View) (pol star : Pol) → v.stage ≡ stage.Behind pol true → v.inside ≡ false → ((p : Term) → term_of pol ≡ p → term_of star ≡ to.Star p)
    → TakesSign v to_sign.Star (record { named = v.named; stage = stage.Behind star false; levels = v.levels; inside = v.inside; chain = v.chain })
takes-star v pol star e outside makes = (
  λ z. cc,
  λ x h.
      let st = stage-at v x (stage.Behind pol true) h e in
      let p = st.0 in
      let out : is_inside x.frames ≡ false = sym h.inside ∙ outside in
      let op : term_of pol ≡ p = subst (λ i. IsOperand i pol p) out st.1 in (
        record { phase = Behind (to.Star p) false; frames = x.frames; summands = x.summands; factors = x.factors },
        record { stage = (to.Star p, outside-operand (is_inside x.frames) (is_inside x.frames) star (to.Star p) out refl (makes p op), refl); levels = h.levels; inside = h.inside; chain = h.chain },
        λ text o e' k. comes-in x (Behind p true) (spot text v.named) o st.2 (at-star x.frames x.summands x.factors (spot text v.named) o p out e' k),
      ),
)

pub stops-star : (v : View) (pol : Pol) → v.stage ≡ stage.Behind pol true → v.inside ≡ true → StopsAt v to_sign.Star fault.NotPredicate
stops-star v pol e inside = λ x h text e' r.
    let s = spot text v.named in
    let st = stage-at v x (stage.Behind pol true) h e in
    let p = st.0 in
    let o = bad fault.NotPredicate text in
    comes-in x (Behind p true) s o st.2
    (subst (λ q. Leads x.frames x.summands x.factors q o) (sym (ap (λ g. starred_by (is_inside x.frames) p s g) e' ∙ ap (λ b. starred_by b p s to_sign.Star) (sym h.inside ∙ inside)))
    (leads-bad x.frames x.summands x.factors fault.NotPredicate text))

-- a `not` that could not end
module _ (v : View) (pol pol' : Pol) (atom was : Bool) (ls : List Level) (makes : (a : Guard) → term_of pol ≡ Filter a → term_of pol' ≡ Filter a) where
  keeps-stage : (fs : List Frame) (ph : Phase) → AreLevels (level.Not was ∷ ls) fs → IsStage (is_inside fs) (stage.Behind pol atom) ph → IsStage (is_inside fs) (stage.Behind pol' atom) ph
  keeps-stage [] ph l st = absurd l
  keeps-stage (Bracketed ss qs ∷ fs) ph l st = absurd l
  keeps-stage (Negated ∷ fs) ph l st = (st.0, makes (taken st.0) st.1, st.2)

  pub keeps-not : (x : Reach) → v.stage ≡ stage.Behind pol atom → v.levels ≡ level.Not was ∷ ls → Shows v x
      → Shows (record { named = v.named; stage = stage.Behind pol' atom; levels = v.levels; inside = v.inside; chain = v.chain }) x
  keeps-not x e l h = record {
    stage = keeps-stage x.frames x.phase (subst (λ k. AreLevels k x.frames) l h.levels) (stage-at v x (stage.Behind pol atom) h e);
    levels = h.levels;
    inside = h.inside;
    chain = h.chain;
  }

-- a move from a state that shows as much
module _ (v : View) (ls : List Level) (c : Chain) (l : v.levels ≡ ls) (same : (i : Bool) (ss qs : List Term) → AreChain i v.chain ss qs → AreChain i c ss qs) where
  pub also-shows : (x : Reach) → Shows v x → Shows (record { named = v.named; stage = v.stage; levels = ls; inside = v.inside; chain = c }) x
  also-shows x h = record {
    stage = h.stage;
    levels = subst (λ k. AreLevels k x.frames) l h.levels;
    inside = h.inside;
    chain = same (is_based x.frames) x.summands x.factors h.chain;
  }

  pub moves-from : (g : Sign) (new : View) (r : Result Bool Halt) → Moves (record { named = v.named; stage = v.stage; levels = ls; inside = v.inside; chain = c }) g new r → Moves v g new r
  moves-from g new (Ok true) m = (m.0, λ x h. m.1 x (also-shows x h))
  moves-from g new (Ok false) m = (m.0 ∙ ap length (sym l), m.1, λ x h. m.2 x (also-shows x h))
  moves-from g new (Err (halt.Fault f)) m = λ x h. m x (also-shows x h)
  moves-from g new (Err halt.Done) m = (m.0, (λ x h. m.1.0 x (also-shows x h), m.1.1), m.2)
  moves-from g new (Err halt.Memory) m = (λ x h. m.0 x (also-shows x h), m.1)

-- ---- values

number-bad : (f : Field) (make : ℕ → Term) (s : Spot) (n : Option ℕ) → IfSome n (λ k. ¬ (IsLiteralOf f k)) → IsNumber f make s n (Bad fault.ValueRange s.text)
number-bad f make s None h = refl
number-bad f make s (Some n) h = inr (h, refl)

run-bad : (d : ℕ) (f : Field) (make : ℕ → Term) (s : Spot) (r : List ℕ) → r ≢ [] → IfSome (number f r) (λ k. ¬ (IsLiteralOf f k)) → IsRun d f make s r (Bad fault.ValueRange s.text)
run-bad d f make s [] ne h = absurd (ne refl)
run-bad d f make s (b ∷ bs) ne h = number-bad f make s (number f (b ∷ bs)) h

not-zero : (n : ℕ) → n ≢ 0 → false ≡ (n == 0)
not-zero n ne = grind (arith, nat_tests)

some-length : (r : List ℕ) → r ≢ [] → length r ≢ 0
some-length [] ne = absurd (ne refl)
some-length (b ∷ bs) ne = λ e. absurd (omega arith)

filled : (r : List ℕ) → r ≢ [] → false ≡ (length r == 0)
filled r ne = not-zero (length r) (some-length r ne)

-- the fault of a run
stops-run : (v : View) (f : Field) (op : Operator) (bs : List ℕ) (e : TextFault) → v.stage ≡ stage.Number f op
    → ((d : ℕ) (text : List ℕ) → run text ≡ bs → IsRun d f (made op f) (spot text v.named) (run text) (Bad e text)) → StopsAtRun v bs e
stops-run v f op bs e is h = λ x k text r.
    comes-in x (Number f op) (spot text v.named) (bad e text) (stage-at v x (stage.Number f op) k is).0
    (bad e text, h (depth_of x.frames) text r, leads-bad x.frames x.summands x.factors e text)

pub stops-range : (v : View) (f : Field) (op : Operator) (bs : List ℕ) → v.stage ≡ stage.Number f op → bs ≢ [] → IfSome (number f bs) (λ k. ¬ (IsLiteralOf f k))
    → StopsAtRun v bs fault.ValueRange
stops-range v f op bs is ne h = stops-run v f op bs fault.ValueRange is
    (λ d text e. subst (λ r. IsRun d f (made op f) (spot text v.named) r (bad fault.ValueRange text)) (sym e) (run-bad d f (made op f) (spot text v.named) bs ne h))

pub stops-many : (v : View) (f g : Field) (n : ℕ) (op : Operator) (bs : List ℕ) (room : Bool) → v.stage ≡ stage.Number f op → bs ≢ [] → IsLiteralOf g n → (g ≡ f) × (number f bs ≡ Some n)
    → room ≡ false → room ≡ not (is_too_many v.named g n) → StopsAtRun v bs fault.TooManyValues
stops-many v f g n op bs room is ne lit w full is_room = stops-run v f op bs fault.TooManyValues is
    (λ d text e. value-bad d f g n text v.named bs room (made op f) (sym e) (filled bs ne) lit w full is_room)

number-operand : (i : Bool) (op : Operator) (f : Field) (n : ℕ) (pol : Pol) → MayStand i op → term_of pol ≡ made op f n → IsOperand i pol (made op f n)
number-operand false op f n pol m e = e
number-operand true operator.Test f n pol m e = e
number-operand true operator.Assign f n pol m e = absurd m

pub takes-number : (v : View) (f g : Field) (n : ℕ) (op : Operator) (bs : List ℕ) (room : Bool) (after : List (Field × ℕ)) (pol : Pol) → v.stage ≡ stage.Number f op → bs ≢ [] → IsLiteralOf g n
    → (g ≡ f) × (number f bs ≡ Some n) → room ≡ true → room ≡ not (is_too_many v.named g n) → after ≡ cond room (with_pair v.named g n) v.named → term_of pol ≡ made op g n
    → TakesNumber v bs (record { named = after; stage = stage.Behind pol true; levels = v.levels; inside = v.inside; chain = v.chain })
takes-number v f g n op bs room after pol is ne lit w fits is_room is_after is_pol = λ x h.
    let st = stage-at v x (stage.Number f op) h is in
    let p = made op f n in (
      record { phase = Behind p true; frames = x.frames; summands = x.summands; factors = x.factors },
      record { stage = (p, number-operand (is_inside x.frames) op f n pol st.1 (is_pol ∙ ap (λ q. made op q n) w.0), refl); levels = h.levels; inside = h.inside; chain = h.chain },
      λ text o e k. comes-in x (Number f op) (spot text v.named) o st.0 (
        Read p (spot (past_run text) after),
        value-read (depth_of x.frames) f g n text v.named after bs (past_run text) room (made op f) (sym e) refl (filled bs ne) lit w fits is_room is_after,
        k,
      ),
    )

-- ---- the whole text

module _ (v : View) (pol whole : Pol) (atom : Bool)
    (grows : (i : Bool) (ss qs : List Term) (p : Term) → AreChain i v.chain ss qs → IsOperand i pol p → IsOperand i whole (sum_of (ss ++ seq_of (qs ++ p ∷ []) ∷ []))) where
  gives : (fs : List Frame) (ss qs : List Term) (ph : Phase) → IsStage (is_inside fs) (stage.Behind pol atom) ph → AreLevels [] fs → AreChain (is_based fs) v.chain ss qs
      → (text : List ℕ) → sign text ≡ to_sign.End → ComesIn ph fs ss qs (spot text v.named) (Read (term_of whole) (spot text v.named))
  gives (f ∷ fs) ss qs ph st l c text e = absurd l
  gives [] ss qs ph st l c text e =
      let s = spot text v.named in
      let p = st.0 in
      subst (λ q. ComesIn q [] ss qs s (Read (term_of whole) s)) (sym st.2)
      (past-star p atom [] ss qs s (Read (term_of whole) s) (λ z y. let clash = sym e ∙ y in cc)
      (subst (λ w. Leads [] ss qs (Read p s) (Read w s)) (sym (grows false ss qs p c st.1)) (at-end ss qs p s e)))

  pub gives-whole : v.stage ≡ stage.Behind pol atom → v.levels ≡ [] → GivesWhole v (term_of whole)
  gives-whole e l = λ x h text k.
      gives x.frames x.summands x.factors x.phase (stage-at v x (stage.Behind pol atom) h e) (subst (λ q. AreLevels q x.frames) l h.levels) h.chain text k

-- ---- signs after nots that end

pub follows-none : (v : View) (g : Sign) → FollowsNots v g v
follows-none v g = (λ text r. r, λ x h. (x, h, λ text o e k. k))

pub follows-not : (old mid new : View) (g : Sign) → FollowsNots old g mid → EndsNot mid g new → FollowsNots old g new
follows-not old mid new g m k = (
  λ text r. k.1 text (m.0 text r),
  λ x h.
      let y = m.1 x h in
      let z = k.2 y.0 y.1 in
      (z.0, z.1, λ text o e q. y.2 text o e (z.2 text o e q)),
)

reaches-keeps : (old mid new : View) (g : Sign) → FollowsNots old g mid → KeepsView mid new → Reaches old g new
reaches-keeps old mid new g m k = λ x h.
    let y = m.1 x h in
    (y.0, k.0 y.0 y.1, λ text o e q. y.2 text o e (subst (λ n. Comes y.0 (spot text n) o) k.1 q))

pub takes-behind : (old mid new : View) (g : Sign) → FollowsNots old g mid → TakesSign mid g new → TakesSign old g new
takes-behind old mid new g m k = (
  k.0,
  λ x h.
      let y = m.1 x h in
      let z = k.1 y.0 y.1 in
      (z.0, z.1, λ text o e q. y.2 text o e (z.2 text o e q)),
)

pub stops-behind : (old mid : View) (g : Sign) (f : TextFault) → FollowsNots old g mid → StopsAt mid g f → StopsAt old g f
stops-behind old mid g f m k = λ x h text e r.
    let y = m.1 x h in
    y.2 text (bad f text) e (k y.0 y.1 text e (m.0 text r))

pub passes-on : (U : Type 0) (old mid new : View) (g : Sign) (h : Halt) → FollowsNots old g mid → Moves mid g new (Err h) → MovesOn {U = U} old g new (Err h)
passes-on U old mid new g (halt.Fault f) m k = stops-behind old mid g f m k
passes-on U old mid new g halt.Done m k = (k.0, reaches-keeps old mid new g m k.1, k.2)
passes-on U old mid new g halt.Memory m k = reaches-keeps old mid new g m k
