-- A pair of field and value is read at once.
use Rattle.std.proofs.Common.{◌≡◌, ◌≢◌, ℕ, ◌+◌, ◌≤◌, Bool, true, false, not, cond, zero, suc, ◌-◌, List, [], ◌∷◌, ◌++◌, length, reverse, take, drop, Option, None, Some, Ok, refl, sym, ap, ◌∙◌, subst, length-drop, arith, rules}
use Rattle.std.specs.Bool.{IsTrue}
use Rattle.std.specs.List.{slice_get}
use Rattle.std.proofs.lemmas.List.{drop-drop}
use Rattle.std.proofs.lemmas.Option.{slice_get-get_or}
use Rattle.indexmap.proofs.MapLemmas.{split_last}
use Rattle.nk_values.specs.declared.field.Field.{Field}
use Rattle.nk_values.specs.declared.lit.Lit.{Lit}
use Rattle.nk_values.specs.Lits.{lit_field, lit_value}
use Rattle.nk_syntax.specs.Views.{term_of}
use Rattle.nk_syntax.specs.declared.pol.Pol.{Pol}
use Rattle.netkat_parser.specs.declared.sign.Sign.{Sign}
use Rattle.netkat_parser.specs.declared.sign.Sign.TheVariants.{Name, Close, End}
use Rattle.netkat_parser.specs.declared.stage.Stage.TheVariants as stage
use Rattle.netkat_parser.specs.declared.stage.Operator.{Operator}
use Rattle.netkat_parser.specs.declared.stage.Operator.TheVariants as operator
use Rattle.netkat_parser.specs.declared.reading.Level.{Level}
use Rattle.netkat_parser.specs.declared.reading.Level.TheVariants as level
use Rattle.netkat_parser.specs.declared.pair.Pair.{Pair}
use Rattle.netkat_parser.specs.Numbers.{number, IsWritten}
use Rattle.netkat_parser.specs.Signs.{ahead, sign, past, run, past_run}
use Rattle.netkat_parser.specs.Grammar.{is_too_many, with_pair}
use Rattle.netkat_parser.specs.Answers.{spot}
use Rattle.netkat_parser.specs.Going.{made, Comes}
use Rattle.netkat_parser.specs.Cuts.{relation, IsSignAt, IsRunAt, IsSignAhead, IsValueAhead, IsPairAt}
use Rattle.netkat_parser.specs.Views.{View, TakesSign, TakesPair, GoesOn}
use Rattle.netkat_parser.specs.Standing.{Leaves, Steps}
use Rattle.netkat_parser.proofs.Cutting.{ahead-append, at-sign}
use Rattle.netkat_parser.proofs.Moving.{takes-name, takes-equals, takes-becomes, takes-number, levels-pop}

-- ---- after blanks and comments

any-rest : (rest : List ℕ) → false ≡ true → rest ≡ []
any-rest rest e = cc

stands : (text rest : List ℕ) (b : ℕ) → drop b text ≡ ahead false text → drop b text ≢ [] → ahead false (text ++ rest) ≡ drop b text ++ rest
stands text rest b d ne = ahead-append false text rest ∙ at-sign false text rest (λ z. ne (d ∙ z)) ∙ ap (λ w. w ++ rest) (sym d)

pub sign-ahead : (text : List ℕ) (g : Sign) (b n : ℕ) → b ≤ length text → drop b text ≡ ahead false text → IsSignAt (drop b text) false g n → IsSignAhead text g (b + n)
sign-ahead text g b n le d s =
    let ne : drop b text ≢ [] = λ z. let k = s.none z in cc in
    record {
      some = omega (arith, s.some ne);
      within = omega (arith, s.within, length-drop b text, le);
      is_sign = λ rest. ap sign (stands text rest b d ne) ∙ s.sign rest (any-rest rest);
      goes_on = λ rest. ap past (stands text rest b d ne) ∙ s.past rest (any-rest rest) ∙ ap (λ w. ahead false (w ++ rest)) (drop-drop n b text);
    }

no-value : (f : Field) (n m : ℕ) (text : List ℕ) → text ≡ [] → number f (take m text) ≢ Some n
no-value f n zero text e = λ h. let k = h in cc
no-value f n (suc m) text e = λ h. let k = rw e at h in cc

pub value-ahead : (f : Field) (text : List ℕ) (l : Lit) (b n : ℕ) → b ≤ length text → drop b text ≡ ahead false text → IsRunAt (drop b text) false n
    → IsWritten f (take n (drop b text)) (Some l) → IsValueAhead f text l (b + n)
value-ahead f text l b n le d s w =
    let ne : drop b text ≢ [] = λ z. no-value f (lit_value l) n (drop b text) z w.1 in
    record {
      within = omega (arith, s.within, length-drop b text, le);
      value = take n (drop b text);
      written = w;
      is_run = λ rest. ap run (stands text rest b d ne) ∙ s.run rest (any-rest rest);
      goes_on = λ rest. ap past_run (stands text rest b d ne) ∙ s.past rest (any-rest rest) ∙ ap (λ w. ahead false (w ++ rest)) (drop-drop n b text);
    }

module _ (text : List ℕ) (f : Field) (op : Operator) (l : Lit) (n m k : ℕ) (name : IsSignAt text false (Name f) n) (mark : IsSignAhead (drop n text) (relation op) m)
    (value : IsValueAhead f (drop (n + m) text) l k) where
  past-name : (rest : List ℕ) → past (text ++ rest) ≡ ahead false (drop n text ++ rest)
  past-name rest = name.past rest (any-rest rest)

  past-mark : (rest : List ℕ) → past (past (text ++ rest)) ≡ ahead false (drop (n + m) text ++ rest)
  past-mark rest = ap past (past-name rest) ∙ mark.goes_on rest ∙ ap (λ w. ahead false (w ++ rest)) (drop-drop m n text)

  pub pair-parts : IsPairAt text (record { operator = op; lit = l; len = n + m + k })
  pair-parts = record {
    some = omega (arith, mark.some);
    within = omega (arith, name.within, mark.within, value.within, length-drop n text, length-drop (n + m) text);
    value = value.value;
    written = subst (λ g. number g value.value ≡ Some (lit_value l)) (sym value.written.0) value.written.1;
    is_name = λ rest. name.sign rest (any-rest rest) ∙ ap Name (sym value.written.0);
    is_relation = λ rest. ap sign (past-name rest) ∙ mark.is_sign rest;
    is_run = λ rest. ap run (past-mark rest) ∙ value.is_run rest;
    goes_on = λ rest. ap past_run (past-mark rest) ∙ value.goes_on rest ∙ ap (λ w. ahead false (w ++ rest)) (drop-drop k (n + m) text);
  }

-- ---- the pair is taken

takes-relation : (v : View) (f : Field) (op : Operator) → v.stage ≡ stage.Relation f → (op ≡ operator.Assign → v.inside ≡ false)
    → TakesSign v (relation op) (record { named = v.named; stage = stage.Number f op; levels = v.levels; inside = v.inside; chain = v.chain })
takes-relation v f operator.Test e out = takes-equals v f e
takes-relation v f operator.Assign e out = takes-becomes v f e (out refl)

some-run : (f : Field) (n : ℕ) (bs : List ℕ) → number f bs ≡ Some n → bs ≢ []
some-run f n [] h = λ e. let k = h in cc
some-run f n (b ∷ bs) h = λ e. cc

pub takes-pair : (v : View) (op : Operator) (l : Lit) (room : Bool) (after : List (Field × ℕ)) (pol : Pol) → v.stage ≡ stage.Operand → (op ≡ operator.Assign → v.inside ≡ false)
    → room ≡ true → room ≡ not (is_too_many v.named (lit_field l) (lit_value l)) → after ≡ cond room (with_pair v.named (lit_field l) (lit_value l)) v.named
    → term_of pol ≡ made op (lit_field l) (lit_value l)
    → TakesPair v op l (record { named = after; stage = stage.Behind pol true; levels = v.levels; inside = v.inside; chain = v.chain })
takes-pair v op l room after pol e out fits is_room is_after is_pol = λ bs w x h.
    let f = lit_field l in
    let n = lit_value l in
    let named : View = record { named = v.named; stage = stage.Relation f; levels = v.levels; inside = v.inside; chain = v.chain } in
    let related : View = record { named = v.named; stage = stage.Number f op; levels = v.levels; inside = v.inside; chain = v.chain } in
    let y = (takes-name v f e).1 x h in
    let z = (takes-relation named f op refl out).1 y.0 y.1 in
    let u = takes-number related f f n op bs room after pol refl (some-run f n bs w) l.literal (refl, w) fits is_room is_after is_pol z.0 z.1 in
    (u.0, u.1, λ text o is_name is_relation is_run k. y.2 text o is_name (z.2 (past text) o is_relation (u.2 (past (past text)) o is_run k)))

pub ahead-takes : (old new : View) (text : List ℕ) (end : Bool) (g : Sign) (n : ℕ) → IsSignAhead text g n → TakesSign old g new → Leaves old false text end new false (drop n text)
ahead-takes old new text end g n s t = λ x h.
    let y = t.1 x h in
    (y.0, y.1, λ rest o e k. y.2 (ahead false (text ++ rest)) o (s.is_sign rest) (subst (λ w. Comes y.0 (spot w new.named) o) (sym (s.goes_on rest)) k))

pub pair-steps : (old mid new : View) (text : List ℕ) (end : Bool) (pair : Pair) (m : ℕ) → IsPairAt text pair → TakesPair old pair.operator pair.lit mid
    → m ≤ length (drop pair.len text) → Leaves mid false (drop pair.len text) end new false (drop m (drop pair.len text)) → Steps old text end new (Ok (pair.len + m))
pair-steps old mid new text end pair m s t le more = (
  omega (arith, s.some),
  omega (arith, s.within, le, length-drop pair.len text),
  λ x h.
      let y = t s.value s.written x h in
      let z = more y.0 y.1 in (
        z.0,
        z.1,
        λ rest o e k. y.2 (text ++ rest) o (s.is_name rest) (s.is_relation rest) (s.is_run rest)
            (subst (λ w. Comes y.0 (spot w mid.named) o) (sym (s.goes_on rest))
            (z.2 rest o e (subst (λ w. Comes z.0 (spot (ahead false (w ++ rest)) new.named) o) (sym (drop-drop m pair.len text)) k))),
      ),
)

-- ---- what is open

pub goes-on : (ls : List Level) (o : Option Level) → slice_get ls (length ls - 1) ≡ o → ((was : Bool) → o ≢ Some (level.Not was))
    → (g : Sign) → g ≢ End → g ≢ Close → GoesOn (reverse ls) g
goes-on [] o e n g ne nc = ne
goes-on (l ∷ ls) None e n g ne nc = let k = slice_get-get_or (l ∷ ls) (length (l ∷ ls) - 1) l (omega arith) in let clash = sym k ∙ e in cc
goes-on (l ∷ ls) (Some (level.Not was)) e n g ne nc = absurd (n was refl)
goes-on (l ∷ ls) (Some (level.Bracket c)) e n g ne nc =
    let all = l ∷ ls in
    let parts = split_last all (level.Bracket c) e (omega arith) in
    subst (λ r. GoesOn r g) (sym (levels-pop all _ _ (level.Bracket c) parts refl)) nc

pub goes-where : (joins goes : Bool) → joins ≡ goes → joins ≡ true → IsTrue goes
goes-where joins goes e is = search rules
