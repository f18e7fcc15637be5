-- Reading goes on over a text that may go on.
use Rattle.std.proofs.Common.{◌≡◌, ◌≢◌, ℕ, ◌+◌, ◌<◌, ◌≤◌, Bool, true, false, List, [], ◌∷◌, ◌++◌, length, take, drop, Ok, Err, refl, sym, ap, ◌∙◌, subst, arith}
use Rattle.nk_values.specs.declared.field.Field.{Field}
use Rattle.netkat_parser.specs.declared.stage.Operator.{Operator}
use Rattle.nk_values.specs.declared.text_fault.TextFault.{TextFault}
use Rattle.netkat_parser.specs.declared.sign.Sign.{Sign}
use Rattle.netkat_parser.specs.declared.sign.Sign.TheVariants.{End}
use Rattle.netkat_parser.specs.declared.stage.Stage.{Stage}
use Rattle.netkat_parser.specs.declared.stage.Stage.TheVariants as stage
use Rattle.netkat_parser.specs.declared.reading.Halt.{Halt}
use Rattle.netkat_parser.specs.declared.reading.Halt.TheVariants as halt
use Rattle.netkat_parser.specs.declared.advance.Pause.{Pause}
use Rattle.netkat_parser.specs.declared.advance.Pause.TheVariants as pause
use Rattle.netkat_parser.specs.Signs.{sign, ahead}
use Rattle.netkat_parser.specs.Grammar.{Bad}
use Rattle.netkat_parser.specs.Answers.{spot}
use Rattle.netkat_parser.specs.Going.{Reach, Comes}
use Rattle.netkat_parser.specs.Cuts.{EndsAt, IsSignAt, IsRunAt, comment_behind}
use Rattle.netkat_parser.specs.Views.{View, Shows, HasNoRun, TakesSign, TakesNumber, TakesRun, MovesOn}
use Rattle.netkat_parser.specs.Standing.{Stays, TakesFront, StopsThere, Steps, Leaves, Advances}
use Rattle.netkat_parser.proofs.Cutting.{ahead-append, at-sign}
use Rattle.std.proofs.lemmas.List.{append-nil, drop-drop}

pub stays-same : (v : View) (text : List ℕ) (end : Bool) → Stays v text end v
stays-same v text end = λ x h. (x, h, λ rest o e k. k)

-- a text with a sign is some text
filled : (text : List ℕ) (end : Bool) (g : Sign) (n : ℕ) → IsSignAt text end g n → g ≢ End → text ≢ []
filled text end g n s ne e = ne (sym (s.sign [] (λ k. refl)) ∙ ap (λ t. sign (t ++ [])) e)

pub sign-takes : (old new : View) (text : List ℕ) (end : Bool) (g : Sign) (n : ℕ) → IsSignAt text end g n → TakesSign old g new → Steps old text end new (Ok n)
sign-takes old new text end g n s t = (
  s.some (filled text end g n s t.0),
  s.within,
  λ x h.
      let y = t.1 x h in
      (y.0, y.1, λ rest o e k. y.2 (text ++ rest) o (s.sign rest e) (subst (λ w. Comes y.0 (spot w new.named) o) (sym (s.past rest e)) k)),
)

pub sign-stops : (U : Type 0) (old new : View) (text : List ℕ) (end : Bool) (g : Sign) (n : ℕ) (h : Halt) → IsSignAt text end g n
    → ((rest : List ℕ) → EndsAt end rest → HasNoRun old.stage (text ++ rest)) → MovesOn {U = U} old g new (Err h) → Steps old text end new (Err (pause.Halt h))
sign-stops U old new text end g n (halt.Fault f) s r m = (s.none, λ x k rest e. m x k (text ++ rest) (s.sign rest e) (r rest e))
sign-stops U old new text end g n halt.Done s r m = (
  (λ x k.
      let y = m.1 x k in
      (y.0, y.1, λ rest o e q. y.2 (text ++ rest) o (s.sign rest e) q)),
  m.2,
  λ rest e. s.sign rest e ∙ m.0,
)
sign-stops U old new text end g n halt.Memory s r m = λ x k.
    let y = m x k in
    (y.0, y.1, λ rest o e q. y.2 (text ++ rest) o (s.sign rest e) q)

pub run-takes : (old new : View) (text : List ℕ) (end : Bool) (n : ℕ) → IsRunAt text end n → 0 < n → TakesNumber old (take n text) new → Steps old text end new (Ok n)
run-takes old new text end n s pos t = (
  pos,
  s.within,
  λ x h.
      let y = t x h in
      (y.0, y.1, λ rest o e k. y.2 (text ++ rest) o (s.run rest e) (subst (λ w. Comes y.0 (spot w new.named) o) (sym (s.past rest e)) k)),
)

pub run-stops : (U : Type 0) (old new : View) (text : List ℕ) (end : Bool) (n : ℕ) (h : Halt) → IsRunAt text end n → 0 < n → TakesRun {U = U} old (take n text) new (Err h)
    → Steps old text end new (Err (pause.Halt h))
run-stops U old new text end n (halt.Fault f) s pos m =
    ((λ e. let le = s.within in let z = ap length e in absurd (omega arith)), λ x k rest e. m x k (text ++ rest) (s.run rest e))
run-stops U old new text end n halt.Done s pos m = absurd m
run-stops U old new text end n halt.Memory s pos m = λ x h. (x, m.0 x h, λ rest o e k. subst (λ q. Comes x (spot (text ++ rest) q) o) m.1 k)

-- a value is awaited, and none stands there
pub no-run : (st : Stage) (f : Field) (op : Operator) (text : List ℕ) (end : Bool) (n : ℕ) → st ≡ stage.Number f op → n ≡ 0 → IsRunAt text end n
    → (rest : List ℕ) → EndsAt end rest → HasNoRun st (text ++ rest)
no-run st f op text end n is zero s rest e =
    subst (λ q. HasNoRun q (text ++ rest)) (sym is) (s.run rest e ∙ ap (λ k. take k text) zero)

-- no value is awaited
pub not-number : (st : Stage) → ((f : Field) (op : Operator) → st ≢ stage.Number f op) → (text : List ℕ) → HasNoRun st text
not-number (stage.Number f op) ne text = absurd (ne f op refl)
not-number st ne text = tt

-- ---- step by step

ahead-none : (d : Bool) → ahead d [] ≡ []
ahead-none true = refl
ahead-none false = refl

-- the text after blanks is as it stands, or nothing of it is left
settled : (c : Bool) (here rest : List ℕ) (end : Bool) → EndsAt end rest
    → (w : List ℕ) × EndsAt end w × (ahead c here ++ w ≡ ahead c (here ++ rest))
settled c here rest end e = settled-at (ahead c here) refl
  where
    settled-at : (t : List ℕ) → t ≡ ahead c here → (w : List ℕ) × EndsAt end w × (ahead c here ++ w ≡ ahead c (here ++ rest))
    settled-at [] k = (
      ahead (comment_behind c here) rest,
      (λ z. ap (ahead (comment_behind c here)) (e z) ∙ ahead-none (comment_behind c here)),
      ap (λ t. t ++ ahead (comment_behind c here) rest) (sym k) ∙ sym (ahead-append c here rest ∙ ap (λ t. ahead (comment_behind c here) (t ++ rest)) (sym k)),
    )
    settled-at (b ∷ bs) k =
        let ne : ahead c here ≢ [] = λ z. let clash = k ∙ z in cc in
        (rest, e, sym (ahead-append c here rest ∙ at-sign c here rest ne))

module _ (old mid : View) (c c' : Bool) (text here : List ℕ) (end : Bool) (before : Leaves old c text end mid c' here) where
  leaves-stays : (new : View) → Stays mid (ahead c' here) end new → Leaves old c text end new (comment_behind c' here) (ahead c' here)
  leaves-stays new s = λ x h.
      let y = before x h in
      let z = s y.0 y.1 in (
        z.0,
        z.1,
        λ rest o e k.
            let w = settled c' here rest end e in
            let same = w.2 ∙ ahead-append c' here rest in
            y.2 rest o e (subst (λ t. Comes y.0 (spot t mid.named) o) w.2 (z.2 w.0 o w.1 (subst (λ t. Comes z.0 (spot t new.named) o) (sym same) k))),
      )

  pub leaves-takes : (new : View) (n : ℕ) → 0 < n → n ≤ length (ahead c' here) → TakesFront mid (ahead c' here) end new n → Leaves old c text end new false (drop n (ahead c' here))
  leaves-takes new n pos le t = λ x h.
      let y = before x h in
      let z = t y.0 y.1 in
      let ne : ahead c' here ≢ [] = λ e. let k = ap length e in absurd (omega arith) in (
        z.0,
        z.1,
        λ rest o e k. y.2 rest o e
            (subst (λ t. Comes y.0 (spot t mid.named) o) (sym (ahead-append c' here rest ∙ at-sign c' here rest ne)) (z.2 rest o e k)),
      )

  stops-here : (f : TextFault) → (ahead c' here ≡ [] → end ≡ true) → StopsThere mid (ahead c' here) end f
      → (x : Reach) → Shows old x → (rest : List ℕ) → EndsAt end rest → Comes x (spot (ahead c (text ++ rest)) old.named) (Bad f (ahead c' here ++ rest))
  stops-here f none s x h rest e =
      let y = before x h in
      y.2 rest (Bad f (ahead c' here ++ rest)) e (stops-at (ahead c' here) refl y.0 y.1)
    where
      stops-at : (t : List ℕ) → t ≡ ahead c' here → (y : Reach) → Shows mid y → Comes y (spot (ahead c' (here ++ rest)) mid.named) (Bad f (ahead c' here ++ rest))
      stops-at [] k y g =
          let nil = e (none (sym k)) in
          let same : ahead c' here ++ rest ≡ ahead c' (here ++ rest) =
          ap (λ r. ahead c' here ++ r) nil ∙ append-nil (ahead c' here) ∙ ap (ahead c') (sym (append-nil here) ∙ ap (λ r. here ++ r) (sym nil)) in
          subst (λ t. Comes y (spot t mid.named) (Bad f (ahead c' here ++ rest))) same (s y g rest e)
      stops-at (b ∷ bs) k y g =
          let ne : ahead c' here ≢ [] = λ z. let clash = k ∙ z in cc in
          subst (λ t. Comes y (spot t mid.named) (Bad f (ahead c' here ++ rest))) (sym (ahead-append c' here rest ∙ at-sign c' here rest ne)) (s y g rest e)

  -- why reading does not go on, once this much of the text was read
  advances-at : (new : View) (n : ℕ) (p : Pause) → ahead c' here ≡ drop n text → Steps mid (ahead c' here) end new (Err p) → Advances old c text end new n (comment_behind c' here) p
  advances-at new n pause.Wait d s = (s.0, subst (Leaves old c text end new (comment_behind c' here)) d (leaves-stays new s.1))
  advances-at new n (pause.Halt halt.Memory) d s = subst (Leaves old c text end new (comment_behind c' here)) d (leaves-stays new s)
  advances-at new n (pause.Halt halt.Done) d s = (
    subst (Leaves old c text end new (comment_behind c' here)) d (leaves-stays new s.0),
    s.1,
    λ rest e.
        let w = settled c' here rest end e in
        ap sign (ap (λ t. ahead (comment_behind c' here) (t ++ rest)) (sym d) ∙ sym (w.2 ∙ ahead-append c' here rest)) ∙ s.2 w.0 w.1,
  )
  advances-at new n (pause.Halt (halt.Fault f)) d s = λ x h rest e.
      subst (λ t. Comes x (spot (ahead c (text ++ rest)) old.named) (Bad f (t ++ rest))) d (stops-here f s.0 s.1 x h rest e)

  pub advances : (new : View) (n : ℕ) (b : Bool) (p : Pause) → b ≡ comment_behind c' here → drop n text ≡ ahead c' here → Steps mid (drop n text) end new (Err p) → Advances old c text end new n b p
  advances new n b p is d s =
      subst (λ q. Advances old c text end new n q p) (sym is) (advances-at new n p (sym d) (subst (λ t. Steps mid t end new (Err p)) d s))

  pub takes-more : (new : View) (n m : ℕ) → drop n text ≡ ahead c' here → 0 < m → m ≤ length (drop n text) → TakesFront mid (drop n text) end new m
      → Leaves old c text end new false (drop (n + m) text)
  takes-more new n m d pos le t =
      let le' = subst (λ z. m ≤ length z) d le in
      subst (Leaves old c text end new false) (ap (drop m) (sym d) ∙ drop-drop m n text)
      (leaves-takes new m pos le' (subst (λ z. TakesFront mid z end new m) d t))
