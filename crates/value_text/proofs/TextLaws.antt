-- Texts one after another, from the front.
use Rattle.std.proofs.Common.{◌≡◌, ℕ, suc, ◌+◌, ◌<◌, List, [], ◌∷◌, ◌++◌, length, get_or, take, drop, refl, sym, ◌∙◌, ap, subst, append_assoc, append-nil, add-one, drop-cons, Result, Ok, Err, IfOk}
use Rattle.std.proofs.Math.Seq.{take-suc}
use Rattle.value_text.specs.Traces.{AddsText, AreTexts}

-- a clause from two
pub from_both : {T E : Type 0} (r : Result T E) (P Q R : T → Type 0) → ((x : T) → P x → Q x → R x) → IfOk r P → IfOk r Q → IfOk r R
from_both (Ok x) P Q R f p q = f x p q
from_both (Err e) P Q R f p q = tt

-- the element at k, and those after it
pub drop_next : {X : Type 0} (xs : List X) (k : ℕ) (x : X) → k < length xs → x ≡ get_or xs k x → drop k xs ≡ x ∷ drop (k + 1) xs
drop_next xs k x l e = rw (add-one, drop-cons xs k x) (ap (λ y. y ∷ drop (suc k) xs) (sym e))

-- the elements up to k, and the one at k
pub take_next : {X : Type 0} (xs : List X) (k : ℕ) (x : X) → k < length xs → x ≡ get_or xs k x → take (k + 1) xs ≡ take k xs ++ x ∷ []
take_next xs k x l e = rw (add-one, take-suc xs k x) (ap (λ y. take k xs ++ y ∷ []) (sym e))

-- a text so far: with texts of the elements left after it, it has those of all elements
abbrev pub IsFront : {X : Type 0} → (ℕ → X → List ℕ → Type 0) → List X → List X → ℕ → List ℕ → Type 0
IsFront P xs left k text = (more : List ℕ) → AreTexts P k left more → AreTexts P 0 xs (text ++ more)

pub no_text : {X : Type 0} (P : ℕ → X → List ℕ → Type 0) (xs : List X) (old : List ℕ) → AddsText (IsFront P xs xs 0) old old
no_text P xs old = record { text = []; is = λ more m. m; all = sym (append-nil old) }

-- one more text
pub next_text : {X : Type 0} (P : ℕ → X → List ℕ → Type 0) (xs left tail : List X) (k : ℕ) (x : X) (old now new : List ℕ) →
    left ≡ x ∷ tail → AddsText (IsFront P xs left k) old now → AddsText (P (k + 1) x) now new → AddsText (IsFront P xs tail (k + 1)) old new
next_text P xs left tail k x old now new e a b = record {
  text = a.text ++ b.text;
  is = λ more m. subst (λ t. AreTexts P 0 xs t) (sym (append_assoc a.text b.text more))
      (a.is (b.text ++ more) (subst (λ ys. AreTexts P k ys (b.text ++ more)) (sym e) (b.text, more, b.is, m, refl)));
  all = b.all ∙ ap (λ t. t ++ b.text) a.all ∙ append_assoc old a.text b.text;
}

-- and no more
pub last_text : {X : Type 0} (P : ℕ → X → List ℕ → Type 0) (xs left : List X) (k : ℕ) (old now : List ℕ) → left ≡ [] →
    AddsText (IsFront P xs left k) old now → AddsText (AreTexts P 0 xs) old now
last_text P xs left k old now e a = record {
  text = a.text;
  is = subst (λ t. AreTexts P 0 xs t) (append-nil a.text) (a.is [] (subst (λ ys. AreTexts P k ys []) (sym e) refl));
  all = a.all;
}

-- a text after nothing
pub whole_text : (IsText : List ℕ → Type 0) (new : List ℕ) → AddsText IsText [] new → IsText new
whole_text IsText new a = subst IsText (sym a.all) a.is

-- the text after is also of another kind
pub of_kind : (P Q : List ℕ → Type 0) (old new : List ℕ) → ((t : List ℕ) → P t → Q t) → AddsText P old new → AddsText Q old new
of_kind P Q old new f a = record { text = a.text; is = f a.text a.is; all = a.all }
