-- Exactly the words that are written are read.
use Rattle.std.proofs.Common.{◌≡◌, Bool, true, false, cond, List, [], ◌∷◌, Option, Some, refl, ap, subst, ◌∙◌}
use Rattle.std.proofs.lemmas.Slice.Eq.{bytes_eq-Decides}
use Rattle.std.specs.List.{find}
use Rattle.std.specs.Str.{bytes_eq}
use Rattle.event_words.specs.declared.word.EventWord.{EventWord}
use Rattle.event_words.specs.declared.word.EventWord.TheVariants.{Begin, Send, Take, Apply, Reply, Heard, Arrive, Hop, Drained, Lost, Rejoin, Stuck, Foreign, Garbled, Settle, Flow}
use Rattle.event_words.specs.Words.{text_of, all_words, word_of, AreReadAgain}

pub read-again : (w : EventWord) → word_of (text_of w) ≡ Some w
read-again Begin = refl
read-again Send = refl
read-again Take = refl
read-again Apply = refl
read-again Reply = refl
read-again Heard = refl
read-again Arrive = refl
read-again Hop = refl
read-again Drained = refl
read-again Lost = refl
read-again Rejoin = refl
read-again Stuck = refl
read-again Foreign = refl
read-again Garbled = refl
read-again Settle = refl
read-again Flow = refl

some-is : {X : Type 0} (x y : X) → Some x ≡ Some y → x ≡ y
some-is x y e = cc

found-by : {X : Type 0} (p : X → Bool) (x : X) (rest : Option X) (w : X) (b : Bool) → p x ≡ b → (rest ≡ Some w → p w ≡ true) → cond b (Some x) rest ≡ Some w → p w ≡ true
found-by p x rest w true h more e = subst (λ y. p y ≡ true) (some-is x w e) h
found-by p x rest w false h more e = more e

found : {X : Type 0} (p : X → Bool) (xs : List X) (w : X) → find p xs ≡ Some w → p w ≡ true
found p [] w e = absurd (cc)
found p (x ∷ xs) w e = found-by p x (find p xs) w (p x) refl (found p xs w) e

pub exactly : AreReadAgain
exactly bytes w = (λ e. (bytes_eq-Decides bytes (text_of w)).0 (found (λ x. bytes_eq bytes (text_of x)) all_words w e), λ e. ap word_of e ∙ read-again w)
