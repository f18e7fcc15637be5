-- The words of events, and how they are read.
use Rattle.std.specs.Prelude.{◌≡◌, ◌↔◌, ℕ, List, [], ◌∷◌, codes, Option, Some}
use Rattle.std.specs.List.{find}
use Rattle.std.specs.Str.{bytes_eq}
use Rattle.event_words.specs.declared.word.EventWord.{EventWord}
use Rattle.event_words.specs.declared.word.EventWord.TheVariants.{Begin, Send, Take, Apply, Reply, Heard, Arrive, Hop}
use Rattle.event_words.specs.declared.word.EventWord.TheVariants.{Drained, Lost, Rejoin, Stuck, Foreign, Garbled}
use Rattle.event_words.specs.declared.word.EventWord.TheVariants.{Settle, Flow}

-- a word as it is written
abbrev pub text_of : EventWord → List ℕ
text_of Begin = codes "begin"
text_of Send = codes "send"
text_of Take = codes "take"
text_of Apply = codes "apply"
text_of Reply = codes "reply"
text_of Heard = codes "heard"
text_of Arrive = codes "arrive"
text_of Hop = codes "hop"
text_of Drained = codes "drained"
text_of Lost = codes "lost"
text_of Rejoin = codes "rejoin"
text_of Stuck = codes "stuck"
text_of Foreign = codes "foreign"
text_of Garbled = codes "garbled"
text_of Settle = codes "settle"
text_of Flow = codes "flow"

abbrev pub all_words : List EventWord
all_words = Begin ∷ Send ∷ Take ∷ Apply ∷ Reply ∷ Heard ∷ Arrive ∷ Hop ∷ Drained ∷ Lost ∷ Rejoin ∷ Stuck ∷ Foreign ∷
    Garbled ∷ Settle ∷ Flow ∷ []

-- the word that bytes are, if they are one
abbrev pub word_of : List ℕ → Option EventWord
word_of bytes = find (λ w. bytes_eq bytes (text_of w)) all_words

-- Exactly the words as they are written are read.
abbrev pub AreReadAgain : Type 0
AreReadAgain = (bytes : List ℕ) (w : EventWord) → word_of bytes ≡ Some w ↔ bytes ≡ text_of w
