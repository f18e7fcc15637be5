-- The lines of events that name one switch, by its number.
use Rattle.std.specs.Prelude.{◌≡◌, ℕ, List, ◌++◌, codes}
use Rattle.std.specs.Fmt.{decimal}
use Rattle.event_words.specs.declared.word.EventWord.{EventWord}
use Rattle.event_words.specs.declared.word.EventWord.TheVariants as word
use Rattle.topology_model.specs.declared.line.DeclaredSwitch.{DeclaredSwitch}
use Rattle.value_text.specs.Values.{line}
use Rattle.report_text.specs.Events.{worded}

-- the number of a switch
abbrev pub number_of : DeclaredSwitch → ℕ
number_of s = s.sw

-- the line of a word and a number
abbrev pub word_line : EventWord → ℕ → List ℕ
word_line w n = line (codes "e " ++ worded w (decimal n))

-- that of the first flow mod that is pending at a switch
abbrev pub apply_line : ℕ → List ℕ
apply_line n = line (codes "e " ++ worded word.Apply (decimal n ++ (codes " " ++ decimal 0)))

-- the lines of the switch with a number
pub record AreSwitchLines (n : ℕ) (send : List ℕ) (take : List ℕ) (apply : List ℕ) (reply : List ℕ) (heard : List ℕ)
    : Type 0 where
  pub sends : send ≡ word_line word.Send n
  pub takes : take ≡ word_line word.Take n
  pub applies : apply ≡ apply_line n
  pub replies : reply ≡ word_line word.Reply n
  pub hears : heard ≡ word_line word.Heard n
