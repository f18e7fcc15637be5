-- What a reader of a policy's text stands for.
use Rattle.std.specs.Prelude.{◌≡◌, ◌≤◌, ◌<◌, ℕ, Bool, true, false, List, [], ◌++◌, length, drop, Result, Ok, Err}
use Rattle.nk_values.specs.declared.text_fault.TextFault.{TextFault}
use Rattle.nk_syntax.specs.Terms.{Term}
use Rattle.netkat_parser.specs.declared.sign.Sign.TheVariants.{End}
use Rattle.netkat_parser.specs.declared.reading.Halt.TheVariants as halt
use Rattle.netkat_parser.specs.declared.advance.Pause.{Pause}
use Rattle.netkat_parser.specs.declared.advance.Pause.TheVariants as pause
use Rattle.netkat_parser.specs.Signs.{ahead, sign}
use Rattle.netkat_parser.specs.Grammar.{Got, Bad}
use Rattle.netkat_parser.specs.Answers.{spot}
use Rattle.netkat_parser.specs.Going.{Reach, Comes}
use Rattle.netkat_parser.specs.Cuts.{EndsAt}
use Rattle.netkat_parser.specs.Views.{View, Shows, IsWhole}

-- ---- over one sign or value at the front of a text

-- what comes of the text from one state comes of it from the other
abbrev pub Stays : View → List ℕ → Bool → View → Type 0
Stays old text end new = (x : Reach) → Shows old x → (y : Reach) × Shows new y
    × ((rest : List ℕ) (o : Got Term) → EndsAt end rest → Comes y (spot (text ++ rest) new.named) o →
    Comes x (spot (text ++ rest) old.named) o)

-- so many bytes were taken
abbrev pub TakesFront : View → List ℕ → Bool → View → ℕ → Type 0
TakesFront old text end new n = (x : Reach) → Shows old x → (y : Reach) × Shows new y
    × ((rest : List ℕ) (o : Got Term) → EndsAt end rest →
    Comes y (spot (ahead false (drop n text ++ rest)) new.named) o → Comes x (spot (text ++ rest) old.named) o)

-- the front of the text has this fault
abbrev pub StopsThere : View → List ℕ → Bool → TextFault → Type 0
StopsThere old text end f = (x : Reach) → Shows old x → (rest : List ℕ) → EndsAt end rest →
    Comes x (spot (text ++ rest) old.named) (Bad f (text ++ rest))

abbrev pub Steps : View → List ℕ → Bool → View → Result ℕ Pause → Type 0
Steps old text end new (Ok n) = (0 < n) × (n ≤ length text) × TakesFront old text end new n
Steps old text end new (Err pause.Wait) = (end ≡ false) × Stays old text end new
Steps old text end new (Err (pause.Halt halt.Memory)) = Stays old text end new
Steps old text end new (Err (pause.Halt halt.Done)) = Stays old text end new × IsWhole new ×
    ((rest : List ℕ) → EndsAt end rest → sign (text ++ rest) ≡ End)
Steps old text end new (Err (pause.Halt (halt.Fault f))) = (text ≡ [] → end ≡ true) × StopsThere old text end f

-- ---- over all that is whole of a text, inside a comment or not

-- what comes of this text from one state comes of that text from the other
abbrev pub Leaves : View → Bool → List ℕ → Bool → View → Bool → List ℕ → Type 0
Leaves old c text end new c' text' = (x : Reach) → Shows old x → (y : Reach) × Shows new y
    × ((rest : List ℕ) (o : Got Term) → EndsAt end rest → Comes y (spot (ahead c' (text' ++ rest)) new.named) o →
    Comes x (spot (ahead c (text ++ rest)) old.named) o)

abbrev pub Advances : View → Bool → List ℕ → Bool → View → ℕ → Bool → Pause → Type 0
Advances old c text end new n c' pause.Wait = (end ≡ false) × Leaves old c text end new c' (drop n text)
Advances old c text end new n c' (pause.Halt halt.Memory) = Leaves old c text end new c' (drop n text)
Advances old c text end new n c' (pause.Halt halt.Done) =
    Leaves old c text end new c' (drop n text) × IsWhole new ×
    ((rest : List ℕ) → EndsAt end rest → sign (ahead c' (drop n text ++ rest)) ≡ End)
Advances old c text end new n c' (pause.Halt (halt.Fault f)) =
    (x : Reach) → Shows old x → (rest : List ℕ) → EndsAt end rest →
    Comes x (spot (ahead c (text ++ rest)) old.named) (Bad f (drop n text ++ rest))
