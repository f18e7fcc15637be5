-- The texts of traces.
use Rattle.std.specs.Prelude.{◌≡◌, ℕ, ◌+◌, List, [], ◌∷◌, ◌++◌, codes}
use Rattle.std.specs.Cmp.Lexicographic.{slice_cmp}
use Rattle.std.specs.declared.cmp.Ordering.TheVariants.{Less}
use Rattle.std.specs.List.{flat_map}
use Rattle.std.specs.Ordering.{nat_cmp}
use Rattle.std.specs.Fmt.{decimal}
use Rattle.nk_values.specs.Members.{IsIn}
use Rattle.nk_values.specs.Trails.{Trail}
use Rattle.packet_tracer.specs.declared.flight.Walk.{Walk}
use Rattle.value_text.specs.Histories.{history_text}
use Rattle.value_text.specs.Values.{line}

-- new is old with such a text after it
pub record AddsText (IsText : List ℕ → Type 0) (old new : List ℕ) : Type 0 where
  pub text : List ℕ
  pub is : IsText text
  pub all : new ≡ old ++ text

-- each is less than the next, in byte order
abbrev pub Ascends : List (List ℕ) → Type 0
Ascends [] = Unit {0}
Ascends (l ∷ []) = Unit {0}
Ascends (l ∷ m ∷ ls) = (slice_cmp nat_cmp l m ≡ Less) × Ascends (m ∷ ls)

-- The lines are those of the histories, each once, in byte order.
pub record AreLinesOf (head : List ℕ) (histories : List Trail) (lines : List (List ℕ)) : Type 0 where
  pub order : Ascends lines
  pub each : (l : List ℕ) → IsIn lines l → (h : Trail) × IsIn histories h × (l ≡ head ++ history_text h)
  pub all : (h : Trail) → IsIn histories h → IsIn lines (head ++ history_text h)

-- The text of the n-th packet: its line, those of its finished histories, and then those of its copies in flight.
pub record IsPacketText (n : ℕ) (walk : Walk) (text : List ℕ) : Type 0 where
  pub done : List (List ℕ)
  pub still : List (List ℕ)
  pub finished : AreLinesOf (codes "done ") walk.finished.items done
  pub in_flight : AreLinesOf (codes "open ") walk.in_flight.items still
  pub whole : text ≡ line (codes "packet " ++ decimal n) ++ (flat_map line done ++ flat_map line still)

-- texts of elements after k others, one after another
abbrev pub AreTexts : {X : Type 0} → (ℕ → X → List ℕ → Type 0) → ℕ → List X → List ℕ → Type 0
AreTexts IsText k [] text = text ≡ []
AreTexts IsText k (x ∷ xs) text = (first : List ℕ) × (more : List ℕ) × IsText (k + 1) x first ×
    AreTexts IsText (k + 1) xs more × (text ≡ first ++ more)

-- The text of the i-th policy: its line, and those of the packets.
pub record IsPolicyText (i : ℕ) (walks : List Walk) (text : List ℕ) : Type 0 where
  pub packets : List ℕ
  pub each : AreTexts IsPacketText 0 walks packets
  pub whole : text ≡ line (codes "policy " ++ decimal i) ++ packets

-- The text of a trace: that of each policy.
abbrev pub IsTraceText : List (List Walk) → List ℕ → Type 0
IsTraceText walks text = AreTexts IsPolicyText 0 walks text
