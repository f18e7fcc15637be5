-- What is listed to go wrong over the ends of a net in memory.
use Rattle.std.specs.Prelude.{◌≡◌, ℕ, List, [], ◌∷◌, Option, None, Some}
use Rattle.outside_net.specs.declared.trouble.Calls.{Calls}
use Rattle.outside_net.specs.declared.trouble.Effect.{Effect}
use Rattle.outside_net.specs.declared.trouble.Effect.TheVariants.{Fails, Repeats, Replaces, Cuts}
use Rattle.outside_net.specs.declared.trouble.End.{End}
use Rattle.outside_net.specs.declared.trouble.Trouble.{Trouble}
use Rattle.outside_net.specs.declared.trouble.Trouble.TheVariants.{Call, Send}

-- the numbers of the calls that are to fail
abbrev pub listed_calls : List Trouble → List ℕ
listed_calls [] = []
listed_calls (Call n ∷ ts) = n ∷ listed_calls ts
listed_calls (Send name end number effect ∷ ts) = listed_calls ts

abbrev pub calls_failing : Calls → List ℕ
calls_failing c = c.failing.items

-- it is of this send of one end of the pair with this name
abbrev pub IsOfSend : ℕ → End → ℕ → Trouble → Type 0
IsOfSend name end number (Call n) = ⊥
IsOfSend name end number (Send of side send effect) = (of ≡ name) × (side ≡ end) × (send ≡ number)

-- it has an effect by which a send fails
abbrev pub Spoils : Option Effect → Type 0
Spoils None = ⊥
Spoils (Some Fails) = Unit {0}
Spoils (Some Repeats) = ⊥
Spoils (Some (Replaces bytes)) = ⊥
Spoils (Some (Cuts bytes)) = Unit {0}
