-- What is kept by keys.
use Rattle.std.specs.Prelude.{List, [], ◌∷◌}

-- what is kept for each key is right for it
abbrev pub EachIs : {K V : Type 0} → (K → V → Type 0) → List (K × V) → Type 0
EachIs P [] = Unit {0}
EachIs P (e ∷ es) = P e.0 e.1 × EachIs P es
