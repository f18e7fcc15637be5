-- A map from ports to the far ends of their links, if they have one.
use Rattle.std.specs.Prelude.{ℕ, Bool, ◌&&◌, nat_eq, Option}
use Rattle.std.specs.declared.hash.FoldHasher.{FoldHasher}
use Rattle.std.specs.declared.hash.BuildHasherDefault.{BuildHasherDefault}
use Rattle.std.specs.HashMap.{get, HashMap}

-- the same port of the same switch
abbrev pub same_end : ℕ × ℕ → ℕ × ℕ → Bool
same_end x y = nat_eq x.0 y.0 && nat_eq x.1 y.1

abbrev pub Ends : Type 0
Ends = HashMap (ℕ × ℕ) (Option (ℕ × ℕ)) (BuildHasherDefault FoldHasher)

-- what the map has for a port
abbrev pub entry : Ends → ℕ × ℕ → Option (Option (ℕ × ℕ))
entry m e = get same_end m e
