-- The numbers of groups, by their ports and VLAN numbers.
use Rattle.std.specs.Prelude.{◌≡◌, ℕ, nat_eq, Bool, ◌&&◌, Option, Some, IfSome}
use Rattle.std.specs.HashMap.{get}
use Rattle.flow_index.specs.declared.numbers.GroupNumbers.{GroupNumbers}

-- the same port and VLAN number
abbrev pub same_corner : ℕ × ℕ → ℕ × ℕ → Bool
same_corner x y = nat_eq x.0 y.0 && nat_eq x.1 y.1

-- the number of the group for a port and a VLAN number, if it is there
abbrev pub number_at : GroupNumbers → ℕ × ℕ → Option ℕ
number_at g corner = get same_corner g.map corner

-- What is kept beside the map is what it has.
abbrev pub IsRight : GroupNumbers → Type 0
IsRight g = IfSome g.last (λ l. number_at g l.corner ≡ Some l.number)
