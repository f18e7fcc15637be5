-- What rows ask of addresses, as it lies in memory.
use Rattle.std.specs.Prelude.{◌≡◌, ℕ, ◌+◌, ◌*◌, ◌/◌, ◌%◌, ◌<◌, Bool, true, false, Option, Some, None, if◌then◌else◌}
use Rattle.std.proofs.Common.{refl}
use Rattle.std.proofs.lemmas.Nat.{div-mul-add, mod-mul-add}
use Rattle.nk_values.specs.declared.pattern.Prefix.{Prefix}
use Rattle.nk_values.specs.declared.address_match.StationMatch.TheInside.{Inside as Station}
use Rattle.nk_values.specs.declared.address_match.NetworkMatch.TheInside.{Inside as Network}

-- the number, if one is fixed
abbrev pub station_of : Station → Option ℕ
station_of s = if s.fixed then Some (s.high * 4294967296 + s.low) else None

-- the low word is one, and an open match holds zeros
pub record IsStation (s : Station) : Type 0 where
  pub low : s.low < 4294967296
  pub open_low : s.fixed ≡ false → s.low ≡ 0
  pub open_high : s.fixed ≡ false → s.high ≡ 0

-- the parts of a match
abbrev pub station_parts : Option ℕ → Station
station_parts None = record { low = 0; high = 0; fixed = false }
station_parts (Some n) = record { low = n % 4294967296; high = n / 4294967296; fixed = true }

-- the parts of the number are those that it is made of
station_fields : (low high : ℕ) (fixed : Bool) → low < 4294967296 → (fixed ≡ false → low ≡ 0) →
    (fixed ≡ false → high ≡ 0) → station_parts (if fixed then Some (high * 4294967296 + low) else None) ≡
    record { low = low; high = high; fixed = fixed }
station_fields low high true l open_low open_high =
    rw (mod-mul-add high 4294967296 low l, div-mul-add high 4294967296 low l) refl
station_fields low high false l open_low open_high = rw (open_low refl, open_high refl) refl

pub station_back : (s : Station) → IsStation s → station_parts (station_of s) ≡ s
station_back s i = station_fields s.low s.high s.fixed i.low i.open_low i.open_high

-- the prefix, if one is fixed
abbrev pub network_of : Network → Option Prefix
network_of n = if n.fixed then Some (record { address = n.address; length = n.length }) else None

-- an open match holds zeros
pub record IsNetwork (n : Network) : Type 0 where
  pub open_address : n.fixed ≡ false → n.address ≡ 0
  pub open_length : n.fixed ≡ false → n.length ≡ 0

-- the parts of a match
abbrev pub network_parts : Option Prefix → Network
network_parts None = record { address = 0; length = 0; fixed = false }
network_parts (Some p) = record { address = p.address; length = p.length; fixed = true }

-- the parts of the prefix are those that it is made of
network_fields : (address length : ℕ) (fixed : Bool) → (fixed ≡ false → address ≡ 0) → (fixed ≡ false → length ≡ 0) →
    network_parts (if fixed then Some (record { address = address; length = length }) else None) ≡
    record { address = address; length = length; fixed = fixed }
network_fields address length true open_address open_length = refl
network_fields address length false open_address open_length = rw (open_address refl, open_length refl) refl

pub network_back : (n : Network) → IsNetwork n → network_parts (network_of n) ≡ n
network_back n i = network_fields n.address n.length n.fixed i.open_address i.open_length
