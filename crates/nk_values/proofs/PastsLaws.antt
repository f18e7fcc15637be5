-- Pasts in memory, a packet at a time.
use denote.Hole.Carrier.{out}
use Rattle.std.proofs.Common.{◌≡◌, ◌∷◌, refl}
use Rattle.nk_values.specs.declared.past.Past.{Past, Past', None', Some', out-Past}
use Rattle.nk_values.specs.Pasts.{past_packets, older_packets}

pub past_unfolds : (p : Past) → past_packets p ≡ (out-Past p).packet ∷ older_packets (out-Past p).older
unfolding out-Past out
past_unfolds (Past' packet None') = refl
past_unfolds (Past' packet (Some' p past)) = refl
