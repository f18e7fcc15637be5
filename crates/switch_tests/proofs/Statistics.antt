-- A request for statistics of a kind that no message has a variant for.
use Rattle.std.proofs.Common.{◌≡◌, ℕ, List, [], ◌∷◌, ◌<◌, ◌^◌, rules, refl}
use Rattle.openflow_wire.specs.Places.{number_at}
use Rattle.openflow_wire.specs.declared.message.Message.TheVariants.{Other}
use Rattle.openflow_wire.specs.Writing.{Fits}

-- the kind of statistics that these bytes ask for is not flows
is-of-tables : number_at 2 0 (0 ∷ 3 ∷ 0 ∷ 0 ∷ []) ≡ 3
unfolding number_at
is-of-tables = refl

pub of-tables : (xid : ℕ) → xid < 2 ^ 32 → Fits (Other 16 xid (0 ∷ 3 ∷ 0 ∷ 0 ∷ []))
of-tables xid h = search (rules, is-of-tables)
