-- Lines tell histories apart.
use Rattle.std.specs.Prelude.{◌≡◌, ℕ, List, ◌++◌, map, Option, codes}
use Rattle.std.specs.List.Sorted.{IsPermutation}
use Rattle.nk_values.specs.declared.packet.Packet.{Packet}
use Rattle.nk_values.specs.Members.{IsIn, EachOnce}
use Rattle.nk_values.specs.Packets.{IsWellShaped}
use Rattle.nk_values.specs.Trails.{Trail}
use Rattle.nk_syntax.specs.Terms.{Term}
use Rattle.history_meaning.specs.Plain.{IsPlain}
use Rattle.topology_model.specs.Layouts.{Layout, wiring}
use Rattle.topology_model.specs.Wired.{IsSound}
use Rattle.packet_tracer.specs.Walks.{IsWalk}
use Rattle.packet_tracer.specs.Ways.{IsWayOf}
use Rattle.value_text.specs.Histories.{history_text}
use Rattle.value_text.specs.Traces.{AreLinesOf}

-- histories of one packet have different texts
abbrev pub TextsTell : Type 0
TextsTell = (pk : Packet) (g h : Trail) → IsWayOf pk g → IsWayOf pk h → history_text g ≡ history_text h → g ≡ h

-- the lines of histories, one for each
abbrev pub own_lines : List ℕ → List Trail → List (List ℕ)
own_lines head hs = map (λ h. head ++ history_text h) hs

-- so histories of one packet, each once, have a line each: no line stands for two
abbrev pub NoneIsDropped : Type 0
NoneIsDropped = (pk : Packet) (head : List ℕ) (hs : List Trail) (lines : List (List ℕ)) →
    ((h : Trail) → IsIn hs h → IsWayOf pk h) → EachOnce hs → AreLinesOf head hs lines →
    IsPermutation (own_lines head hs) lines

-- the lines of a packet's walk: one `done` for each finished history, and one `open` for each in flight
pub record HaveOwnLines (finished in_flight : List Trail) (done still : List (List ℕ)) : Type 0 where
  pub finished_lines : IsPermutation (own_lines (codes "done ") finished) done
  pub open_lines : IsPermutation (own_lines (codes "open ") in_flight) still

abbrev pub WalksHaveOwnLines : Type 0
WalksHaveOwnLines = (t : Layout) (p : Term) (pk : Packet) (tag : Option ℕ) (hops : ℕ) (finished in_flight : List Trail)
    (done still : List (List ℕ)) → IsSound t → IsPlain p → IsWellShaped pk →
    IsWalk (wiring t) p pk tag hops finished in_flight → AreLinesOf (codes "done ") finished done →
    AreLinesOf (codes "open ") in_flight still → HaveOwnLines finished in_flight done still
