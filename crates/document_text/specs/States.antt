-- What the lines so far have declared.
use Rattle.std.specs.Prelude.{ℕ, Bool, true, false, not, nat_lt, List, [], ◌∷◌, ◌++◌, Option, None}
use Rattle.std.specs.Option.{unwrap_or}
use Rattle.nk_syntax.specs.Terms.{Term}
use Rattle.topology_model.specs.Layouts.{Layout, empty, edges_of}
use Rattle.document_text.specs.declared.document.PacketLine.{PacketLine}
use Rattle.document_text.specs.declared.document.ScheduleLine.{ScheduleLine}
use Rattle.document_text.specs.declared.declaration.LineKind.{LineKind}
use Rattle.document_text.specs.declared.declaration.LineKind.TheVariants as kind
use Rattle.document_text.specs.Documents.{Doc}

-- The kind of the latest line, the topology, settings where they were given, policies, packets, and the schedule,
-- inside of which the next line may stand.
pub record State : Type 0 where
  pub reached : LineKind
  pub layout : Layout
  pub hops : Option ℕ
  pub capacity : Option ℕ
  pub stamps : Option (ℕ × ℕ)
  pub rejoins : Option ℕ
  pub overlap : Bool
  pub policies : List Term
  pub packets : List PacketLine
  pub inside : Bool
  pub events : List ScheduleLine

-- before the first line
abbrev pub initial_state : State
initial_state = record {
  reached = kind.Switch;
  layout = empty;
  hops = None;
  capacity = None;
  stamps = None;
  rejoins = None;
  overlap = false;
  policies = [];
  packets = [];
  inside = false;
  events = [];
}

-- the place of a kind in the order of lines
abbrev pub place_of_kind : LineKind → ℕ
place_of_kind kind.Switch = 0
place_of_kind kind.Link = 1
place_of_kind kind.Setting = 2
place_of_kind kind.Policy = 3
place_of_kind kind.Packet = 4
place_of_kind kind.Schedule = 5

-- a line of this kind stands after one of a later kind
abbrev pub is_late : State → LineKind → Bool
is_late s k = nat_lt (place_of_kind k) (place_of_kind s.reached)

abbrev pub is_empty : {A : Type 0} → List A → Bool
is_empty [] = true
is_empty (a ∷ as') = false

-- some declared port is in no link
abbrev pub has_edge : Layout → Bool
has_edge t = not (is_empty (edges_of t))

-- with one more policy
abbrev pub with_policy : State → Term → State
with_policy s p = record s { policies = s.policies ++ p ∷ [] }

-- what was declared, with the settings that hold where none were given
abbrev pub doc_of_state : State → Doc
doc_of_state s = record {
  layout = s.layout;
  policies = s.policies;
  packets = s.packets;
  settings = record {
    hops = unwrap_or s.hops 64;
    capacity = unwrap_or s.capacity 200000;
    stamps = unwrap_or s.stamps (1, 4094);
    rejoins = unwrap_or s.rejoins 0;
    overlap = s.overlap;
  };
  schedule = s.events;
}
