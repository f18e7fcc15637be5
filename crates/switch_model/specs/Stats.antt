-- What a switch tells of its rows (OpenFlow 1.0.0, 5.3.5).
use Rattle.std.specs.Prelude.{◌≡◌, ◌⊎◌, ℕ, ◌+◌, ◌<◌, ◌≤◌, Bool, true, false, List, [], ◌∷◌, ◌++◌, map}
use Rattle.nk_values.specs.declared.pattern.Pattern.{Pattern}
use Rattle.nk_values.specs.declared.row.Row.{Row}
use Rattle.nk_values.specs.declared.row.FlowMod.{FlowMod}
use Rattle.nk_values.specs.declared.row.FlowCommand.TheVariants.{Delete}
use Rattle.nk_values.specs.Changes.{IsMeant}
use Rattle.nk_values.specs.Members.{IsIn}
use Rattle.openflow_wire.specs.declared.flow_stats.FlowStats.{FlowStats}
use Rattle.openflow_wire.specs.declared.message.Message.{Message}
use Rattle.openflow_wire.specs.declared.message.Message.TheVariants as to
use Rattle.openflow_wire.specs.FlowStats.{entries_len}
use Rattle.openflow_wire.specs.KeyOrder.{IsRising}

-- the message asks for rows
abbrev pub IsRequest : Message → Type 0
IsRequest (to.FlowStatsRequest _ _ _ _) = Unit {0}
IsRequest _ = ⊥

-- ---- which rows are told

-- the deletion with this pattern and out port
abbrev pub deletion : Pattern → ℕ → FlowMod
deletion pattern out_port =
    record { command = Delete; pattern = pattern; priority = 0; out_port = out_port; actions = [] }

-- the switch's table, or all tables
abbrev pub IsOfTable : ℕ → Type 0
IsOfTable table = (table ≡ 0) ⊎ (table ≡ 255)

-- a row of that table which the deletion would remove
pub record IsTold (rows : List Row) (table : ℕ) (change : FlowMod) (r : Row) : Type 0 where
  pub of_table : IsOfTable table
  pub among : IsIn rows r
  pub meant : IsMeant change r

-- ---- replies

-- a row of table 0 with nothing counted
abbrev pub entry_of : Row → FlowStats
entry_of r = record {
  table = 0;
  row = r;
  seconds = 0;
  nanoseconds = 0;
  idle_timeout = 0;
  hard_timeout = 0;
  cookie =
      0;
  packets = 0;
  bytes = 0;
}

abbrev pub reply : ℕ → Bool → List Row → Message
reply xid more rows = to.FlowStatsReply xid more (map entry_of rows)

-- how many bytes a reply takes
abbrev pub reply_len : List FlowStats → ℕ
reply_len entries = 12 + entries_len entries

abbrev pub Fits : List Row → Type 0
Fits rows = reply_len (map entry_of rows) ≤ 65535

-- there is a row more, for which a reply with these rows has no room
abbrev pub IsFilled : List Row → List Row → Type 0
IsFilled rows [] = ⊥
IsFilled rows (r ∷ later) = 65535 < reply_len (map entry_of (rows ++ r ∷ []))

-- Replies with these rows in turn, each filled as far as a message's 65,535 bytes allow. All but the last have more.
abbrev pub AreReplies : ℕ → List Row → List Message → Type 0
AreReplies xid rows [] = ⊥
AreReplies xid rows (m ∷ []) = (m ≡ reply xid false rows) × Fits rows
AreReplies xid rows (m ∷ n ∷ ms) =
    (part : List Row) × (later : List Row) × (rows ≡ part ++ later) × (m ≡ reply xid true part) × Fits part ×
    IsFilled part later × AreReplies xid later (n ∷ ms)

-- replies with the rows that are told, in the order of their keys
pub record AreTold (rows : List Row) (xid table : ℕ) (change : FlowMod) (answer : List Message) : Type 0 where
  pub told : List Row
  pub front : (r : Row) → IsIn told r → IsTold rows table change r
  pub back : (r : Row) → IsTold rows table change r → IsIn told r
  pub rising : IsRising told
  pub replies : AreReplies xid told answer

-- what is answered to a request for rows
abbrev pub AnswersStats : List Row → Message → List Message → Type 0
AnswersStats rows (to.FlowStatsRequest xid pattern table out_port) answer =
    AreTold rows xid table (deletion pattern out_port) answer
AnswersStats rows _ answer = ⊥

-- ---- how replies are filled

-- Replies that are full, and the next one with these entries, have room for an entry: as they are, or once the next one
-- is full too.
abbrev pub HasEntryRoom : ℕ → ℕ → List Message → List FlowStats → List Message → List FlowStats → Type 0
HasEntryRoom xid size full entries now next =
    ((reply_len entries + size ≤ 65535) × (now ≡ full) × (next ≡ entries))
    ⊎ ((65535 < reply_len entries + size) × (now ≡ full ++ to.FlowStatsReply xid true entries ∷ []) × (next ≡ []))

-- with a row more they tell it after the others
abbrev pub TellsMore : ℕ → List Message → List FlowStats → Row → List Message → List FlowStats → Type 0
TellsMore xid full entries r now next =
    (told : List Row) → AreReplies xid told (full ++ to.FlowStatsReply xid false entries ∷ []) →
    AreReplies xid (told ++ r ∷ []) (now ++ to.FlowStatsReply xid false next ∷ [])

-- ---- how the rows are found

-- those of the rows that the deletion is meant for, in order
abbrev pub ArePicked : FlowMod → List Row → List Row → Type 0
ArePicked change [] picked = picked ≡ []
ArePicked change (r ∷ rows) picked =
    (IsMeant change r × (later : List Row) × (picked ≡ r ∷ later) × ArePicked change rows later) ⊎
    ((¬ IsMeant change r) × ArePicked change rows picked)
