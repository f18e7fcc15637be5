-- The texts of histories.
use Rattle.std.specs.Prelude.{ℕ, ◌==◌, not, List, [], ◌∷◌, ◌++◌, filter, reverse, codes}
use Rattle.nk_values.specs.declared.field.Field.{Field}
use Rattle.nk_values.specs.declared.packet.Packet.{Packet}
use Rattle.nk_values.specs.Packets.{get}
use Rattle.nk_values.specs.Trails.{Trail}
use Rattle.nk_values.specs.Names.{header_fields}
use Rattle.value_text.specs.Values.{field_text, location_text}

-- the header fields in which q differs from p
abbrev pub changed : Packet → Packet → List Field
changed p q = filter (λ f. not (get p f == get q f)) header_fields

-- fields with their numbers, each after a comma
abbrev pub more_fields : Packet → List Field → List ℕ
more_fields q [] = []
more_fields q (f ∷ fs) = codes "," ++ (field_text f (get q f) ++ more_fields q fs)

-- between braces, joined by commas, if there are any
abbrev pub braced : Packet → List Field → List ℕ
braced q [] = []
braced q (f ∷ fs) = codes "{" ++ (field_text f (get q f) ++ (more_fields q fs ++ codes "}"))

-- a packet after p: where it stands, and what changed
abbrev pub step_text : Packet → Packet → List ℕ
step_text p q = codes ">" ++ (location_text q.sw q.pt ++ braced q (changed p q))

-- the packets after p, the last of which is q
abbrev pub steps_text : Packet → List Packet → Packet → List ℕ
steps_text p [] q = step_text p q
steps_text p (r ∷ rs) q = step_text p r ++ steps_text r rs q

-- the packets of a history, oldest first, the last of which is q
abbrev pub path_text : List Packet → Packet → List ℕ
path_text [] q = location_text q.sw q.pt
path_text (p ∷ ps) q = location_text p.sw p.pt ++ steps_text p ps q

-- a history, oldest packet first
abbrev pub history_text : Trail → List ℕ
history_text h = path_text (reverse h.older) h.newest
