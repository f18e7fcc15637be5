-- The texts of faults.
use Rattle.std.specs.Prelude.{ℕ, List, [], ◌++◌, codes}
use Rattle.std.specs.Fmt.{decimal}
use Rattle.nk_values.specs.declared.fault.CompileFault.{CompileFault}
use Rattle.nk_values.specs.declared.fault.CompileFault.TheVariants.{Dup, SetsSwitch, SetsType, StarDeep, Unguarded}
use Rattle.nk_values.specs.declared.fault.EmitFault.{EmitFault}
use Rattle.nk_values.specs.declared.fault.EmitFault.TheVariants.{Unordered, TooManyRows, TooManySwitchRows}
use Rattle.nk_values.specs.declared.fault.EmitFault.TheVariants.{TooManyActions}
use Rattle.nk_values.specs.declared.fault.FieldSet.{FieldSet}
use Rattle.nk_values.specs.declared.packet.Packet.{Packet}
use Rattle.nk_values.specs.Faults.{text_number, text_name, compile_number, compile_name, emit_number, emit_name, label}
use Rattle.nk_values.specs.Names.{name_of}
use Rattle.value_text.specs.declared.fault.Fault.{Fault}
use Rattle.value_text.specs.declared.fault.Fault.TheVariants as fault
use Rattle.value_text.specs.Values.{line, packet_text}

-- a number and a name, after a colon
abbrev pub label_behind : ℕ → List ℕ → List ℕ
label_behind number name = codes ": " ++ label number name

-- a packet and an output of it
abbrev pub pair_text : Packet → Packet → List ℕ
pair_text p q = codes " " ++ (packet_text p ++ (codes " to " ++ packet_text q))

-- the packets that show why a policy is not compiled
abbrev pub shown : CompileFault → List ℕ
shown (StarDeep p q) = pair_text p q
shown (Unguarded p) = codes " " ++ packet_text p
shown Dup = []
shown SetsSwitch = []
shown SetsType = []

-- why a policy is not compiled, with the packets that show it
abbrev pub compile_text : CompileFault → List ℕ
compile_text f = label_behind (compile_number f) (compile_name f) ++ shown f

-- ` switch S`, and with a port
abbrev pub at_switch : ℕ → List ℕ
at_switch sw = codes " switch " ++ decimal sw

abbrev pub at_port : ℕ → ℕ → List ℕ
at_port sw pt = at_switch sw ++ (codes " port " ++ decimal pt)

-- the place of a fault
abbrev pub place_of : EmitFault → List ℕ
place_of (Unordered sw pt a b) = at_port sw pt
place_of (TooManyRows sw pt) = at_port sw pt
place_of (TooManySwitchRows sw) = at_switch sw
place_of (TooManyActions sw pt) = at_port sw pt

-- ` out P sets f`
abbrev pub sets_text : FieldSet → List ℕ
sets_text s = codes " out " ++ (decimal s.out ++ (codes " sets " ++ name_of s.field))

abbrev pub both_text : FieldSet → FieldSet → List ℕ
both_text a b = sets_text a ++ (codes "," ++ sets_text b)

-- the copies that bar the rows of a policy
abbrev pub barred_copies : EmitFault → List ℕ
barred_copies (Unordered sw pt a b) = both_text a b
barred_copies (TooManyRows sw pt) = []
barred_copies (TooManySwitchRows sw) = []
barred_copies (TooManyActions sw pt) = []

-- why a policy has no rows, with the place where
abbrev pub emit_text : EmitFault → List ℕ
emit_text f = place_of f ++ (label_behind (emit_number f) (emit_name f) ++ barred_copies f)

abbrev pub policy_text : ℕ → List ℕ
policy_text i = codes "nkctl: policy " ++ decimal i

-- the line of a fault
abbrev pub fault_text : Fault → List ℕ
fault_text (fault.Line l c f) =
    codes "nkctl: line " ++
    (decimal l ++ (codes " column " ++ (decimal c ++ (codes ": " ++ line (label (text_number f) (text_name f))))))
fault_text (fault.NotEnabled l) = codes "nkctl: line " ++ (decimal l ++ line (codes " column 1: 40 NotEnabled"))
fault_text (fault.NotTwo l) = codes "nkctl: line " ++ (decimal l ++ line (codes " column 1: 41 NotTwo"))
fault_text (fault.Compile i f) = policy_text i ++ line (compile_text f)
fault_text (fault.Emit i f) = policy_text i ++ line (emit_text f)
fault_text fault.Read = line (codes "nkctl: read fault")
fault_text fault.Net = line (codes "nkctl: net fault")
fault_text fault.NoThread = line (codes "nkctl: no thread")
fault_text fault.Report = line (codes "nkctl: report fault")
fault_text fault.Usage = line (codes "usage: nkctl rules|trace|simulate|run|generate N")

-- the fault has values to show, so that its line has to be made
abbrev pub HasValues : Fault → Type 0
HasValues (fault.Line l c f) = Unit {0}
HasValues (fault.NotEnabled l) = Unit {0}
HasValues (fault.NotTwo l) = Unit {0}
HasValues (fault.Compile i f) = Unit {0}
HasValues (fault.Emit i f) = Unit {0}
HasValues fault.Read = ⊥
HasValues fault.Net = ⊥
HasValues fault.NoThread = ⊥
HasValues fault.Report = ⊥
HasValues fault.Usage = ⊥
