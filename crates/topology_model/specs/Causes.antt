-- Why lines are refused.
use Rattle.std.specs.Prelude.{◌≡◌, ℕ, List, Option, Some, None}
use Rattle.topology_model.specs.Layouts.{Layout}
use Rattle.topology_model.specs.Lines.{fault_from, IsFirstFault}
use Rattle.topology_model.specs.declared.line.TopoLine.{TopoLine}
use Rattle.topology_model.specs.declared.fault.LineError.{LineError}
use Rattle.topology_model.specs.declared.fault.LineError.TheVariants as line
use Rattle.topology_model.specs.declared.fault.TopoError.{TopoError}
use Rattle.topology_model.specs.declared.fault.TopoError.TheVariants as topo

-- of a line, or, with no line, of the end
abbrev pub IsCauseFrom : Layout → Option TopoLine → LineError → Type 0
IsCauseFrom t l (line.Fault fault) = fault_from t l ≡ Some fault
IsCauseFrom t l line.Memory = Unit {0}

abbrev pub IsLineCause : Layout → TopoLine → LineError → Type 0
IsLineCause t l e = IsCauseFrom t (Some l) e

abbrev pub IsEndCause : Layout → LineError → Type 0
IsEndCause t e = IsCauseFrom t None e

-- of the whole list
abbrev pub IsCause : List TopoLine → TopoError → Type 0
IsCause lines (topo.Fault fault place) = IsFirstFault lines fault place
IsCause lines topo.Memory = Unit {0}

-- the same error, at a place
abbrev pub at_place : LineError → ℕ → TopoError
at_place (line.Fault fault) place = topo.Fault fault place
at_place line.Memory place = topo.Memory
