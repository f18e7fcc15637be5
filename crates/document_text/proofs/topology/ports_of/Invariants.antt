use Rattle.std.proofs.Common.{◌≡◌, true, take}
use Rattle.std.specs.List.{list_all}
use Rattle.nk_values.specs.declared.field.Field.TheVariants.{Pt}
use Rattle.document_text.specs.Packets.{is_value}
use Rattle.document_text.proofs.topology.ports_of.Given as goal

abbrev pub invariant-loop-number : goal.invariant-loop-number
invariant-loop-number l = record {
  ports : l.ports.items ≡ take l.number-index l.numbers;
  values : list_all (is_value Pt) (take l.number-index l.numbers) ≡ true;
}
