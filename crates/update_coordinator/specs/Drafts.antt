-- Flow mods that are not made yet.
use Rattle.openflow_wire.specs.RowChanges.{mod_of}
use Rattle.nk_values.specs.declared.row.FlowMod.{FlowMod}
use Rattle.update_coordinator.specs.Batches.{wipe}
use Rattle.update_coordinator.specs.declared.batch.Draft.{Draft}
use Rattle.update_coordinator.specs.declared.batch.Draft.TheVariants as draft

-- the flow mod that a draft stands for
abbrev pub drafted : Draft → FlowMod
drafted draft.Wipe = wipe
drafted (draft.Row adds row) = mod_of adds row.now
