use Rattle.value_text.proofs.faults.put_shown.Goals as goal

pub returns-in-StarDeep : goal.returns-in-StarDeep
returns-in-StarDeep c = rw c.in-StarDeep.is c.put_pair.ensures
