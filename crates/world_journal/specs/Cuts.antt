-- What a refused cut says, and hands back.
use Rattle.std.specs.Prelude.{◌≡◌}
use Rattle.world_journal.specs.declared.held.cutting.CutError.{CutError}
use Rattle.world_journal.specs.declared.held.cutting.CutError.TheVariants.{NotEnabled, Memory}

abbrev pub HandsBack : {E : Type 0} → E → CutError E → Type 0
HandsBack end (NotEnabled e) = e ≡ end
HandsBack end (Memory e) = e ≡ end

-- what holds where the event was not enabled
abbrev pub Refuses : {E : Type 0} → Type 0 → CutError E → Type 0
Refuses P (NotEnabled e) = P
Refuses P (Memory e) = Unit {0}
