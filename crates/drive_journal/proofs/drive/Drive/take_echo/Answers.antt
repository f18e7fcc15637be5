use Rattle.std.proofs.Common.{◌≡◌, ◌<◌, ◌∙◌, length, Some, slice_get, refl, arith}
use Rattle.std.proofs.lemmas.List.{length-set}
use Rattle.std.proofs.lemmas.Option.{slice_get_read}
use Rattle.drive_journal.proofs.Echoing.{fitting-set, fitting-at, read-echo}
use Rattle.drive_journal.proofs.drive.Drive.take_echo.Goals as goal

pub invariant_of-self : goal.invariant_of-self
invariant_of-self g c = (
  fitting-set c.self.inside.echoes.items c.args.place c.take.new.self c.self.invariant.0 (rw c.take.ensures.after tt),
  length-set c.self.inside.echoes.items c.args.place c.take.new.self ∙ c.self.invariant.1,
)

pub returns-clause-is : goal.returns-clause-is
returns-clause-is g c =
    let within : c.args.place < length c.self.inside.echoes.items = omega (arith, c.requires, c.self.invariant.1) in
    let at : slice_get c.self.inside.echoes.items c.args.place ≡ Some c.index_mut.result.now = slice_get_read c.self.inside.echoes.items (length c.self.inside.echoes.items) c.args.place c.index_mut.result.now refl within c.index_mut.ensures.value in
    rw (← c.self.view_is) (c.take.ensures.value ∙ read-echo c.self.inside.echoes.items c.args.place c.index_mut.result.now at)

pub returns-clause-fits : goal.returns-clause-fits
returns-clause-fits g c =
    let within : c.args.place < length c.self.inside.echoes.items = omega (arith, c.requires, c.self.invariant.1) in
    let at : slice_get c.self.inside.echoes.items c.args.place ≡ Some c.index_mut.result.now = slice_get_read c.self.inside.echoes.items (length c.self.inside.echoes.items) c.args.place c.index_mut.result.now refl within c.index_mut.ensures.value in
    rw c.take.ensures.value (fitting-at c.self.inside.echoes.items c.args.place c.index_mut.result.now c.self.invariant.0 at)
