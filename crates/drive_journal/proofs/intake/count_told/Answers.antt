use Rattle.std.proofs.Common.{◌≡◌, ◌<◌, length, Some, slice_get, refl, subst, arith}
use Rattle.std.proofs.lemmas.Option.{slice_get_read}
use Rattle.drive_journal.specs.declared.steering.Steering.{Steering}
use Rattle.drive_journal.specs.Cuts.{IsAmong}
use Rattle.drive_journal.specs.Journals.{told_before}
use Rattle.drive_journal.proofs.Counting.{told-few, counts-heard}
use Rattle.drive_journal.proofs.intake.count_told.Goals as goal

pub prove-unreachable-requires : goal.prove-unreachable-requires
prove-unreachable-requires c =
    let within : c.in-Heard.place < length c.args.told.now.items = subst (λ (e : Steering). IsAmong (length c.args.told.now.items) e) c.in-Heard.is c.requires.among in
    let at : slice_get c.args.told.now.items c.in-Heard.place ≡ Some c.index-count.result.now = slice_get_read c.args.told.now.items (length c.args.told.now.items) c.in-Heard.place c.index-count.result.now refl within c.index-count.ensures in
    let is : c.index-count.result.now ≡ told_before c.in-Heard.place c.args.journal.now.items = c.requires.counts c.in-Heard.place c.index-count.result.now at in
    omega (arith, is, told-few c.in-Heard.place c.args.journal.now.items, c.if-prove.true, c.len-made.ensures, c.args.journal.now.ok)

pub returns-in-Heard-clause-counts : goal.returns-in-Heard-clause-counts
returns-in-Heard-clause-counts c =
    let within : c.in-Heard.place < length c.args.told.now.items = subst (λ (e : Steering). IsAmong (length c.args.told.now.items) e) c.in-Heard.is c.requires.among in
    let at : slice_get c.args.told.now.items c.in-Heard.place ≡ Some c.index-count.result.now = slice_get_read c.args.told.now.items (length c.args.told.now.items) c.in-Heard.place c.index-count.result.now refl within c.index-count.ensures in
    rw c.in-Heard.is (counts-heard c.args.journal.now.items c.args.told.now.items c.in-Heard.place c.index-count.result.now c.in-Heard.field-1 c.requires.counts at)
