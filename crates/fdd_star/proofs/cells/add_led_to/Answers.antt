use Rattle.std.proofs.Common.{refl, sym}
use Rattle.std.proofs.lemmas.Bool.{false≢true}
use Rattle.std.proofs.lemmas.Option.{get_or_from_slice_get}
use Rattle.fdd_star.proofs.LeadLaws.{closed_of, closes_more, closes_start}
use Rattle.fdd_star.proofs.cells.add_led_to.Goals as goal

pub loop-i-init : goal.loop-i-init
loop-i-init c = closes_start _ _ _ _ c.in_ok-insert.ensures.keys

pub returns-in_default-get_index : goal.returns-in_default-get_index
returns-in_default-get_index c = λ _. closed_of _ _ _ _ (λ b. false≢true (c.in_default-get_index.ensures.found.1 b)) c.loop-i.invariant

pub loop-i-preserved : goal.loop-i-preserved
loop-i-preserved c = closes_more _ _ c.in-Some-get_index.here.now _ _ _ (c.in-Some-get_index.ensures.found.0 refl) (get_or_from_slice_get c.loop-i.cells.keys c.loop-i.i c.in-Some-get_index.here.now c.in-Some-get_index.here.now (sym c.in-Some-get_index.ensures.key)) c.loop-i.invariant c.in_ok-add_from.ensures
