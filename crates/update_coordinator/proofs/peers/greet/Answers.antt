use Rattle.std.proofs.lemmas.Option.{slice_get-get_or}
use Rattle.update_coordinator.proofs.Places.{greet_none, greet_some}
use Rattle.update_coordinator.proofs.peers.greet.Goals as goal

pub returns-clause-none : goal.returns-clause-none
returns-clause-none c = greet_none c.greet.result _ _ _ _ (slice_get-get_or c.args.peers.now c.args.place c.index-peers-place.result c.requires.within) c.greet.ensures.none

pub returns-clause-some : goal.returns-clause-some
returns-clause-some c = greet_some c.greet.result _ _ _ _ (slice_get-get_or c.args.peers.now c.args.place c.index-peers-place.result c.requires.within) c.greet.ensures.some
