use Rattle.std.proofs.Common.{refl, ◌<◌, ℕ, length, arith, subst}
use Rattle.world_core.specs.declared.event.Event.TheVariants as event
use Rattle.world_core.specs.declared.event.ControllerEvent.TheVariants as of_controller
use Rattle.world_core.proofs.Doing.{can, peer-within, element, as-many, comes-back}
use Rattle.world_core.proofs.Kept.{step-keeps}
use Rattle.world_core.proofs.Paired.{with-rows}
use Rattle.world_core.proofs.world.World.rejoin.Goals as goal

pub rejoin-requires : goal.rejoin-requires
rejoin-requires c =
    let within : c.args.place < length c.self.inside.wired.items = peer-within c.args.place _ _ _ c.self.view_is c.self.invariant c.requires.here in
    record { here = subst (λ (n : ℕ). c.args.place < n) (as-many _ c.self.invariant) within; away = can (event.Controller (of_controller.Rejoin c.args.place)) _ _ c.self.view_is c.requires }

pub invariant_of-self-2 : goal.invariant_of-self-2
invariant_of-self-2 c =
    let within : c.args.place < length c.self.inside.wired.items = peer-within c.args.place _ _ _ c.self.view_is c.self.invariant c.requires.here in
    step-keeps _ (event.Controller (of_controller.Rejoin c.args.place)) _ (with-rows c.self.inside.policies.items _ (event.Controller (of_controller.Rejoin c.args.place)) _ refl (comes-back c.args.place _ _ _ _ c.self.invariant (element _ _ _ within c.index_mut.ensures.value) c.in_ok-rejoin.ensures.ok)) c.self.invariant

pub returns-clause-ok : goal.returns-clause-ok
returns-clause-ok c =
    let within : c.args.place < length c.self.inside.wired.items = peer-within c.args.place _ _ _ c.self.view_is c.self.invariant c.requires.here in
    rw (← c.self.view_is) (with-rows c.self.inside.policies.items _ (event.Controller (of_controller.Rejoin c.args.place)) _ refl (comes-back c.args.place _ _ _ _ c.self.invariant (element _ _ _ within c.index_mut.ensures.value) c.in_ok-rejoin.ensures.ok))

pub index_mut-requires : goal.index_mut-requires
index_mut-requires c =
    let within : c.args.place < length c.self.inside.wired.items = peer-within c.args.place _ _ _ c.self.view_is c.self.invariant c.requires.here in
    omega (arith, within, c.self.inside.wired.ok)
