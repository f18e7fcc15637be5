-- The worker of a drive may go to a thread of its own.
use denote.RattleType.{RattleType}
use denote.Builtin.{usize}
use denote.Struct.Field.{row_field, bool-field, usize-field}
use denote.Param.Send.{IsSend, IsSync, view_send, sendable}
use denote.Param.SendFields.{declared_send, as_row_send}
use Rattle.std.specs.contracts.alloc.Global as global
use Rattle.std.specs.contracts.impls.GlobalAllocator.TheImpl as heap
use Rattle.std.specs.contracts.vec.Vec as vecs
use Rattle.std.specs.contracts.option.Option as option
use Rattle.std.specs.contracts.sync.Arc as arc
use Rattle.std.specs.contracts.sync.Condvar as condvar
use Rattle.std.specs.contracts.sync.Mutex as mutex
use Rattle.std.proofs.vec.Vec.TheSendSync as listed
use Rattle.std.proofs.option.Option.TheSendSync as options
use Rattle.std.proofs.sync.Arc.TheSendSync as arcs
use Rattle.std.proofs.sync.Condvar.TheSendSync as condvars
use Rattle.std.proofs.sync.Mutex.TheSendSync as locks
use Rattle.std.proofs.alloc.Global.TheSendSync as globals
use Rattle.std.below.std_heap.proofs.GlobalAllocator.TheSendSync as heaps
use Rattle.openflow_wire.specs.contracts.message.Message as message
use Rattle.openflow_wire.proofs.message.Message.TheSendSync as messages
use Rattle.update_coordinator.proofs.Crossing.{coordinator-send}
use Rattle.outside_net.specs.declared.link.Link as Link
use Rattle.outside_net.specs.declared.reporter.Receipt as Receipt
use Rattle.drive_journal.specs.declared.name.DriveName as DriveName
use Rattle.drive_journal.specs.contracts.steering.Steering as steering
use Rattle.drive_journal.proofs.steering.Steering.TheSendSync as steerings
use Rattle.drive_journal.specs.contracts.steered.DriveState as steered
use Rattle.drive_journal.specs.contracts.steered.DriveState.TheInside as steered_inside
use Rattle.drive_journal.specs.contracts.drive.Drive as drive
use Rattle.drive_journal.specs.contracts.drive.Drive.TheInside as drive_inside
use Rattle.drive_journal.specs.contracts.drive_desk.DriveDesk as desk
use Rattle.drive_workers.specs.contracts.worker.DriveWorker as worker

vec-send : (R : RattleType) → IsSend R → IsSend (vecs.the_row R global.the_row heap.ghosts)
vec-send R s = listed.the_send R global.the_row heap.ghosts s globals.the_send heaps.the_frees

-- ---- a drive under its lock

steered-parts : (L E Q : RattleType) (a : DriveName.Ghosts L.Denot) (b : Link.Ghosts E.Denot) (c : Receipt.Ghosts Q.Denot) → IsSend L → IsSend E → IsSend Q → IsSend (steered_inside.the_row L E Q a b c)
steered-parts L E Q a b c l e q = declared_send (steered_inside.the_type L E Q a b c) (coordinator-send, (vec-send steering.the_row steerings.the_send, (vec-send Q q, (vec-send E e, (vec-send usize (search sendable), (search sendable, tt))))))

steered-send : (L E Q : RattleType) (a : DriveName.Ghosts L.Denot) (b : Link.Ghosts E.Denot) (c : Receipt.Ghosts Q.Denot) → IsSend L → IsSend E → IsSend Q → IsSend (steered.the_row L E Q a b c)
steered-send L E Q a b c l e q = view_send (steered_inside.the_row L E Q a b c) _ _ _ _ (steered-parts L E Q a b c l e q)

drive-parts : (L E Q : RattleType) (a : DriveName.Ghosts L.Denot) (b : Link.Ghosts E.Denot) (c : Receipt.Ghosts Q.Denot) → IsSend L → IsSend E → IsSend Q → IsSend (drive_inside.the_row L E Q a b c)
drive-parts L E Q a b c l e q = declared_send (drive_inside.the_type L E Q a b c) (steered-send L E Q a b c l e q, (as_row_send bool-field (search sendable), (vec-send (option.the_row message.the_row) (options.the_send message.the_row messages.the_send), tt)))

drive-send : (L E Q : RattleType) (a : DriveName.Ghosts L.Denot) (b : Link.Ghosts E.Denot) (c : Receipt.Ghosts Q.Denot) → IsSend L → IsSend E → IsSend Q → IsSend (drive.the_row L E Q a b c)
drive-send L E Q a b c l e q = view_send (drive_inside.the_row L E Q a b c) _ _ _ _ (drive-parts L E Q a b c l e q)

desk-send : (R L E Q : RattleType) (a : DriveName.Ghosts L.Denot) (b : Link.Ghosts E.Denot) (c : Receipt.Ghosts Q.Denot) → IsSend R → IsSend L → IsSend E → IsSend Q → IsSend (desk.the_row R L E Q a b c)
desk-send R L E Q a b c r l e q =
    let locked = options.the_send (drive.the_row L E Q a b c) (drive-send L E Q a b c l e q) in
    let lock = locks.the_send (option.the_row (drive.the_row L E Q a b c)) locked in
    let shared = locks.the_sync (option.the_row (drive.the_row L E Q a b c)) locked in
    declared_send (desk.the_type R L E Q a b c) (
      as_row_send (row_field R) r,
      (
        as_row_send global.the_field globals.the_field_send,
        (
          arcs.the_send (mutex.the_row (option.the_row (drive.the_row L E Q a b c))) global.the_row heap.ghosts lock globals.the_send shared globals.the_sync heaps.the_frees,
          (
            arcs.the_send condvar.the_row global.the_row heap.ghosts condvars.the_send globals.the_send condvars.the_sync globals.the_sync heaps.the_frees,
            tt,
          ),
        ),
      ),
    )

-- ---- a worker

gate-send : (G : RattleType) → IsSend G → IsSync G → IsSend (arc.the_row G global.the_row heap.ghosts)
gate-send G s y = arcs.the_send G global.the_row heap.ghosts s globals.the_send y globals.the_sync heaps.the_frees

pub worker-send : (R L E Q G : RattleType) (a : DriveName.Ghosts L.Denot) (b : Link.Ghosts E.Denot) (c : Receipt.Ghosts Q.Denot) → IsSend R → IsSend L → IsSend E → IsSend Q → IsSend G → IsSync G → IsSend (worker.the_row R L E Q G a b c)
worker-send R L E Q G a b c r l e q s y = declared_send (worker.the_type R L E Q G a b c) (
  desk-send R L E Q a b c r l e q,
  (
    as_row_send usize-field (search sendable),
    (
      as_row_send (row_field E) e,
      (
        gate-send G s y,
        tt,
      ),
    ),
  ),
)
