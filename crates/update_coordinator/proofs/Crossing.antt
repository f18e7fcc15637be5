-- A coordinator may go to another thread: so may the cause of its halt, which may hold a history.
use denote.RattleType.{RattleType}
use denote.Builtin.{usize, u16}
use denote.Struct.Field.{usize-field, u16-field}
use denote.Param.Send.{IsSend, view_send, sendable}
use denote.Param.SendFields.{declared_send, variants_send, as_row_send}
use Rattle.std.specs.contracts.alloc.Global as global
use Rattle.std.specs.contracts.impls.GlobalAllocator.TheImpl as heap
use Rattle.std.specs.contracts.vec.Vec as vecs
use Rattle.std.proofs.vec.Vec.TheSendSync as listed
use Rattle.std.proofs.option.Option.TheSendSync as options
use Rattle.std.proofs.alloc.Global.TheSendSync as globals
use Rattle.std.below.std_heap.proofs.GlobalAllocator.TheSendSync as heaps
use Rattle.nk_values.specs.contracts.rows.Rows as rows
use Rattle.nk_values.proofs.rows.Rows.TheSendSync as rowed
use Rattle.openflow_wire.specs.contracts.octets.Octets as octets
use Rattle.openflow_wire.proofs.octets.Octets.TheSendSync as octet
use Rattle.openflow_wire.proofs.fault.WireFault.TheSendSync as wires
use Rattle.session_core.proofs.session.SessionFault.TheSendSync as faults
use Rattle.barrier_tracker.proofs.tracker.Tracker.TheSendSync as trackers
use Rattle.update_plan.specs.contracts.cursor.Span as span
use Rattle.update_plan.proofs.cursor.Span.TheSendSync as spans
use Rattle.update_plan.specs.contracts.cursor.Cursor as cursor
use Rattle.update_plan.proofs.cursor.Cursor.TheSendSync as cursors
use Rattle.update_coordinator.specs.contracts.cause.Cause as cause
use Rattle.update_coordinator.specs.contracts.coordinator.Coordinator as coordinator
use Rattle.update_coordinator.specs.contracts.coordinator.Coordinator.TheInside as coordinator_inside
use Rattle.update_coordinator.proofs.cause.Side.TheSendSync as sides
use Rattle.update_coordinator.proofs.phase.Phase.TheSendSync as phases
use Rattle.update_coordinator.specs.contracts.peer.Peer as peer
use Rattle.update_coordinator.proofs.peer.Peer.TheSendSync as peers
use Rattle.update_coordinator.proofs.Sharing.{history-send}

vec-send : (R : RattleType) → IsSend R → IsSend (vecs.the_row R global.the_row heap.ghosts)
vec-send R s = listed.the_send R global.the_row heap.ghosts s globals.the_send heaps.the_frees

cause-send : IsSend cause.the_row
cause-send = variants_send cause.enum ((as_row_send u16-field (search sendable), tt), ((as_row_send u16-field (search sendable), (faults.the_send, tt)), ((as_row_send u16-field (search sendable), (sides.the_send, (options.the_send octets.the_row octet.the_send, (octet.the_send, tt)))), ((as_row_send u16-field (search sendable), (wires.the_send, tt)), ((history-send, tt), tt)))))

coordinator-inside : IsSend coordinator_inside.the_row
coordinator-inside = declared_send coordinator_inside.the_type (
  phases.the_send,
  (
    options.the_send cause.the_row cause-send,
    (
      vec-send rows.the_row rowed.the_send,
      (
        vec-send usize (search sendable),
        (
          vec-send u16 (search sendable),
          (
            vec-send peer.the_row peers.the_send,
            (
              vec-send span.the_row spans.the_send,
              (
                vec-send cursor.the_row cursors.the_send,
                (
                  trackers.the_send,
                  (
                    as_row_send usize-field (search sendable),
                    (
                      options.the_send u16 (search sendable),
                      (
                        as_row_send usize-field (search sendable),
                        tt,
                      ),
                    ),
                  ),
                ),
              ),
            ),
          ),
        ),
      ),
    ),
  ),
)

pub coordinator-send : IsSend coordinator.the_row
coordinator-send = view_send coordinator_inside.the_row _ _ _ _ coordinator-inside
