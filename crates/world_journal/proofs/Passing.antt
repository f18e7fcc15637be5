-- What holds histories may go to another thread: copies in flight, and packets that came in.
use denote.RattleType.{RattleType}
use denote.Builtin.{u64, usize}
use denote.Hole.{as_row}
use denote.Struct.Field.{Field, u64-field, usize-field}
use denote.Param.Send.{IsSend, view_send, sendable}
use denote.Param.SendFields.{declared_send, as_row_send}
use Rattle.std.specs.contracts.alloc.Global as global
use Rattle.std.specs.contracts.impls.GlobalAllocator.TheImpl as heap
use Rattle.std.specs.contracts.vec.Vec as vecs
use Rattle.std.specs.contracts.collections.VecDeque as deques
use Rattle.std.specs.contracts.collections.HashMap as maps
use Rattle.std.proofs.vec.Vec.TheSendSync as listed
use Rattle.std.proofs.collections.VecDeque.TheSendSync as deque
use Rattle.std.proofs.collections.HashMap.TheSendSync as map
use Rattle.std.proofs.alloc.Global.TheSendSync as globals
use Rattle.std.below.std_heap.proofs.GlobalAllocator.TheSendSync as heaps
use Rattle.std.specs.contracts.hash.BuildHasherDefault as builder
use Rattle.std.proofs.hash.BuildHasherDefault.TheSendSync as builders
use Rattle.std.specs.contracts.hash.FoldHasher as fold
use Rattle.std.proofs.hash.FoldHasher.TheSendSync as folds
use Rattle.std.specs.contracts.prelude.U64PartialEq.TheImpl as equal
use Rattle.std.specs.contracts.prelude.U64Hash.TheImpl as hash
use Rattle.std.specs.contracts.prelude.BuildHasherDefaultBuildHasher.TheImpl as builds
use Rattle.std.specs.contracts.prelude.FoldHasherHasher.TheImpl as hasher
use Rattle.std.below.core.specs.contracts.clone.Clone+copy.TheImpl as clones
use Rattle.nk_values.specs.contracts.history.History as history
use Rattle.nk_values.proofs.packet.Packet.TheSendSync as packets
use Rattle.nk_values.proofs.tag.Tag.TheSendSync as tags
use Rattle.packet_tracer.specs.contracts.flight.Flight as flight
use Rattle.flight_queues.specs.contracts.numbered.NumberedFlight as numbered
use Rattle.flight_queues.specs.contracts.queue.Queue as queue
use Rattle.flight_queues.specs.contracts.queue.Queue.TheInside as queue_inside
use Rattle.flight_queues.specs.contracts.flights.Flights as flights
use Rattle.flight_queues.specs.contracts.flights.Flights.TheInside as flights_inside
use Rattle.world_core.specs.contracts.arrival.Arrival as arrival
use Rattle.world_core.specs.contracts.arrival.Arrival.TheInside as arrival_inside
use Rattle.update_coordinator.proofs.phase.Admission.TheSendSync as entries
use Rattle.flight_queues.specs.contracts.numbered.Mark as mark
use Rattle.flight_queues.proofs.numbered.Mark.TheSendSync as marks
use Rattle.update_coordinator.proofs.Sharing.{history-send}

pub flight-send : IsSend flight.the_row
flight-send = declared_send flight.the_type (history-send, (tags.the_send, (as_row_send u64-field (search sendable), (as_row_send usize-field (search sendable), tt))))

vec-send : (R : RattleType) → IsSend R → IsSend (vecs.the_row R global.the_row heap.ghosts)
vec-send R s = listed.the_send R global.the_row heap.ghosts s globals.the_send heaps.the_frees

deque-send : (R : RattleType) → IsSend R → IsSend (deques.the_row R global.the_row heap.ghosts)
deque-send R s = deque.the_send R global.the_row heap.ghosts s globals.the_send heaps.the_frees

numbered-send : IsSend numbered.the_row
numbered-send = declared_send numbered.the_type (as_row_send u64-field (search sendable), (flight-send, tt))

queue-send : IsSend queue.the_row
queue-send = view_send queue_inside.the_row _ _ _ _ (declared_send queue_inside.the_type (deque-send numbered.the_row numbered-send, tt))

-- which queue is that of a switch
abbrev places : Field
places = maps.the_field u64 usize (builder.the_row fold.the_row) global.the_row fold.the_row equal.ghosts hash.ghosts (builds.ghosts fold.the_row hasher.ghosts builds.no_dict (clones.ghosts fold.the_row) builds.no_dict) hasher.ghosts heap.ghosts

places-send : IsSend (as_row places)
places-send = as_row_send places (map.the_send u64 usize (builder.the_row fold.the_row) global.the_row fold.the_row equal.ghosts hash.ghosts (builds.ghosts fold.the_row hasher.ghosts builds.no_dict (clones.ghosts fold.the_row) builds.no_dict) hasher.ghosts heap.ghosts (search sendable) (search sendable) (builders.the_send fold.the_row folds.the_send) globals.the_send heaps.the_frees)

flights-inside : IsSend flights_inside.the_row
flights-inside = declared_send flights_inside.the_type (as_row_send global.the_field globals.the_field_send, (places-send, (vec-send queue.the_row queue-send, (deque-send mark.the_row marks.the_send, (as_row_send u64-field (search sendable), tt)))))

pub flights-send : IsSend flights.the_row
flights-send = view_send flights_inside.the_row _ _ _ _ flights-inside

pub arrival-send : IsSend arrival.the_row
arrival-send = view_send arrival_inside.the_row _ _ _ _ (declared_send arrival_inside.the_type (packets.the_send, (tags.the_send, (entries.the_send, (vec-send history.the_row history-send, tt)))))
