-- A history may go to another thread: so may the packets before its newest one, which histories share.
use denote.RattleType.{RattleType}
use denote.Struct.Declared as S
use denote.Param.Send.{IsSend, IsSync, view_send}
use denote.Param.SendFields.{declared_send, declared_sync}
use denote.Hole.FixLaws.{layer_row}
use denote.Hole.Fix.{holes}
use denote.Hole.FixSend.{Crosses, both_send, both_sync}
use Rattle.std.specs.contracts.alloc.Global as global
use Rattle.std.specs.contracts.impls.GlobalAllocator.TheImpl as heap
use Rattle.std.specs.contracts.sync.Arc as arc
use Rattle.std.specs.contracts.option.Option as option
use Rattle.std.proofs.alloc.Global.TheSendSync as globals
use Rattle.std.below.std_heap.proofs.GlobalAllocator.TheSendSync as heaps
use Rattle.std.proofs.sync.Arc.TheSendSync as arcs
use Rattle.std.proofs.option.Option.TheSendSync as options
use Rattle.nk_values.specs.contracts.past.Past as past
use Rattle.nk_values.specs.contracts.past.Past.TheKnot as knot
use Rattle.nk_values.proofs.packet.Packet.TheSendSync as packets
use Rattle.nk_values.specs.contracts.history.History as history
use Rattle.nk_values.specs.contracts.history.History.TheInside as inside

arc-send : (R : RattleType) → IsSend R → IsSync R → IsSend (arc.the_row R global.the_row heap.ghosts)
arc-send R s y = arcs.the_send R global.the_row heap.ghosts s globals.the_send y globals.the_sync heaps.the_frees

arc-sync : (R : RattleType) → IsSend R → IsSync R → IsSync (arc.the_row R global.the_row heap.ghosts)
arc-sync R s y = arcs.the_sync R global.the_row heap.ghosts s globals.the_send y globals.the_sync heaps.the_frees

older-send : (R : RattleType) → IsSend R → IsSync R → IsSend (option.the_row (arc.the_row R global.the_row heap.ghosts))
older-send R s y = options.the_send _ (arc-send R s y)

older-sync : (R : RattleType) → IsSend R → IsSync R → IsSync (option.the_row (arc.the_row R global.the_row heap.ghosts))
older-sync R s y = options.the_sync _ (arc-sync R s y)

past-layer : (h : knot.the_members → RattleType) → ((j : knot.the_members) → IsSend (h j)) → ((j : knot.the_members) → IsSync (h j)) → IsSend (S.row (past.the_layer h))
past-layer h s y = declared_send (past.the_layer h) (packets.the_send, (older-send (h knot.member-Past) (s knot.member-Past) (y knot.member-Past), tt))

past-layer-sync : (h : knot.the_members → RattleType) → ((j : knot.the_members) → IsSend (h j)) → ((j : knot.the_members) → IsSync (h j)) → IsSync (S.row (past.the_layer h))
past-layer-sync h s y = declared_sync (past.the_layer h) (packets.the_sync, (older-sync (h knot.member-Past) (s knot.member-Past) (y knot.member-Past), tt))

past-ring : (h : knot.the_members → RattleType) → ((j : knot.the_members) → IsSend (h j)) → ((j : knot.the_members) → IsSync (h j)) → IsSend (layer_row past.the_ring past.the_member h)
past-ring h s y = let l = past-layer h s y in record { owned = l.owned; leaving = l.leaving }

past-ring-sync : (h : knot.the_members → RattleType) → ((j : knot.the_members) → IsSend (h j)) → ((j : knot.the_members) → IsSync (h j)) → IsSync (layer_row past.the_ring past.the_member h)
past-ring-sync h s y = let l = past-layer-sync h s y in record { shared = l.shared }

past-crosses : (i : knot.the_members) → Crosses past.the_ring i
past-crosses = past.by_members (Crosses past.the_ring) (record { send = past-ring; sync = past-ring-sync })

past-holes : (i : knot.the_members) → IsSend (holes past.the_ring i)
past-holes = both_send past.the_ring past-crosses

past-holes-sync : (i : knot.the_members) → IsSync (holes past.the_ring i)
past-holes-sync = both_sync past.the_ring past-crosses

pub past-send : IsSend past.the_row
past-send = declared_send past.the_type (packets.the_send, (older-send knot.hole-Past (past-holes knot.member-Past) (past-holes-sync knot.member-Past), tt))

pub past-sync : IsSync past.the_row
past-sync = declared_sync past.the_type (packets.the_sync, (older-sync knot.hole-Past (past-holes knot.member-Past) (past-holes-sync knot.member-Past), tt))

inside-send : IsSend inside.the_row
inside-send = declared_send inside.the_type (packets.the_send, (older-send past.the_row past-send past-sync, tt))

pub history-send : IsSend history.the_row
history-send = view_send inside.the_row _ _ _ _ inside-send
