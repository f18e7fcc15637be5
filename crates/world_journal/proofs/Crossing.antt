-- A run may go to another thread: so may its world.
use denote.RattleType.{RattleType}
use denote.Struct.Declared as S
use denote.Builtin.{bool, u16, u32, u64}
use denote.Struct.Field.{row_field, bool-field, u64-field, usize-field}
use denote.Param.Send.{IsSend, SendAt, LiveAt, enum_send_at, recorded_send_of, sendable, view_send}
use denote.Param.SendFields.{variants_send, declared_send, as_row_send}
use Rattle.std.specs.contracts.vec.Vec as vecs
use Rattle.std.specs.contracts.alloc.Global as global
use Rattle.std.specs.contracts.impls.GlobalAllocator.TheImpl as heap
use Rattle.std.proofs.vec.Vec.TheSendSync as listed
use Rattle.std.proofs.alloc.Global.TheSendSync as globals
use Rattle.std.below.std_heap.proofs.GlobalAllocator.TheSendSync as heaps
use Rattle.topology_model.proofs.topology.Topology.TheSendSync as topologies
use Rattle.update_coordinator.proofs.Crossing.{coordinator-send}
use Rattle.world_journal.proofs.Passing.{flights-send, arrival-send}
use Rattle.world_core.specs.contracts.wired_switch.WiredSwitch as end_
use Rattle.world_core.proofs.wired_switch.WiredSwitch.TheSendSync as ends
use Rattle.world_core.specs.contracts.arrival.Arrival as arrival
use Rattle.world_core.specs.contracts.world.World as world
use Rattle.world_core.specs.contracts.world.World.TheInside as inside
use Rattle.world_journal.specs.contracts.held.BookedWorld as held
use Rattle.world_journal.specs.contracts.held.BookedWorld.TheInside as held_inside
use Rattle.world_journal.specs.contracts.run.Run as run
use Rattle.world_journal.specs.contracts.run.Run.TheInside as run_inside
use Rattle.world_journal.specs.contracts.watched.WatchedRun as watched
use Rattle.world_journal.specs.contracts.watched.WatchedRun.TheInside as watched_inside
use Rattle.world_journal.specs.contracts.run_desk.RunDesk as desk
use Rattle.world_journal.specs.contracts.entry.Entry as entry
use Rattle.world_journal.proofs.entry.Entry.TheSendSync as entries
use Rattle.world_journal.specs.contracts.line.Line as line
use Rattle.world_journal.proofs.line.Line.TheSendSync as lines
use Rattle.world_journal.specs.contracts.bell.Bell as bell
use Rattle.world_journal.proofs.bell.Bell.TheSendSync as bells
use Rattle.world_journal.proofs.ahead.StepsAhead.TheSendSync as aheads
use Rattle.world_journal.specs.declared.name.RunName as RunName
use Rattle.world_journal.specs.declared.poster.Poster as Poster
use Rattle.status_board.specs.declared.history.BoardName as BoardName
use Rattle.std.specs.declared.sync.ledger.Ledger as Ledger
use Rattle.outside_net.specs.declared.link.Link as Link
use Rattle.std.proofs.sync.Mutex.TheSendSync as locks
use Rattle.std.proofs.sync.Arc.TheSendSync as arcs
use Rattle.std.proofs.option.Option.TheSendSync as options
use Rattle.std.proofs.sync.ledger.Book.TheSendSync as books
use Rattle.std.proofs.sync.ledger.Share.TheSendSync as shares
use Rattle.std.specs.contracts.sync.Mutex as mutex
use Rattle.std.specs.contracts.option.Option as option
use Rattle.nk_syntax.specs.contracts.pol.Pol as pol
use Rattle.policy_rows.specs.contracts.version.Intent as intent
use Rattle.policy_rows.specs.contracts.version.Intent.TheInside as intent_inside
use Rattle.std.below.core.proofs.snapshot.Sent.{snapshot_send}

vec-send : (R : RattleType) → IsSend R → IsSend (vecs.the_row R global.the_row heap.ghosts)
vec-send R s = listed.the_send R global.the_row heap.ghosts s globals.the_send heaps.the_frees

-- ---- what is meant by a policy, which is nothing in memory
intent-inside : IsSend intent_inside.the_row
intent-inside = declared_send intent_inside.the_type (snapshot_send pol.the_row, tt)

intent-send : IsSend intent.the_row
intent-send = view_send intent_inside.the_row _ _ _ _ intent-inside

-- ---- the world
inside-send : IsSend inside.the_row
inside-send = declared_send inside.the_type (
  topologies.the_send,
  (
    vec-send intent.the_row intent-send,
    (
      as_row_send u64-field (search sendable),
      (
        as_row_send usize-field (search sendable),
        (
          options.the_send u16 (search sendable),
          (
            coordinator-send,
            (
              vec-send end_.the_row ends.the_send,
              (
                flights-send,
                (
                  vec-send arrival.the_row arrival-send,
                  tt,
                ),
              ),
            ),
          ),
        ),
      ),
    ),
  ),
)

pub world-send : IsSend world.the_row
world-send = view_send inside.the_row _ _ _ _ inside-send

-- ---- a run under its lock
held-parts : (L E : RattleType) (a : RunName.Ghosts L.Denot) (b : Ledger.Ghosts L.Denot) (d : BoardName.Ghosts L.Denot) (c : Link.Ghosts E.Denot) → IsSend E → IsSend (held_inside.the_row L E a b d c)
held-parts L E a b d c e = declared_send (held_inside.the_type L E a b d c) (world-send, (vec-send entry.the_row entries.the_send, (vec-send E e, (books.the_send L b, tt))))

held-send : (L E : RattleType) (a : RunName.Ghosts L.Denot) (b : Ledger.Ghosts L.Denot) (d : BoardName.Ghosts L.Denot) (c : Link.Ghosts E.Denot) → IsSend E → IsSend (held.the_row L E a b d c)
held-send L E a b d c e = view_send (held_inside.the_row L E a b d c) _ _ _ _ (held-parts L E a b d c e)

bits-send : IsSend (vecs.the_row bool global.the_row heap.ghosts)
bits-send = vec-send bool (search sendable)

run-parts : (L E : RattleType) (a : RunName.Ghosts L.Denot) (b : Ledger.Ghosts L.Denot) (d : BoardName.Ghosts L.Denot) (c : Link.Ghosts E.Denot) → IsSend E → IsSend (run_inside.the_row L E a b d c)
run-parts L E a b d c e = declared_send (run_inside.the_type L E a b d c) (
  held-send L E a b d c e,
  (
    vec-send line.the_row lines.the_send,
    (
      bits-send,
      (
        as_row_send usize-field (search sendable),
        (
          as_row_send bool-field (search sendable),
          (
            shares.the_send L b,
            (
              as_row_send u64-field (search sendable),
              (
                as_row_send u64-field (search sendable),
                (
                  bits-send,
                  (
                    bits-send,
                    (
                      vec-send u32 (search sendable),
                      (
                        vec-send u64 (search sendable),
                        (
                          vec-send u64 (search sendable),
                          (
                            vec-send (option.the_row E) (options.the_send E e),
                            (
                              vec-send (option.the_row E) (options.the_send E e),
                              tt,
                            ),
                          ),
                        ),
                      ),
                    ),
                  ),
                ),
              ),
            ),
          ),
        ),
      ),
    ),
  ),
)

run-send : (L E : RattleType) (a : RunName.Ghosts L.Denot) (b : Ledger.Ghosts L.Denot) (d : BoardName.Ghosts L.Denot) (c : Link.Ghosts E.Denot) → IsSend E → IsSend (run.the_row L E a b d c)
run-send L E a b d c e = view_send (run_inside.the_row L E a b d c) _ _ _ _ (run-parts L E a b d c e)

watched-parts : (L P E : RattleType) (a : RunName.Ghosts L.Denot) (b : Ledger.Ghosts L.Denot) (d : BoardName.Ghosts L.Denot) (q : Poster.Ghosts P.Denot) (c : Link.Ghosts E.Denot) → IsSend P → IsSend E → IsSend (watched_inside.the_row L P E a b d q c)
watched-parts L P E a b d q c p e = declared_send (watched_inside.the_type L P E a b d q c) (run-send L E a b d c e, (as_row_send (row_field P) p, tt))

watched-send : (L P E : RattleType) (a : RunName.Ghosts L.Denot) (b : Ledger.Ghosts L.Denot) (d : BoardName.Ghosts L.Denot) (q : Poster.Ghosts P.Denot) (c : Link.Ghosts E.Denot) → IsSend P → IsSend E → IsSend (watched.the_row L P E a b d q c)
watched-send L P E a b d q c p e = view_send (watched_inside.the_row L P E a b d q c) _ _ _ _ (watched-parts L P E a b d q c p e)

pub desk-send : (R L P E : RattleType) (a : RunName.Ghosts L.Denot) (b : Ledger.Ghosts L.Denot) (d : BoardName.Ghosts L.Denot) (q : Poster.Ghosts P.Denot) (c : Link.Ghosts E.Denot) → IsSend R → IsSend P → IsSend E → IsSend (desk.the_row R L P E a b d q c)
desk-send R L P E a b d q c r p e =
    let row = watched.the_row L P E a b d q c in
    let locked = options.the_send row (watched-send L P E a b d q c p e) in
    let lock = locks.the_send (option.the_row row) locked in
    let shared = locks.the_sync (option.the_row row) locked in
    declared_send (desk.the_type R L P E a b d q c) (
      as_row_send (row_field R) r,
      (
        as_row_send global.the_field globals.the_field_send,
        (
          arcs.the_send (mutex.the_row (option.the_row row)) global.the_row heap.ghosts lock globals.the_send shared globals.the_sync heaps.the_frees,
          (
            arcs.the_send (vecs.the_row bell.the_row global.the_row heap.ghosts) global.the_row heap.ghosts (vec-send bell.the_row bells.the_send) globals.the_send (listed.the_sync bell.the_row global.the_row heap.ghosts bells.the_sync globals.the_sync) globals.the_sync heaps.the_frees,
            (aheads.the_send, tt),
          ),
        ),
      ),
    )
