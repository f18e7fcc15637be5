-- What a worker does, by its number.
use Rattle.std.proofs.Common.{◌≡◌, ℕ, ◌+◌, ◌-◌, ◌<◌, true, false, leb, eqb, refl, arith}
use Rattle.std.proofs.lemmas.Bool.{le-leb, lt-leb, ne_eqb}
use Rattle.update_coordinator.specs.declared.cause.Side.TheVariants as side
use Rattle.world_journal.specs.declared.seat.Role.TheVariants as role
use Rattle.world_journal.specs.Calls.{role_of}
use Rattle.world_journal.specs.Makers.{IsTraffic}

pub session-role : (n s : ℕ) → s < n → role_of n (s + 1) ≡ role.At side.Controller s
session-role n s h =
    let called : eqb (s + 1) 0 ≡ false = ne_eqb (s + 1) 0 (λ e. absurd (omega arith)) in
    let works : leb (s + 1) (n + n) ≡ true = le-leb (s + 1) (n + n) (omega arith) in
    let here : leb (s + 1) n ≡ true = le-leb (s + 1) n (omega arith) in
    let place : s + 1 - 1 ≡ s = omega arith in
    rw (called, works, here, place) refl

pub switch-role : (n s : ℕ) → s < n → role_of n (n + s + 1) ≡ role.At side.Switch s
switch-role n s h =
    let called : eqb (n + s + 1) 0 ≡ false = ne_eqb (n + s + 1) 0 (λ e. absurd (omega arith)) in
    let works : leb (n + s + 1) (n + n) ≡ true = le-leb (n + s + 1) (n + n) (omega arith) in
    let there : leb (n + s + 1) n ≡ false = lt-leb (n + s + 1) n (omega arith) in
    let place : n + s + 1 - n - 1 ≡ s = omega arith in
    rw (called, works, there, place) refl

pub traffic-role : (n w : ℕ) → IsTraffic n w → role_of n w ≡ role.Traffic
traffic-role n w h =
    let first = h.0 in
    let called : eqb w 0 ≡ false = ne_eqb w 0 (λ e. absurd (omega arith)) in
    let over : leb w (n + n) ≡ false = lt-leb w (n + n) (omega arith) in
    rw (called, over) refl
