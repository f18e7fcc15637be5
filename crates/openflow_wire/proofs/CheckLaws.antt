-- A check that takes no memory answers as reading does.
use Rattle.std.proofs.Common.{◌≡◌, ℕ, ◌≤◌, List, length, drop, Some, Result, Ok, Err, refl, sym, subst}
use Rattle.std.specs.Prelude.{OnOk, IfErr}
use Rattle.std.proofs.lemmas.Bool.{le-ltb}
use Rattle.nk_values.specs.declared.action.Action.{Action}
use Rattle.nk_values.specs.declared.row.FlowCommand.{FlowCommand}
use Rattle.nk_values.specs.declared.row.FlowMod.{FlowMod}
use Rattle.openflow_wire.specs.declared.message.Message.{Message}
use Rattle.openflow_wire.specs.declared.fault.WireFault.{WireFault}
use Rattle.openflow_wire.specs.Places.{number_at}
use Rattle.openflow_wire.specs.Matches.{match_at}
use Rattle.openflow_wire.specs.Spelling.{Spells}
use Rattle.openflow_wire.specs.Faults.{IsSpoken, IsFirstFault}
use Rattle.openflow_wire.specs.Reading.{ChecksAs, ◌>>=◌, actions_of, command_of, change_of, body_of, reads}
use Rattle.openflow_wire.proofs.TestLaws.{err-is}
use Rattle.openflow_wire.proofs.Laws.{head-read}
use Rattle.openflow_wire.proofs.FaultLaws.{read-fault, memory-told}

-- a value made of what was read
made-checked : {A B C : Type 0} (r : Result C WireFault) (read : Result A WireFault) (f : A → B) → ChecksAs r read → ChecksAs r (read >>= λ x. Ok (f x))
made-checked {A} {B} {C} (Ok u) (Ok x) f h = refl
made-checked {A} {B} {C} (Ok u) (Err e) f h = absurd cc
made-checked {A} {B} {C} (Err d) (Ok x) f h = absurd cc
made-checked {A} {B} {C} (Err d) (Err e) f h = let is = err-is {A = A} e d h in rw is refl

abbrev change_with : List ℕ → FlowCommand → List Action → FlowMod
change_with body c actions = record { command = c; pattern = match_at body; priority = number_at 2 54 body; out_port = number_at 2 60 body; actions = actions }

pub change-checked : {C : Type 0} (body : List ℕ) (c : FlowCommand) (r : Result C WireFault) → 64 ≤ length body → command_of (number_at 2 48 body) ≡ Some c
    → ChecksAs r (actions_of (drop 64 body)) → ChecksAs r (change_of body)
unfolding change_of
change-checked body c r long e h = let l = le-ltb (length body) 64 long in rw (l, e) (made-checked r (actions_of (drop 64 body)) (change_with body c) h)

-- if nothing is wrong with the head, the body decides
pub whole-checked : {C : Type 0} (bytes : List ℕ) (r : Result C WireFault) → 8 ≤ length bytes → IsSpoken bytes → number_at 2 2 bytes ≡ length bytes
    → ChecksAs r (body_of (number_at 1 0 bytes) (number_at 1 1 bytes) (number_at 4 4 bytes) (drop 8 bytes)) → ChecksAs r (reads bytes)
whole-checked bytes r long spoken size h =
    subst (λ (read : Result Message WireFault). ChecksAs r read)
    (sym (head-read bytes (number_at 1 0 bytes) (number_at 1 1 bytes) (number_at 4 4 bytes) (record { long = long; version_is = refl; kind_is = refl; length_is = size; xid_is = refl }) spoken))
    h

-- what a check of all bytes tells of them
pub is-spelled : {C : Type 0} (bytes : List ℕ) (r : Result C WireFault) → ChecksAs r (reads bytes) → OnOk r ((m : Message) × Spells bytes m)
is-spelled bytes (Ok u) h = memory-told bytes (reads bytes) refl h
is-spelled bytes (Err f) h = tt

pub is-first : {C : Type 0} (bytes : List ℕ) (r : Result C WireFault) → ChecksAs r (reads bytes) → IfErr r (λ f. IsFirstFault bytes f)
is-first bytes (Ok u) h = tt
is-first bytes (Err f) h = read-fault bytes f h
