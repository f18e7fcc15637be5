-- What the answers of a desk say.
use Rattle.std.specs.Prelude.{◌≡◌, List, [], ◌∷◌, ◌++◌, Option, Some, None, Result, Ok, Err}
use Rattle.openflow_wire.specs.declared.message.Message.{Message}
use Rattle.openflow_wire.specs.Writing.{Fits}
use Rattle.worker_desk.specs.declared.desk.WorkerTask.{WorkerTask}
use Rattle.worker_desk.specs.declared.desk.WorkerTask.TheVariants.{Out, Expect, Nothing, NewEnd, Stop}
use Rattle.worker_desk.specs.declared.desk.TellResult.{TellResult}
use Rattle.worker_desk.specs.declared.desk.TellResult.TheVariants.{Back, Kept, Memory}
use Rattle.worker_desk.specs.declared.desk.IdleTask.{IdleTask}
use Rattle.worker_desk.specs.declared.desk.IdleTask.TheVariants as shut

-- A known list grows by these, and what is not known stays so.
abbrev pub grown : {X : Type 0} → Option (List X) → List X → Option (List X)
grown None ys = None
grown (Some xs) ys = Some (xs ++ ys)

-- the message that is to be sent, if there is one
abbrev pub message_of : {E : Type 0} → WorkerTask E → List Message
message_of (Out m made) = m ∷ []
message_of (Expect made) = []
message_of (Nothing made) = []
message_of (NewEnd end) = []
message_of Stop = []

abbrev pub gave : {E F : Type 0} → Result (WorkerTask E) F → List Message
gave (Ok g) = message_of g
gave (Err e) = []

-- a message that is to be sent can be written
abbrev pub CanBeWritten : {E : Type 0} → WorkerTask E → Type 0
CanBeWritten (Out m made) = Fits m
CanBeWritten (Expect made) = Unit {0}
CanBeWritten (Nothing made) = Unit {0}
CanBeWritten (NewEnd end) = Unit {0}
CanBeWritten Stop = Unit {0}

-- what holds of a new end
abbrev pub OnNewEnd : {E : Type 0} → (E → Type 0) → WorkerTask E → Type 0
OnNewEnd P (Out m made) = Unit {0}
OnNewEnd P (Expect made) = Unit {0}
OnNewEnd P (Nothing made) = Unit {0}
OnNewEnd P (NewEnd end) = P end
OnNewEnd P Stop = Unit {0}

abbrev pub OnShutNewEnd : {E : Type 0} → (E → Type 0) → IdleTask E → Type 0
OnShutNewEnd P (shut.NewEnd end) = P end
OnShutNewEnd P shut.Nothing = Unit {0}
OnShutNewEnd P shut.Stop = Unit {0}

-- an end that comes back is the one that was handed in
abbrev pub GivesBack : {E : Type 0} → E → TellResult E → Type 0
GivesBack end (Back e made) = e ≡ end
GivesBack end Kept = Unit {0}
GivesBack end (Memory e) = e ≡ end

-- what holds if the end was kept
abbrev pub OnKept : {E : Type 0} → TellResult E → Type 0 → Type 0
OnKept (Back e made) P = Unit {0}
OnKept Kept P = P
OnKept (Memory e) P = Unit {0}
