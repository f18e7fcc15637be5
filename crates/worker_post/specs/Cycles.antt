-- How a cycle of a worker ends.
use Rattle.std.specs.Prelude.{◌≡◌, ℕ, List, Option, IfSome}
use Rattle.std.specs.Io.KnownBytes.{Appends}
use Rattle.openflow_wire.specs.declared.message.Message.{Message}
use Rattle.outside_io.specs.Lists.{AppendsPrefix}
use Rattle.worker_post.specs.Working.{TellsStream, Continues}
use Rattle.worker_post.specs.Works.{IsWorkAt, IsEnd}
use Rattle.worker_post.specs.declared.post.CycleEnd.{CycleEnd}
use Rattle.worker_post.specs.declared.post.CycleEnd.TheVariants.{Going, Shut, New, Stop, Memory, Kept}
use Rattle.worker_post.specs.declared.post.telling.TellOutcome.{TellOutcome}
use Rattle.worker_post.specs.declared.post.telling.TellOutcome.TheVariants.{Rest, Told}

-- the end is the one that was handed in, whether it comes back or was kept
abbrev pub HasEnd : {E : Type 0} → E → Option E → CycleEnd E → Type 0
HasEnd end kept (Going e) = e ≡ end
HasEnd end kept (Shut e) = e ≡ end
HasEnd end kept (New e new) = e ≡ end
HasEnd end kept (Stop e) = e ≡ end
HasEnd end kept (Memory e) = e ≡ end
HasEnd end kept Kept = IfSome kept (λ e. e ≡ end)

abbrev pub NextHasEnd : {E : Type 0} → E → Option E → TellOutcome E → Type 0
NextHasEnd end kept (Rest e) = e ≡ end
NextHasEnd end kept (Told after) = HasEnd end kept after

-- the one if the worker goes on, and else the other
abbrev pub GoesOn : {E : Type 0} → CycleEnd E → Type 0 → Type 0 → Type 0
GoesOn (Going e) p q = p
GoesOn (Shut e) p q = q
GoesOn (New e new) p q = q
GoesOn (Stop e) p q = q
GoesOn (Memory e) p q = q
GoesOn Kept p q = q

abbrev pub NextGoesOn : {E : Type 0} → TellOutcome E → Type 0 → Type 0 → Type 0
NextGoesOn (Rest e) p q = p
NextGoesOn (Told after) p q = GoesOn after p q

-- what a worker did up to the end of a cycle; `kept` is the end that was kept, if that is known
abbrev pub Works : {E : Type 0} → (E → Option (List ℕ)) → (E → Option (List ℕ)) → Option E → Option (List Message) →
    Option (List (List ℕ)) → Option (List ℕ) → Option (List ℕ) → Option (List Message) → Option (List (List ℕ)) →
    List ℕ → ℕ → CycleEnd E → Type 0
Works sent received kept g0 t0 s0 r0 given told held k (Going e) =
    IsWorkAt g0 t0 s0 r0 given told (sent e) (received e) held k
Works sent received kept g0 t0 s0 r0 given told held k (Shut e) = IsEnd g0 t0 s0 r0 given told (sent e) (received e)
Works sent received kept g0 t0 s0 r0 given told held k (New e new) = IsEnd g0 t0 s0 r0 given told (sent e) (received e)
Works sent received kept g0 t0 s0 r0 given told held k (Stop e) = IsEnd g0 t0 s0 r0 given told (sent e) (received e)
Works sent received kept g0 t0 s0 r0 given told held k (Memory e) = IsEnd g0 t0 s0 r0 given told (sent e) (received e)
Works sent received kept g0 t0 s0 r0 given told held k Kept =
    IfSome kept (λ e. IsEnd g0 t0 s0 r0 given told (sent e) (received e))

-- of the end, whether it comes back or was kept
abbrev pub EndIs : {E : Type 0} → (E → Type 0) → Option E → CycleEnd E → Type 0
EndIs P kept (Going e) = P e
EndIs P kept (Shut e) = P e
EndIs P kept (New e new) = P e
EndIs P kept (Stop e) = P e
EndIs P kept (Memory e) = P e
EndIs P kept Kept = IfSome kept P

abbrev pub GoesOnWith : {E : Type 0} → (E → Type 0) → CycleEnd E → Type 0
GoesOnWith P (Going e) = P e
GoesOnWith P (Shut e) = Unit {0}
GoesOnWith P (New e new) = Unit {0}
GoesOnWith P (Stop e) = Unit {0}
GoesOnWith P (Memory e) = Unit {0}
GoesOnWith P Kept = Unit {0}

abbrev pub SentCycle : {E : Type 0} → (E → Option (List ℕ)) → Option E → Option (List ℕ) → List ℕ → CycleEnd E → Type 0
SentCycle sent kept before bytes (Going e) = Appends before (sent e) bytes
SentCycle sent kept before bytes (Shut e) = AppendsPrefix before (sent e) bytes
SentCycle sent kept before bytes (New e new) = AppendsPrefix before (sent e) bytes
SentCycle sent kept before bytes (Stop e) = AppendsPrefix before (sent e) bytes
SentCycle sent kept before bytes (Memory e) = AppendsPrefix before (sent e) bytes
SentCycle sent kept before bytes Kept = IfSome kept (λ e. AppendsPrefix before (sent e) bytes)

abbrev pub ToldCycle : {E : Type 0} → (E → Option (List ℕ)) → Option E → Option (List (List ℕ)) → Option (List ℕ) →
    Option (List (List ℕ)) → List ℕ → ℕ → CycleEnd E → Type 0
ToldCycle received kept t0 r0 told held k (Going e) = Continues t0 told r0 (received e) held k
ToldCycle received kept t0 r0 told held k (Shut e) = TellsStream t0 told r0 (received e)
ToldCycle received kept t0 r0 told held k (New e new) = TellsStream t0 told r0 (received e)
ToldCycle received kept t0 r0 told held k (Stop e) = TellsStream t0 told r0 (received e)
ToldCycle received kept t0 r0 told held k (Memory e) = TellsStream t0 told r0 (received e)
ToldCycle received kept t0 r0 told held k Kept = IfSome kept (λ e. TellsStream t0 told r0 (received e))

-- what holds of a new end
abbrev pub OnNew : {E : Type 0} → (E → Type 0) → CycleEnd E → Type 0
OnNew P (Going e) = Unit {0}
OnNew P (Shut e) = Unit {0}
OnNew P (New e new) = P new
OnNew P (Stop e) = Unit {0}
OnNew P (Memory e) = Unit {0}
OnNew P Kept = Unit {0}

abbrev pub NextOnNew : {E : Type 0} → (E → Type 0) → TellOutcome E → Type 0
NextOnNew P (Rest e) = Unit {0}
NextOnNew P (Told after) = OnNew P after

-- how a session ends: `Works` of a worker that does not go on
abbrev pub Serves : {E : Type 0} → (E → Option (List ℕ)) → (E → Option (List ℕ)) → Option E → Option (List Message) →
    Option (List (List ℕ)) → Option (List ℕ) → Option (List ℕ) → Option (List Message) → Option (List (List ℕ)) →
    CycleEnd E → Type 0
Serves sent received kept g0 t0 s0 r0 given told (Going e) = ⊥
Serves sent received kept g0 t0 s0 r0 given told (Shut e) = IsEnd g0 t0 s0 r0 given told (sent e) (received e)
Serves sent received kept g0 t0 s0 r0 given told (New e new) = IsEnd g0 t0 s0 r0 given told (sent e) (received e)
Serves sent received kept g0 t0 s0 r0 given told (Stop e) = IsEnd g0 t0 s0 r0 given told (sent e) (received e)
Serves sent received kept g0 t0 s0 r0 given told (Memory e) = IsEnd g0 t0 s0 r0 given told (sent e) (received e)
Serves sent received kept g0 t0 s0 r0 given told Kept =
    IfSome kept (λ e. IsEnd g0 t0 s0 r0 given told (sent e) (received e))
