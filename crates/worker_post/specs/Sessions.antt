-- What a worker does in one session after the other.
use Rattle.std.specs.Prelude.{◌≡◌, ℕ, List, [], ◌∷◌, Option, Some, None, IfSome}
use Rattle.openflow_wire.specs.declared.message.Message.{Message}
use Rattle.worker_desk.specs.Notices.{Notice}
use Rattle.worker_post.specs.Works.{IsEnd}
use Rattle.worker_post.specs.Noting.{IsNotedOf}

-- an end of a pair of the switch at this place, over which nothing was received
abbrev pub IsNew : {E : Type 0} → (ℕ → ℕ) → (E → ℕ) → (E → Option (List ℕ)) → ℕ → E → Type 0
IsNew place_of named received place e = (place_of (named e) ≡ place) × IfSome (received e) (λ xs. xs ≡ [])

-- the end that comes back, or else the one that was kept, if it is known
abbrev pub last_end : {E : Type 0} → Option E → Option E → Option E
last_end None kept = kept
last_end (Some e) kept = Some e

-- One session: what was given and told before it, its end at first, and at last, if that is known.
pub record Session (E : Type 0) : Type 0 where
  pub given : Option (List Message)
  pub told : Option (List (List ℕ))
  pub notices : Option (List Notice)
  pub first : E
  pub last : Option E

-- A session carried the encodings of what was given in it, and told a beginning of what was received in it. That its
-- end failed it told exactly if it did.
pub record IsServed {E : Type 0} (sent received : E → Option (List ℕ)) (named faults : E → ℕ) (x : Session E)
    (given : Option (List Message)) (told : Option (List (List ℕ))) (notices : Option (List Notice)) : Type 0 where
  pub ended : IfSome x.last
      (λ e. IsEnd x.given x.told (sent x.first) (received x.first) given told (sent e) (received e))
  pub noted : IsNotedOf faults x.last (named x.first) (faults x.first) x.notices notices

-- After these sessions, the newest in front, the next one begins over this end, with this given and told. The first one
-- began over `end`.
abbrev pub FollowsSession : {E : Type 0} → (E → Option (List ℕ)) → (E → Option (List ℕ)) → (E → ℕ) → (E → ℕ) → E →
    Option (List Message) → Option (List (List ℕ)) → Option (List Notice) → List (Session E) → E →
    Option (List Message) → Option (List (List ℕ)) → Option (List Notice) → Type 0
FollowsSession sent received named faults end g0 t0 n0 [] first given told notices = (first ≡ end) × (given ≡ g0) ×
    (told ≡ t0) × (notices ≡ n0)
FollowsSession sent received named faults end g0 t0 n0 (x ∷ xs) first given told notices =
    IsServed sent received named faults x given told notices ×
    FollowsSession sent received named faults end g0 t0 n0 xs x.first x.given x.told x.notices

-- A worker began over `end` and worked through sessions, of which the newest came to its end.
pub record HasWorked {E : Type 0} (sent received : E → Option (List ℕ)) (named faults : E → ℕ) (end : E)
    (kept : Option E) (g0 : Option (List Message)) (t0 : Option (List (List ℕ))) (n0 : Option (List Notice))
    (given : Option (List Message)) (told : Option (List (List ℕ))) (notices : Option (List Notice))
    (result : Option E) : Type 0 where
  pub newest : Session E
  pub earlier : List (Session E)
  pub last : newest.last ≡ last_end result kept
  pub served : IsServed sent received named faults newest given told notices
  pub follows : FollowsSession sent received named faults end g0 t0 n0 earlier newest.first newest.given newest.told
      newest.notices
