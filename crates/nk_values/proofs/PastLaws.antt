-- Histories and their pasts: of two pasts of one history the one is the past of the other.
use Rattle.std.proofs.Common.{◌≡◌, suc, ◌+◌, ◌≤◌, ◌⊎◌, inl, inr, List, [], ◌∷◌, ◌++◌, length, refl, sym, ◌∙◌, ap, arith}
use Rattle.std.proofs.lemmas.List.{append_assoc, length-append}
use Rattle.nk_values.specs.declared.packet.Packet.{Packet}
use Rattle.nk_values.specs.Trails.{Trail, packets, IsPast, HaveParted}

pub first-same : {X : Type 0} (x y : X) (xs ys : List X) → x ∷ xs ≡ y ∷ ys → x ≡ y
first-same x y xs ys e = cc

pub rest-same : {X : Type 0} (x y : X) (xs ys : List X) → x ∷ xs ≡ y ∷ ys → xs ≡ ys
rest-same x y xs ys e = cc

pub past-self : (h : Trail) → IsPast h h
past-self h = record { since = []; all = refl }

-- with one packet more
pub past-more : (h e : Trail) (since : List Packet) → e.older ≡ since ++ packets h → IsPast h e
past-more h e since d = record { since = e.newest ∷ since; all = ap (λ (ps : List Packet). e.newest ∷ ps) d }

pub past-then : (g h e : Trail) → IsPast g h → IsPast h e → IsPast g e
past-then g h e p q = record { since = q.since ++ p.since; all = q.all ∙ ap (λ (ps : List Packet). q.since ++ ps) p.all ∙ sym (append_assoc q.since p.since (packets g)) }

-- two ends of one list
ends-meet : (ss ts us vs : List Packet) → ss ++ us ≡ ts ++ vs → ((rs : List Packet) × (us ≡ rs ++ vs)) ⊎ ((rs : List Packet) × (vs ≡ rs ++ us))
ends-meet [] ts us vs e = inl (ts, e)
ends-meet (s ∷ ss) [] us vs e = inr (s ∷ ss, sym e)
ends-meet (s ∷ ss) (t ∷ ts) us vs e = ends-meet ss ts us vs (rest-same s t (ss ++ us) (ts ++ vs) e)

pub pasts-meet : (g h e : Trail) → IsPast g e → IsPast h e → IsPast g h ⊎ IsPast h g
pasts-meet g h e p q = elim (ends-meet p.since q.since (packets g) (packets h) (sym p.all ∙ q.all)) [
  | inl r ↦ inr (record { since = r.0; all = r.1 })
  | inr r ↦ inl (record { since = r.0; all = r.1 })
]

trail-same : (g h : Trail) → packets g ≡ packets h → g ≡ h
trail-same g h e =
    let newest = first-same g.newest h.newest g.older h.older e in
    let older = rest-same g.newest h.newest g.older h.older e in
    λ i. record { newest = newest i; older = older i }

-- a past of the same length is the history itself
pub past-same : (g h : Trail) → IsPast g h → length g.older ≡ length h.older → g ≡ h
past-same g h p l = split p.since p.all
  where
    split : (since : List Packet) → packets h ≡ since ++ packets g → g ≡ h
    split [] e = sym (trail-same h g e)
    split (s ∷ ss) e =
        let d : length (packets h) ≡ suc (length (ss ++ packets g)) = ap (λ (ps : List Packet). length ps) e in
        let k : length (ss ++ packets g) ≡ length ss + length (packets g) = length-append ss (packets g) in
        absurd (omega (arith, d, k, l))

-- a past is no longer
pub past-length : (g h : Trail) → IsPast g h → length g.older ≤ length h.older
past-length g h p =
    let d : length (packets h) ≡ length (p.since ++ packets g) = ap (λ (ps : List Packet). length ps) p.all in
    let k : length (p.since ++ packets g) ≡ length p.since + length (packets g) = length-append p.since (packets g) in
    omega (arith, d, k)

pub parted-sym : (g h : Trail) → HaveParted g h → HaveParted h g
parted-sym g h p = record { left = p.right; right = p.left }

-- what has parted has no history in common
pub parted-none : (g h e : Trail) → HaveParted g h → IsPast g e → IsPast h e → ⊥
parted-none g h e p m n = elim (pasts-meet g h e m n) [ inl a ↦ p.left a | inr b ↦ p.right b ]

-- and stays parted
pub parted-on : (g h x y : Trail) → HaveParted g h → IsPast g x → IsPast h y → HaveParted x y
parted-on g h x y p m n = record { left = λ a. parted-none g h y p (past-then g x y m a) n; right = λ b. parted-none g h x p m (past-then h y x n b) }
