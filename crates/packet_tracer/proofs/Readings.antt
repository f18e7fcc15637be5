-- What is said of an element that is there, and what a read gives.
use Rattle.std.proofs.Common.{◌≡◌, ℕ, zero, suc, ◌+◌, ◌<◌, List, [], ◌∷◌, length, get_or, take, drop, sym, ◌∙◌, ap, subst, slice_get, arith}
use Rattle.std.proofs.lemmas.List.{drop_more}
use Rattle.std.specs.Option.{IsSomeAnd}
use Rattle.nk_values.specs.declared.packet.Packet.{Packet}
use Rattle.nk_values.specs.declared.rows.PortRows.{PortRows}
use Rattle.policy_rows.specs.Means.{standing, port_place, rows_at}
use Rattle.packet_tracer.specs.Advances.{IsPortAt}
use Rattle.packet_tracer.proofs.Parts.{own_rows}

pub read_within : {X : Type 0} (xs : List X) (k : ℕ) (P : X → Type 0) → IsSomeAnd (slice_get xs k) P → k < length xs
read_within [] k P h = absurd h
read_within (x ∷ xs) zero P h = omega arith
read_within (x ∷ xs) (suc k) P h = let r = read_within xs k P h in omega (arith, r)

pub from_read : {X : Type 0} (xs : List X) (k : ℕ) (x : X) (P : X → Type 0) → k < length xs → x ≡ get_or xs k x → P x → IsSomeAnd (slice_get xs k) P
from_read [] k x P l e h = absurd (omega (arith, l))
from_read (y ∷ xs) zero x P l e h = subst P e h
from_read (y ∷ xs) (suc k) x P l e h = from_read xs k x P (omega (arith, l)) e h

pub to_read : {X : Type 0} (xs : List X) (k : ℕ) (x : X) (P : X → Type 0) → IsSomeAnd (slice_get xs k) P → x ≡ get_or xs k x → P x
to_read [] k x P h e = absurd h
to_read (y ∷ xs) zero x P h e = subst P (sym e) h
to_read (y ∷ xs) (suc k) x P h e = to_read xs k x P h e

-- an element of a part
pub of_front : {X : Type 0} (xs : List X) (n k : ℕ) (P : X → Type 0) → IsSomeAnd (slice_get (take n xs) k) P → IsSomeAnd (slice_get xs k) P
of_front [] zero k P h = h
of_front [] (suc n) k P h = h
of_front (x ∷ xs) zero k P h = absurd h
of_front (x ∷ xs) (suc n) zero P h = h
of_front (x ∷ xs) (suc n) (suc k) P h = of_front xs n k P h

pub of_rest : {X : Type 0} (xs : List X) (n k : ℕ) (P : X → Type 0) → IsSomeAnd (slice_get (drop n xs) k) P → IsSomeAnd (slice_get xs (n + k)) P
of_rest xs zero k P h = subst (λ (j : ℕ). IsSomeAnd (slice_get xs j) P) (let e : k ≡ 0 + k = omega arith in e) h
of_rest [] (suc n) k P h = absurd h
of_rest (x ∷ xs) (suc n) k P h = subst (λ (j : ℕ). IsSomeAnd (slice_get (x ∷ xs) j) P) (let e : suc (n + k) ≡ suc n + k = omega arith in e) (of_rest xs n k P h)

-- the port of a packet, among the rest of the ports and in a part of them
pub port_read : (ports : List PortRows) (k : ℕ) (x : PortRows) (q : Packet) → k < length ports → x ≡ get_or ports k x → port_place x ≡ standing q → rows_at (drop k ports) (standing q) ≡ rows_at ports (standing q) → IsPortAt ports q k
port_read ports k x q l e d same =
    let rest : drop k ports ≡ x ∷ drop (k + 1) ports = drop_more ports k x l ∙ ap (λ (p : PortRows). p ∷ drop (k + 1) ports) (sym e) in
    from_read ports k x (λ port. (port_place port ≡ standing q) × (rows_at ports (standing q) ≡ port.rows)) l e
    (d, sym same ∙ ap (λ (ps : List PortRows). rows_at ps (standing q)) rest ∙ own_rows x (drop (k + 1) ports) (standing q) d)

pub port_in_part : (ports : List PortRows) (n count k : ℕ) (q : Packet) → rows_at (take count (drop n ports)) (standing q) ≡ rows_at ports (standing q) → IsPortAt (take count (drop n ports)) q k → IsPortAt ports q (n + k)
port_in_part ports n count k q same h =
    let whole : IsSomeAnd (slice_get (take count (drop n ports)) k) (λ port. (port_place port ≡ standing q) × (rows_at ports (standing q) ≡ port.rows)) =
    subst (λ rs. IsSomeAnd (slice_get (take count (drop n ports)) k) (λ port. (port_place port ≡ standing q) × (rs ≡ port.rows))) same h in
    of_rest ports n k _ (of_front (drop n ports) count k _ whole)
