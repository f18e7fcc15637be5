-- Where the ports of a switch begin.
use Rattle.std.proofs.Common.{◌≡◌, ℕ, zero, suc, ◌+◌, ◌<◌, List, [], ◌∷◌, ◌++◌, length, take, drop, get_or, refl, sym, ap, ◌∙◌, append_assoc, length-append, add-one, drop-cons, arith}
use Rattle.std.specs.List.{flat_map, slice_get}
use Rattle.std.proofs.lemmas.List.{length-map}
use Rattle.std.proofs.lemmas.Option.{slice_get-get_or}
use Rattle.std.specs.Option.{IsSomeAnd}
use Rattle.topology_model.specs.Firsts.{firsts_of, HasPortsBehind}
use Rattle.topology_model.specs.Layouts.{Layout, location_of, locations_at}
use Rattle.topology_model.specs.declared.line.DeclaredSwitch.{DeclaredSwitch}

length-places : (s : DeclaredSwitch) → length (locations_at s) ≡ length s.ports
length-places s = length-map s.ports (λ n. location_of (s.sw, n))

pub length-firsts : (n : ℕ) (ss : List DeclaredSwitch) → length (firsts_of n ss) ≡ length ss
length-firsts n [] = refl
length-firsts n (s ∷ ss) = omega (arith, length-firsts (n + length s.ports) ss)

-- the number at a place
firsts-get : (n : ℕ) (ss : List DeclaredSwitch) (k : ℕ) → k < length ss → get_or (firsts_of n ss) k 0 ≡ n + length (flat_map locations_at (take k ss))
firsts-get n [] k h = absurd (omega (arith, h))
firsts-get n (s ∷ ss) zero h = omega arith
firsts-get n (s ∷ ss) (suc k) h =
    let more = firsts-get (n + length s.ports) ss k (omega (arith, h)) in
    let l = length-append (locations_at s) (flat_map locations_at (take k ss)) in
    omega (arith, more, l, length-places s)

pub counted : (ss : List DeclaredSwitch) (k : ℕ) → k < length ss → get_or (firsts_of 0 ss) k 0 ≡ length (flat_map locations_at (take k ss))
counted ss k h = omega (arith, firsts-get 0 ss k h)

-- whichever number stands for a place that is not there
get-any : (ns : List ℕ) (k d e : ℕ) → k < length ns → get_or ns k d ≡ get_or ns k e
get-any [] k d e h = absurd (omega (arith, h))
get-any (n ∷ ns) zero d e h = refl
get-any (n ∷ ns) (suc k) d e h = get-any ns k d e (omega (arith, h))

pub first-at : (ss : List DeclaredSwitch) (ns : List ℕ) (k n : ℕ) → k < length ss → ns ≡ firsts_of 0 ss → n ≡ get_or ns k n → n ≡ length (flat_map locations_at (take k ss))
first-at ss ns k n h e g =
    g ∙ ap (λ xs. get_or xs k n) e ∙ get-any (firsts_of 0 ss) k n 0 (omega (arith, h, length-firsts 0 ss)) ∙ counted ss k h

-- what stands there
split-at : (ss : List DeclaredSwitch) (k : ℕ) (d : DeclaredSwitch) → k < length ss → flat_map locations_at ss ≡ flat_map locations_at (take k ss) ++ (locations_at (get_or ss k d) ++ flat_map locations_at (drop (suc k) ss))
split-at [] k d h = absurd (omega (arith, h))
split-at (s ∷ ss) zero d h = refl
split-at (s ∷ ss) (suc k) d h =
    ap (λ ps. locations_at s ++ ps) (split-at ss k d (omega (arith, h)))
    ∙ sym (append_assoc (locations_at s) (flat_map locations_at (take k ss)) (locations_at (get_or ss k d) ++ flat_map locations_at (drop (suc k) ss)))

pub ports-behind : (t : Layout) (k n : ℕ) → k < length t.switches → n ≡ length (flat_map locations_at (take k t.switches)) → IsSomeAnd (slice_get t.switches k) (λ s. HasPortsBehind t s n)
ports-behind t k n h e =
    let d : DeclaredSwitch = record { sw = 0; ports = [] } in
    rw (slice_get-get_or t.switches k d h) (record {
      front = flat_map locations_at (take k t.switches);
      back = flat_map locations_at (drop (suc k) t.switches);
      parts = split-at t.switches k d h;
      before = sym e;
    })

-- one more switch
pub firsts-more : (all whole : List ℕ) (ss : List DeclaredSwitch) (i n : ℕ) (d : DeclaredSwitch) → i < length ss → all ++ firsts_of n (drop i ss) ≡ whole
    → (all ++ n ∷ []) ++ firsts_of (n + length (get_or ss i d).ports) (drop (i + 1) ss) ≡ whole
firsts-more all whole ss i n d h e = rw (add-one, append_assoc) (let k = drop-cons ss i d h in ap (λ xs. all ++ firsts_of n xs) (sym k) ∙ e)
