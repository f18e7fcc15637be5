-- The first pair of a switch is named by its place.
use Rattle.std.proofs.Common.{◌≡◌, ℕ, ◌+◌, ◌-◌, ◌*◌, ◌%◌, ◌<◌, ◌≤◌, leb, Bool, true, false, cond, refl, ap, sym, ◌∙◌, arith}
use Rattle.std.proofs.lemmas.Bool.Decides.{nat_tests}
use Rattle.world_journal.specs.Calls.{IsWorker, place_of}
use Rattle.world_journal.proofs.Numbers.{name-place}

place-case : (n w : ℕ) (b : Bool) → leb w n ≡ b → 0 < w → w ≤ n + n → cond b (w - 1) (w - n - 1) < n
place-case n w true is first last = grind (arith, nat_tests)
place-case n w false is first last = grind (arith, nat_tests)

place-within : (n w : ℕ) → IsWorker n w → place_of n w < n
place-within n w h = place-case n w (leb w n) refl h.0 h.1

pub place-named : (n w name : ℕ) → IsWorker n w → name ≡ place_of n w → name % n ≡ place_of n w
place-named n w name h is =
    let none : 0 * n + place_of n w ≡ place_of n w = omega arith in
    ap (λ k. k % n) (is ∙ sym none) ∙ name-place n (place_of n w) 0 (place-within n w h)
