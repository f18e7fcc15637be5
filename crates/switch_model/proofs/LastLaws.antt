-- The last of a list, taken out.
use Rattle.std.proofs.Common.{◌≡◌, ℕ, ◌+◌, ◌-◌, suc, List, [], ◌++◌, length, take, drop, sym, ap, ◌∙◌, arith, append-nil}
use Rattle.std.specs.List.{remove}
use Rattle.std.proofs.lemmas.List.{drop_all}

-- all but the last are the others
pub last-removed : {X : Type 0} (xs ys : List X) (place n : ℕ) → place + 1 ≡ n → n ≡ length xs → ys ≡ take (n - 1) xs → ys ≡ remove xs place
last-removed xs ys place n last all e =
    let before : n - 1 ≡ place = omega (arith, last) in
    let none : drop (suc place) xs ≡ [] = drop_all (suc place) xs (omega (arith, last, all)) in
    e ∙ ap (λ (k : ℕ). take k xs) before ∙ sym (append-nil (take place xs)) ∙ ap (λ zs. take place xs ++ zs) (sym none)
