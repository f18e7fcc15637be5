-- One trouble more.
use Rattle.std.proofs.Common.{◌≡◌, ℕ, ◌+◌, ◌<◌, List, [], ◌∷◌, ◌++◌, length, take, get_or, refl, sym, ap, ◌∙◌, append-nil}
use Rattle.std.proofs.lemmas.List.{take_more}
use Rattle.outside_net.specs.declared.trouble.Effect.{Effect}
use Rattle.outside_net.specs.declared.trouble.End.{End}
use Rattle.outside_net.specs.declared.trouble.Trouble.{Trouble}
use Rattle.outside_net.specs.declared.trouble.Trouble.TheVariants.{Call, Send}
use Rattle.outside_net.specs.Troubles.{listed_calls}

listed_append : (ts us : List Trouble) → listed_calls (ts ++ us) ≡ listed_calls ts ++ listed_calls us
listed_append [] us = refl
listed_append (Call n ∷ ts) us = ap (λ ns. n ∷ ns) (listed_append ts us)
listed_append (Send name end number effect ∷ ts) us = listed_append ts us

listed_more : (ts : List Trouble) (i : ℕ) (d : Trouble) → i < length ts → listed_calls (take (i + 1) ts) ≡ listed_calls (take i ts) ++ listed_calls (get_or ts i d ∷ [])
listed_more ts i d h = ap listed_calls (take_more ts i d h) ∙ listed_append (take i ts) (get_or ts i d ∷ [])

pub listed_call : (ts : List Trouble) (i : ℕ) (t : Trouble) (n : ℕ) (calls : List ℕ) → i < length ts → t ≡ get_or ts i t → t ≡ Call n → calls ≡ listed_calls (take i ts) → calls ++ n ∷ [] ≡ listed_calls (take (i + 1) ts)
listed_call ts i t n calls h at is k =
    let e : listed_calls (get_or ts i t ∷ []) ≡ n ∷ [] = ap (λ x. listed_calls (x ∷ [])) (sym at ∙ is) in
    (ap (λ xs. xs ++ n ∷ []) k ∙ ap (λ ys. listed_calls (take i ts) ++ ys) (sym e)) ∙ sym (listed_more ts i t h)

pub listed_send : (ts : List Trouble) (i : ℕ) (t : Trouble) (name : ℕ) (end : End) (number : ℕ) (effect : Effect) (calls : List ℕ) → i < length ts → t ≡ get_or ts i t → t ≡ Send name end number effect → calls ≡ listed_calls (take i ts) → calls ≡ listed_calls (take (i + 1) ts)
listed_send ts i t name end number effect calls h at is k =
    let e : listed_calls (get_or ts i t ∷ []) ≡ [] = ap (λ x. listed_calls (x ∷ [])) (sym at ∙ is) in
    ((k ∙ sym (append-nil (listed_calls (take i ts)))) ∙ ap (λ ys. listed_calls (take i ts) ++ ys) (sym e)) ∙ sym (listed_more ts i t h)
