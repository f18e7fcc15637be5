-- Results that are kept once.
use Rattle.std.proofs.Common.{◌≡◌, suc, ◌+◌, ◌∙◌, ap, sym, arith, Bool, true, false, cond, not, List, [], ◌∷◌, Option, Some, is_some, unwrap_or}
use Rattle.std.proofs.lemmas.Bool.{false≢true}
use Rattle.std.specs.List.{position_or_len}
use Rattle.std.specs.Map.{keys_of, lookup}
use Rattle.indexmap.specs.IndexMap.{insert_entry, set_value_at}

-- the value that a key had, put back where another one was inserted
pub put_back : {K V : Type 0} (eq : K → K → Bool) (es : List (K × V)) (k : K) (v w : V) → lookup (eq k) es ≡ Some w → set_value_at (insert_entry eq es k v) (position_or_len (eq k) (keys_of es)) w ≡ es
put_back eq [] k v w h = absurd (false≢true (ap is_some h))
put_back {K} {V} eq (e ∷ es) k v w h = by (eq k e.0) h (λ s. put_back eq es k v w s)
  where
    by : (b : Bool) → cond b (Some e.1) (lookup (eq k) es) ≡ Some w → (lookup (eq k) es ≡ Some w → set_value_at (insert_entry eq es k v) (position_or_len (eq k) (keys_of es)) w ≡ es) → set_value_at (cond b ((e.0, v) ∷ es) (e ∷ insert_entry eq es k v)) (cond (not b) (1 + position_or_len (eq k) (keys_of es)) 0) w ≡ e ∷ es
    by true h rest = ap (λ (z : Option V). (e.0, unwrap_or z w) ∷ es) (sym h)
    by false h rest =
        let n : 1 + position_or_len (eq k) (keys_of es) ≡ suc (position_or_len (eq k) (keys_of es)) = omega arith in
        ap (λ i. set_value_at (e ∷ insert_entry eq es k v) i w) n ∙ ap (λ (xs : List (K × V)). e ∷ xs) (rest h)
