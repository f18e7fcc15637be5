-- The value after `=` or `:=`.
use Rattle.std.proofs.Common.{◌≡◌, ◌≢◌, ℕ, Bool, true, false, not, cond, ◌==◌, List, [], ◌∷◌, length, Some, inl, refl, arith}
use Rattle.std.proofs.lemmas.Bool.Decides.{nat_tests}
use Rattle.nk_values.specs.declared.field.Field.{Field}
use Rattle.nk_values.specs.Ranges.{IsLiteralOf}
use Rattle.nk_syntax.specs.Terms.{Term, Filter, Test, Assign}
use Rattle.nk_values.specs.declared.text_fault.TextFault.TheVariants as fault
use Rattle.netkat_parser.specs.Numbers.{number}
use Rattle.netkat_parser.specs.Signs.{sign, past, run, past_run}
use Rattle.netkat_parser.specs.Grammar.{Spot, Got, Read, Bad, literal, is_too_many, with_pair, IsRun, IsPair}
use Rattle.netkat_parser.specs.declared.sign.Sign.TheVariants.{Equals, Becomes}
use Rattle.netkat_parser.specs.Answers.{spot}

pub run-literal : (depth : ℕ) (f : Field) (make : ℕ → Term) (s : Spot) (r : List ℕ) (n : ℕ) (o : Got Term)
    → length r ≢ 0 → number f r ≡ Some n → IsLiteralOf f n → o ≡ literal f make s n → IsRun depth f make s r o
run-literal depth f make s [] n o some e l h = absurd (some refl)
run-literal depth f make s (b ∷ bs) n o some e l h = rw e (inl (l, h))

pub read-by : (f : Field) (make : ℕ → Term) (s : Spot) (n : ℕ) (b : Bool) → b ≡ false
    → Read (make n) (record { text = past_run s.text; named = with_pair s.named f n })
    ≡ cond b (Bad fault.TooManyValues s.text) (Read (make n) (record { text = past_run s.text; named = with_pair s.named f n }))
read-by f make s n b e = rw e refl

bad-by : (f : Field) (make : ℕ → Term) (s : Spot) (n : ℕ) (b : Bool) → b ≡ true
    → Bad fault.TooManyValues s.text
    ≡ cond b (Bad fault.TooManyValues s.text) (Read (make n) (record { text = past_run s.text; named = with_pair s.named f n }))
bad-by f make s n b e = rw e refl

not-false : (b : Bool) → true ≡ not b → b ≡ false
not-false false e = refl
not-false true e = cc

not-true : (b : Bool) → false ≡ not b → b ≡ true
not-true false e = cc
not-true true e = refl

filled : (n : ℕ) → false ≡ (n == 0) → n ≢ 0
filled n e = grind (arith, nat_tests)

-- a literal of the field that there is room for
pub value-read : (depth : ℕ) (f g : Field) (n : ℕ) (text : List ℕ) (before after : List (Field × ℕ)) (r rest : List ℕ) (room : Bool) (make : ℕ → Term)
    → r ≡ run text → rest ≡ past_run text → false ≡ (length r == 0) → IsLiteralOf g n → (g ≡ f) × (number f r ≡ Some n)
    → room ≡ true → room ≡ not (is_too_many before g n) → after ≡ cond room (with_pair before g n) before
    → IsRun depth f make (spot text before) (run text) (Read (make n) (spot rest after))
value-read depth f g n text before after r rest room make is_run is_rest some lit e fits is_room is_after =
    let is_room' = rw (fits, e.0) at is_room in
    let is_after' = rw (fits, e.0) at is_after in
    let some' = rw is_run at some in
    rw (is_rest, is_after')
    (run-literal depth f make (spot text before) (run text) n _ (filled _ some')
    (rw is_run at e.1) (rw e.0 at lit) (read-by f make (spot text before) n _ (not-false _ is_room')))

-- a literal of the field that is one too many
pub value-bad : (depth : ℕ) (f g : Field) (n : ℕ) (text : List ℕ) (before : List (Field × ℕ)) (r : List ℕ) (room : Bool) (make : ℕ → Term)
    → r ≡ run text → false ≡ (length r == 0) → IsLiteralOf g n → (g ≡ f) × (number f r ≡ Some n)
    → room ≡ false → room ≡ not (is_too_many before g n)
    → IsRun depth f make (spot text before) (run text) (Bad fault.TooManyValues text)
value-bad depth f g n text before r room make is_run some lit e full is_room =
    let is_room' = rw (full, e.0) at is_room in
    let some' = rw is_run at some in
    run-literal depth f make (spot text before) (run text) n _ (filled _ some')
    (rw is_run at e.1) (rw e.0 at lit) (bad-by f make (spot text before) n _ (not-true _ is_room'))

-- a test and an assignment
pub test : (depth : ℕ) (inside : Bool) (f : Field) (text behind : List ℕ) (named : List (Field × ℕ)) (o : Got Term)
    → sign text ≡ Equals → behind ≡ past text → IsRun depth f (λ n. Filter (Test f n)) (spot behind named) (run behind) o → IsPair depth inside f (spot text named) (sign text) o
test depth inside f text behind named o e b h = rw e (rw b at h)

pub assignment : (depth : ℕ) (inside : Bool) (f : Field) (text behind : List ℕ) (named : List (Field × ℕ)) (o : Got Term)
    → sign text ≡ Becomes → inside ≡ false → behind ≡ past text → IsRun depth f (Assign f) (spot behind named) (run behind) o → IsPair depth inside f (spot text named) (sign text) o
assignment depth inside f text behind named o e not_inside b h = rw (e, not_inside) (rw b at h)
