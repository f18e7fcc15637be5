-- Lists of events with one more at the end.
use Rattle.std.proofs.Common.{◌≡◌, ℕ, ◌+◌, List, [], ◌∷◌, ◌++◌, length, Option, Some, None, refl, sym, ◌∙◌, ap, arith, append_assoc, length-append}
use Rattle.world_core.specs.declared.event.Event.{Event}
use Rattle.world_core.specs.declared.short.ShortEvent.{ShortEvent}
use Rattle.world_core.specs.Events.{event_of, wanted, first_of, left_of, unpacked, whole_count}

-- one that stands for itself
pub unpacked-short : (ss : List ShortEvent) (s : ShortEvent) (e : Event) (ws : List Event) → event_of s ≡ Some e → unpacked (ss ++ s ∷ []) ws ≡ unpacked ss ws ++ e ∷ []
unpacked-short [] s e ws is = rw is refl
unpacked-short (x ∷ ss) s e ws is =
    ap (λ (es : List Event). first_of (event_of x) ws ++ es) (unpacked-short ss s e (left_of (event_of x) ws) is) ∙ sym (append_assoc (first_of (event_of x) ws) (unpacked ss (left_of (event_of x) ws)) (e ∷ []))

-- those kept whole that are left are as many as the others stand for
left-count : (o : Option Event) (n : ℕ) (ws : List Event) → wanted o + n ≡ length ws → n ≡ length (left_of o ws)
left-count (Some e) n ws is = omega (arith, is)
left-count None n [] is = omega (arith, is)
left-count None n (w ∷ ws) is = omega (arith, is)

-- and one more of them changes nothing in front
first-more : (o : Option Event) (n : ℕ) (ws : List Event) (w : Event) → wanted o + n ≡ length ws → first_of o (ws ++ w ∷ []) ≡ first_of o ws
first-more (Some e) n ws w is = refl
first-more None n [] w is = absurd (omega (arith, is))
first-more None n (x ∷ ws) w is = refl

left-more : (o : Option Event) (n : ℕ) (ws : List Event) (w : Event) → wanted o + n ≡ length ws → left_of o (ws ++ w ∷ []) ≡ left_of o ws ++ w ∷ []
left-more (Some e) n ws w is = refl
left-more None n [] w is = absurd (omega (arith, is))
left-more None n (x ∷ ws) w is = refl

-- one that is kept whole
pub unpacked-whole : (ss : List ShortEvent) (s : ShortEvent) (w : Event) (ws : List Event) → event_of s ≡ None → whole_count ss ≡ length ws → unpacked (ss ++ s ∷ []) (ws ++ w ∷ []) ≡ unpacked ss ws ++ w ∷ []
unpacked-whole [] s w [] none is = rw none refl
unpacked-whole [] s w (x ∷ ws) none is = absurd (omega (arith, is))
unpacked-whole (x ∷ ss) s w ws none is =
    let left = left-more (event_of x) (whole_count ss) ws w is in
    let front = first-more (event_of x) (whole_count ss) ws w is in
    let rest = unpacked-whole ss s w (left_of (event_of x) ws) none (left-count (event_of x) (whole_count ss) ws is) in
    rw (front, left, rest) (sym (append_assoc (first_of (event_of x) ws) (unpacked ss (left_of (event_of x) ws)) (w ∷ [])))

first-length : (o : Option Event) (n : ℕ) (ws : List Event) → wanted o + n ≡ length ws → length (first_of o ws) ≡ 1
first-length (Some e) n ws is = refl
first-length None n [] is = absurd (omega (arith, is))
first-length None n (w ∷ ws) is = refl

pub unpacked-length : (ss : List ShortEvent) (ws : List Event) → whole_count ss ≡ length ws → length (unpacked ss ws) ≡ length ss
unpacked-length [] ws is = refl
unpacked-length (x ∷ ss) ws is =
    let rest = unpacked-length ss (left_of (event_of x) ws) (left-count (event_of x) (whole_count ss) ws is) in
    let one = first-length (event_of x) (whole_count ss) ws is in
    let both = length-append (first_of (event_of x) ws) (unpacked ss (left_of (event_of x) ws)) in
    omega (arith, rest, one, both)

-- how many of them are kept whole
pub count-more : (ss : List ShortEvent) (s : ShortEvent) → whole_count (ss ++ s ∷ []) ≡ whole_count ss + wanted (event_of s)
count-more [] s = omega arith
count-more (x ∷ ss) s = omega (arith, count-more ss s)
