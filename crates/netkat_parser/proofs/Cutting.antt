-- Signs, runs and what stands between them, in a text that may go on.
use Rattle.std.proofs.Common.{◌≡◌, ◌≢◌, ℕ, ◌+◌, ◌<◌, ◌≤◌, Bool, true, false, not, cond, ◌==◌, ◌&&◌, List, [], ◌∷◌, ◌++◌, length, take, drop, refl, sym, ap, ◌∙◌, arith}
use Rattle.std.proofs.lemmas.List.{drop-append-le, take-append-le, append-nil}
use Rattle.std.proofs.lemmas.List.Folds.{prefix_len-append}
use Rattle.std.proofs.lemmas.List.Sums.{prefix_len-le-length}
use Rattle.std.proofs.lemmas.Bool.Decides.{nat_tests}
use Rattle.std.specs.List.{prefix_len, take_while}
use Rattle.std.specs.Char.{is_ascii_alphabetic, is_ascii_alphanumeric}
use Rattle.netkat_parser.specs.declared.sign.Sign.TheVariants.{Becomes}
use Rattle.netkat_parser.specs.Signs.{is_blank, ahead, word, mark, is_becomes, sign, sign_len, is_run_byte}
use Rattle.netkat_parser.proofs.Total.{some-len}
use Rattle.netkat_parser.specs.Cuts.{comment_behind, is_cut, IsSignAt, IsRunAt}

skipped : (p q : Bool) (b : ℕ) (bs r : List ℕ) → is_blank b ≡ p → (b == 35) ≡ q
    → ahead false (bs ++ r) ≡ ahead (comment_behind false bs) (ahead false bs ++ r)
    → ahead true (bs ++ r) ≡ ahead (comment_behind true bs) (ahead true bs ++ r)
    → cond p (ahead false (bs ++ r)) (cond q (ahead true (bs ++ r)) (b ∷ (bs ++ r)))
    ≡ ahead (cond p (comment_behind false bs) (cond q (comment_behind true bs) false)) (cond p (ahead false bs) (cond q (ahead true bs) (b ∷ bs)) ++ r)
skipped true q b bs r e f h k = h
skipped false true b bs r e f h k = k
skipped false false b bs r e f h k = sym (rw (e, f) refl)

-- what stands in front of the next sign may be skipped at once
pub ahead-append : (c : Bool) (text r : List ℕ) → ahead c (text ++ r) ≡ ahead (comment_behind c text) (ahead c text ++ r)
ahead-append true [] r = refl
ahead-append false [] r = refl
ahead-append true (b ∷ bs) r = ahead-append (not (b == 10)) bs r
ahead-append false (b ∷ bs) r = skipped (is_blank b) (b == 35) b bs r refl refl (ahead-append false bs r) (ahead-append true bs r)

-- after it stands a sign, in no comment
stands : (p q : Bool) (b : ℕ) (bs r : List ℕ) → is_blank b ≡ p → (b == 35) ≡ q
    → (ahead false bs ≢ [] → ahead (comment_behind false bs) (ahead false bs ++ r) ≡ ahead false bs ++ r)
    → (ahead true bs ≢ [] → ahead (comment_behind true bs) (ahead true bs ++ r) ≡ ahead true bs ++ r)
    → cond p (ahead false bs) (cond q (ahead true bs) (b ∷ bs)) ≢ []
    → ahead (cond p (comment_behind false bs) (cond q (comment_behind true bs) false)) (cond p (ahead false bs) (cond q (ahead true bs) (b ∷ bs)) ++ r)
    ≡ cond p (ahead false bs) (cond q (ahead true bs) (b ∷ bs)) ++ r
stands true q b bs r e f h k ne = h ne
stands false true b bs r e f h k ne = k ne
stands false false b bs r e f h k ne = rw (e, f) refl

pub at-sign : (c : Bool) (text r : List ℕ) → ahead c text ≢ [] → ahead (comment_behind c text) (ahead c text ++ r) ≡ ahead c text ++ r
at-sign true [] r ne = absurd (ne refl)
at-sign false [] r ne = absurd (ne refl)
at-sign true (b ∷ bs) r ne = at-sign (not (b == 10)) bs r ne
at-sign false (b ∷ bs) r ne = stands (is_blank b) (b == 35) b bs r refl refl (at-sign false bs r) (at-sign true bs r) ne

module _ (p : ℕ → Bool) where
  -- a run that ends in the text is the same however the text goes on
  pub prefix-stays : (xs ys : List ℕ) → (prefix_len p xs == length xs) ≡ false → prefix_len p (xs ++ ys) ≡ prefix_len p xs
  prefix-stays xs ys e = prefix_len-append p xs ys ∙ ap (λ b. cond b (length xs + prefix_len p ys) (prefix_len p xs)) e

  pub while-stays : (xs ys : List ℕ) → (prefix_len p xs == length xs) ≡ false → take_while p (xs ++ ys) ≡ take_while p xs
  while-stays xs ys e =
      ap (λ n. take n (xs ++ ys)) (prefix-stays xs ys e) ∙ take-append-le (prefix_len p xs) xs ys (prefix_len-le-length p xs)

-- `:=` or a mark
marks-alone : (p : Bool) (x y : Bool) → (p && true) ≡ false → (p && x) ≡ (p && y)
marks-alone false x y e = refl
marks-alone true x y e = cc

mark-some : (q : Bool) → 0 < cond q 2 1
mark-some true = omega arith
mark-some false = omega arith

marks : (b : ℕ) (bs r : List ℕ) → (b == 58 && length (b ∷ bs) == 1) ≡ false → is_becomes (b ∷ (bs ++ r)) ≡ is_becomes (b ∷ bs)
marks b [] r e = marks-alone (b == 58) _ _ e
marks b (c ∷ bs) r e = refl

sign-by : (p : Bool) (b : ℕ) (bs r : List ℕ) → is_ascii_alphabetic b ≡ p → is_cut (b ∷ bs) ≡ false → sign (b ∷ (bs ++ r)) ≡ sign (b ∷ bs)
sign-by true b bs r e h =
    let k = rw e at h in
    rw e (ap word (while-stays is_ascii_alphanumeric (b ∷ bs) r k))
sign-by false b bs r e h =
    let k = rw e at h in
    rw e (ap (λ q. cond q Becomes (mark b)) (marks b bs r k))

len-by : (p : Bool) (b : ℕ) (bs r : List ℕ) → is_ascii_alphabetic b ≡ p → is_cut (b ∷ bs) ≡ false → sign_len (b ∷ (bs ++ r)) ≡ sign_len (b ∷ bs)
len-by true b bs r e h =
    let k = rw e at h in
    rw e (prefix-stays is_ascii_alphanumeric (b ∷ bs) r k)
len-by false b bs r e h =
    let k = rw e at h in
    rw e (ap (λ q. cond q 2 1) (marks b bs r k))

sign-stays : (text r : List ℕ) → is_cut text ≡ false → sign (text ++ r) ≡ sign text
sign-stays [] r h = let k = h in cc
sign-stays (b ∷ bs) r h = sign-by (is_ascii_alphabetic b) b bs r refl h

len-stays : (text r : List ℕ) → is_cut text ≡ false → sign_len (text ++ r) ≡ sign_len text
len-stays [] r h = let k = h in cc
len-stays (b ∷ bs) r h = len-by (is_ascii_alphabetic b) b bs r refl h

sign-some : (text : List ℕ) → text ≢ [] → 0 < sign_len text
sign-some [] ne = absurd (ne refl)
sign-some (b ∷ bs) ne = let h = some-len b bs in omega arith

pub sign-cut : (text : List ℕ) (end : Bool) → not end && is_cut text ≡ false → sign_len text ≤ length text → IsSignAt text end (sign text) (sign_len text)
sign-cut text true e w = record {
  within = w;
  some = sign-some text;
  none = λ h. refl;
  sign = λ rest h. rw (h refl, append-nil) refl;
  past = λ rest h. rw (h refl, append-nil, append-nil) refl;
}
sign-cut text false e w = record {
  within = w;
  some = sign-some text;
  none = λ h. let k = sym (ap is_cut h) ∙ e in cc;
  sign = λ rest h. sign-stays text rest e;
  past = λ rest h.
      ap (λ n. ahead false (drop n (text ++ rest))) (len-stays text rest e)
      ∙ ap (ahead false) (drop-append-le (sign_len text) text rest w);
}

pub run-cut : (text : List ℕ) (end : Bool) → not end && (prefix_len is_run_byte text == length text) ≡ false → IsRunAt text end (prefix_len is_run_byte text)
run-cut text true e = record {
  within = prefix_len-le-length is_run_byte text;
  run = λ rest h. rw (h refl, append-nil) refl;
  past = λ rest h. rw (h refl, append-nil, append-nil) refl;
}
run-cut text false e = record {
  within = prefix_len-le-length is_run_byte text;
  run = λ rest h. while-stays is_run_byte text rest e;
  past = λ rest h.
      ap (λ n. ahead false (drop n (text ++ rest))) (prefix-stays is_run_byte text rest e)
      ∙ ap (ahead false) (drop-append-le (prefix_len is_run_byte text) text rest (prefix_len-le-length is_run_byte text));
}

pub either-end : (end p : Bool) → end ≡ true → (not end && p) ≡ false
either-end end p e = rw e refl

pub either-not : (end p : Bool) → p ≡ false → (not end && p) ≡ false
either-not true p e = refl
either-not false p e = e

pub apart : (n m : ℕ) → n ≢ m → (n == m) ≡ false
apart n m ne = grind (arith, nat_tests)
