-- What reading leaves is the end of its text.
use Rattle.std.proofs.Common.{◌≡◌, ℕ, ◌+◌, ◌-◌, ◌≤◌, inl, inr, Bool, true, false, cond, not, ◌==◌, List, [], ◌∷◌, ◌++◌, length, take, drop, Option, Some, None, refl, sym, ap, ◌∙◌, subst, append_assoc, length-append, arith}
use Rattle.std.proofs.lemmas.List.{take-append-drop, take_at}
use Rattle.nk_values.specs.declared.field.Field.{Field}
use Rattle.nk_syntax.specs.Terms.{Term, Filter, Test, Assign}
use Rattle.nk_values.specs.declared.text_fault.TextFault as fault_type
use Rattle.netkat_parser.specs.declared.sign.Sign.{Sign}
use Rattle.netkat_parser.specs.declared.sign.Sign.TheVariants as to_sign
use Rattle.netkat_parser.specs.declared.sign.Sign.TheVariants.{Dup, Name, Equals, Becomes, Close, Star, End}
use Rattle.netkat_parser.specs.Signs.{sign, past, run, past_run, ahead, is_blank, sign_len, is_run_byte}
use Rattle.std.specs.List.{prefix_len}
use Rattle.netkat_parser.specs.Numbers.{number}
use Rattle.netkat_parser.specs.Grammar.{Spot, Got, Read, Bad, step, gathered, negated, sum_of, seq_of, closed, closed_by, starred, starred_by, ended, ended_by, first_spot, literal, is_too_many, IsNumber, IsRun, IsPair, IsLeaf, IsPolicy, AreSummands, IsSequence, AreFactors, IsUnary, IsAtom, IsReading, sum, last_summand, more_summands, sequence, last_factor, more_factors, negation, post, bracket, leaf}

pub record IsEnd (end text : List ℕ) : Type 0 where
  pub front : List ℕ
  pub parts : text ≡ front ++ end

pub end-same : (text : List ℕ) → IsEnd text text
end-same text = record { front = []; parts = refl }

pub end-trans : (x y z : List ℕ) → IsEnd x y → IsEnd y z → IsEnd x z
end-trans x y z h k = record { front = k.front ++ h.front; parts = k.parts ∙ ap (λ w. k.front ++ w) h.parts ∙ sym (append_assoc k.front h.front x) }

end-cons : (b : ℕ) (x y : List ℕ) → IsEnd x y → IsEnd x (b ∷ y)
end-cons b x y h = record { front = b ∷ h.front; parts = ap (λ w. b ∷ w) h.parts }

end-if : (b : Bool) (x y z : List ℕ) → IsEnd x z → IsEnd y z → IsEnd (cond b x y) z
end-if true x y z h k = h
end-if false x y z h k = k

end-drop : (n : ℕ) (text : List ℕ) → IsEnd (drop n text) text
end-drop n text = record { front = take n text; parts = sym (take-append-drop n text) }

pub end-ahead : (c : Bool) (text : List ℕ) → IsEnd (ahead c text) text
end-ahead true [] = end-same []
end-ahead false [] = end-same []
end-ahead true (b ∷ bs) = end-cons b _ bs (end-ahead (not (b == 10)) bs)
end-ahead false (b ∷ bs) =
    end-if (is_blank b) _ _ (b ∷ bs) (end-cons b _ bs (end-ahead false bs))
    (end-if (b == 35) _ _ (b ∷ bs) (end-cons b _ bs (end-ahead true bs)) (end-same (b ∷ bs)))

pub end-past : (text : List ℕ) → IsEnd (past text) text
end-past text = end-trans _ _ _ (end-ahead false (drop (sign_len text) text)) (end-drop (sign_len text) text)

end-past_run : (text : List ℕ) → IsEnd (past_run text) text
end-past_run text = end-trans _ _ _ (end-ahead false (drop (prefix_len is_run_byte text) text)) (end-drop (prefix_len is_run_byte text) text)

-- the outcome leaves an end of the text
abbrev Ends : {A : Type 0} → List ℕ → Got A → Type 0
Ends text (Read x s) = IsEnd s.text text
Ends text (Bad e at) = IsEnd at text

module _ {A : Type 0} where
  ends-trans : (x y : List ℕ) (o : Got A) → IsEnd x y → Ends x o → Ends y o
  ends-trans x y (Read p s) h k = end-trans _ _ _ k h
  ends-trans x y (Bad e at) h k = end-trans _ _ _ k h

ends-gathered : {A B : Type 0} (f : A → B) (text : List ℕ) (o : Got A) → Ends text o → Ends text (gathered f o)
ends-gathered f text (Read p s) h = h
ends-gathered f text (Bad e at) h = h

ends-closed_by : (depth : ℕ) (p : Term) (s : Spot) (t : Sign) → Ends s.text (closed_by depth p s t)
ends-closed_by depth p s Close = end-past s.text
ends-closed_by depth p s t = end-same s.text

ends-closed : (depth : ℕ) (text : List ℕ) (o : Got Term) → Ends text o → Ends text (closed depth o)
ends-closed depth text (Read p s) h = ends-trans s.text text (closed_by depth p s (sign s.text)) h (ends-closed_by depth p s (sign s.text))
ends-closed depth text (Bad e at) h = h

ends-starred_by : (inside : Bool) (p : Term) (s : Spot) (t : Sign) → Ends s.text (starred_by inside p s t)
ends-starred_by false p s Star = end-past s.text
ends-starred_by true p s Star = end-same s.text
ends-starred_by false p s t = end-same s.text
ends-starred_by true p s t = end-same s.text

ends-starred : (inside : Bool) (text : List ℕ) (o : Got Term) → Ends text o → Ends text (starred inside o)
ends-starred inside text (Read p s) h = ends-trans s.text text (starred_by inside p s (sign s.text)) h (ends-starred_by inside p s (sign s.text))
ends-starred inside text (Bad e at) h = h

ends-ended_by : (p : Term) (s : Spot) (t : Sign) → Ends s.text (ended_by p s t)
ends-ended_by p s End = end-same s.text
ends-ended_by p s t = end-same s.text

ends-ended : (text : List ℕ) (o : Got Term) → Ends text o → Ends text (ended o)
ends-ended text (Read p s) h = ends-trans s.text text (ended_by p s (sign s.text)) h (ends-ended_by p s (sign s.text))
ends-ended text (Bad e at) h = h

ends-by : {A : Type 0} (text : List ℕ) (o x : Got A) → o ≡ x → Ends text x → Ends text o
ends-by text o x e h = subst (Ends text) (sym e) h

ends-if : (b : Bool) (text : List ℕ) (x y : Got Term) → Ends text x → Ends text y → Ends text (cond b x y)
ends-if true text x y h k = h
ends-if false text x y h k = k

ends-literal : (f : Field) (make : ℕ → Term) (s : Spot) (n : ℕ) → Ends s.text (literal f make s n)
ends-literal f make s n = ends-if (is_too_many s.named f n) s.text _ _ (end-same s.text) (end-past_run s.text)

ends-number : (f : Field) (make : ℕ → Term) (s : Spot) (n : Option ℕ) (o : Got Term) → IsNumber f make s n o → Ends s.text o
ends-number f make s None o h = ends-by s.text o _ h (end-same s.text)
ends-number f make s (Some n) o (inl h) = ends-by s.text o _ h.1 (ends-literal f make s n)
ends-number f make s (Some n) o (inr h) = ends-by s.text o _ h.1 (end-same s.text)

ends-run : (depth : ℕ) (f : Field) (make : ℕ → Term) (s : Spot) (r : List ℕ) (o : Got Term) → IsRun depth f make s r o → Ends s.text o
ends-run depth f make s [] o h = ends-by s.text o _ h (end-same s.text)
ends-run depth f make s (b ∷ bs) o h = ends-number f make s (number f (b ∷ bs)) o h

ends-value : (depth : ℕ) (f : Field) (make : ℕ → Term) (s : Spot) (o : Got Term) → IsRun depth f make (step s) (run (past s.text)) o → Ends s.text o
ends-value depth f make s o h = ends-trans (past s.text) s.text o (end-past s.text) (ends-run depth f make (step s) (run (past s.text)) o h)

ends-pair : (depth : ℕ) (inside : Bool) (f : Field) (s : Spot) (t : Sign) (o : Got Term) → IsPair depth inside f s t o → Ends s.text o
ends-pair depth false f s Equals o h = ends-value depth f (λ n. Filter (Test f n)) s o h
ends-pair depth true f s Equals o h = ends-value depth f (λ n. Filter (Test f n)) s o h
ends-pair depth false f s Becomes o h = ends-value depth f (Assign f) s o h
ends-pair depth true f s Becomes o h = ends-by s.text o _ h (end-same s.text)
ends-pair depth false f s t o h = ends-by s.text o _ h (end-same s.text)
ends-pair depth true f s t o h = ends-by s.text o _ h (end-same s.text)

ends-leaf : (depth : ℕ) (inside : Bool) (s : Spot) (t : Sign) (o : Got Term) → IsLeaf depth inside s t o → Ends s.text o
ends-leaf depth inside s to_sign.Skip o h = ends-by s.text o _ h (end-past s.text)
ends-leaf depth inside s to_sign.Drop o h = ends-by s.text o _ h (end-past s.text)
ends-leaf depth false s Dup o h = ends-by s.text o _ h (end-past s.text)
ends-leaf depth true s Dup o h = ends-by s.text o _ h (end-same s.text)
ends-leaf depth inside s (Name f) o h = ends-trans (past s.text) s.text o (end-past s.text) (ends-pair depth inside f (step s) (sign (past s.text)) o h)
ends-leaf depth inside s t o h = ends-by s.text o _ h (end-same s.text)

ends-step : {A : Type 0} (s : Spot) (o : Got A) → Ends (past s.text) o → Ends s.text o
ends-step s o h = ends-trans (past s.text) s.text o (end-past s.text) h

ends-more : (s t : Spot) (p : Term) (o : Got (List Term)) → IsEnd t.text s.text → Ends (past t.text) o → Ends s.text (gathered (λ ps. p ∷ ps) o)
ends-more s t p o h k = ends-gathered (λ ps. p ∷ ps) s.text o (ends-trans t.text s.text o h (ends-step t o k))

mutual
  ends-policy : (depth : ℕ) (inside : Bool) (s : Spot) (o : Got Term) → IsPolicy depth inside s o → Ends s.text o
  ends-policy depth inside s o (sum d i t q h) = ends-gathered sum_of t.text q (ends-summands d i t q h)

  ends-summands : (depth : ℕ) (inside : Bool) (s : Spot) (o : Got (List Term)) → AreSummands depth inside s o → Ends s.text o
  ends-summands depth inside s o (last_summand d i t q h e) = ends-gathered (λ p. p ∷ []) t.text q (ends-sequence d i t q h)
  ends-summands depth inside s o (more_summands d i t p u q h e k) = ends-more t u p q (ends-sequence d i t _ h) (ends-summands d i (step u) q k)

  pub ends-sequence : (depth : ℕ) (inside : Bool) (s : Spot) (o : Got Term) → IsSequence depth inside s o → Ends s.text o
  ends-sequence depth inside s o (sequence d i t q h) = ends-gathered seq_of t.text q (ends-factors d i t q h)

  ends-factors : (depth : ℕ) (inside : Bool) (s : Spot) (o : Got (List Term)) → AreFactors depth inside s o → Ends s.text o
  ends-factors depth inside s o (last_factor d i t q h e) = ends-gathered (λ p. p ∷ []) t.text q (ends-unary d i t q h)
  ends-factors depth inside s o (more_factors d i t p u q h e k) = ends-more t u p q (ends-unary d i t _ h) (ends-factors d i (step u) q k)

  pub ends-unary : (depth : ℕ) (inside : Bool) (s : Spot) (o : Got Term) → IsUnary depth inside s o → Ends s.text o
  ends-unary depth inside s o (negation d i t q n h) = ends-gathered negated t.text q (ends-step t q (ends-unary (d + 1) true (step t) q h))
  ends-unary depth inside s o (post d i t q n h) = ends-starred i t.text q (ends-atom d i t q h)

  ends-atom : (depth : ℕ) (inside : Bool) (s : Spot) (o : Got Term) → IsAtom depth inside s o → Ends s.text o
  ends-atom depth inside s o (bracket d i t q n h) = ends-closed (d + 1) t.text q (ends-step t q (ends-policy (d + 1) i (step t) q h))
  ends-atom depth inside s o (leaf d i t q n h) = ends-leaf d i t (sign t.text) q h

pub ends-reading : (text : List ℕ) (o : Got Term) → IsReading text o → Ends text o
ends-reading text o h =
    ends-by text o _ h.2
    (ends-ended text h.0 (ends-trans (ahead false text) text h.0 (end-ahead false text) (ends-policy 0 false (first_spot text) h.0 h.1)))

-- the text from a fault on is the end of the text
pub end-fault : (text : List ℕ) (f : fault_type.TextFault) (at : List ℕ) → IsReading text (Bad f at) → IsEnd at text
end-fault text f at h = ends-reading text (Bad f at) h

pub end-short : (at text : List ℕ) → IsEnd at text → length at ≤ length text
end-short at text h = omega (arith, ap length h.parts, length-append h.front at)

pub end-front : (at text : List ℕ) → IsEnd at text → text ≡ take (length text - length at) text ++ at
end-front at text h =
    let n : length h.front ≡ length text - length at = omega (arith, ap length h.parts, length-append h.front at) in
    let e : take (length text - length at) text ≡ h.front = ap (take (length text - length at)) h.parts ∙ take_at h.front at (length text - length at) n in
    h.parts ∙ ap (λ w. w ++ at) (sym e)
