-- Values that are named one after another, within the limits.
use Rattle.std.proofs.Common.{◌≡◌, ℕ, ◌+◌, ◌≤◌, Bool, true, false, not, cond, ◌&&◌, ◌||◌, ◌==◌, nat_le, List, [], ◌∷◌, ◌++◌, length, refl, ap, ◌∙◌, arith, length-append}
use Rattle.std.proofs.lemmas.List.Sums.{sum_by-append}
use Rattle.std.proofs.lemmas.Bool.Decides.{nat_tests}
use Rattle.nk_values.specs.declared.field.Field.{Field}
use Rattle.nk_values.specs.declared.field.Field.TheVariants.{IpProto}
use Rattle.nk_values.specs.Ranges.{place}
use Rattle.nk_syntax.specs.Terms.{Guard, Guards, One, Zero, Test, Or, And, Not, no_guards, guard, Term, Terms, Filter, Assign, Sum, Seq, Star, Dup, no_terms, term}
use Rattle.netkat_parser.specs.Grammar.{is_named, is_too_many, with_pair, protos}
use Rattle.netkat_parser.specs.Printed.{IsRoomy, guard_named, guards_named, term_named, terms_named}

abbrev Names : Type 0
Names = List (Field × ℕ)

abbrev proto_count : Field × ℕ → ℕ
proto_count pair = cond (place pair.0 == place IpProto) 1 0

pub protos-push : (named : Names) (f : Field) (n : ℕ) → protos (named ++ (f, n) ∷ []) ≡ protos named + proto_count (f, n)
protos-push named f n = sum_by-append proto_count named ((f, n) ∷ []) ∙ ap (λ k. protos named + k) (omega arith)

-- a list with one more is roomy only if it was
grows-by : (b : Bool) (named : Names) (f : Field) (n : ℕ) → IsRoomy (cond b named (named ++ (f, n) ∷ [])) → IsRoomy named
grows-by true named f n h = h
grows-by false named f n h = record {
  pairs = omega (arith, h.pairs, length-append named ((f, n) ∷ []));
  protos = omega (arith, h.protos, protos-push named f n);
}

pub grows-pair : (named : Names) (f : Field) (n : ℕ) → IsRoomy (with_pair named f n) → IsRoomy named
grows-pair named f n h = grows-by (is_named named f n) named f n h

not-full : (n high : ℕ) → n + 1 ≤ high → nat_le high n ≡ false
not-full n high h = grind (arith, nat_tests)

proto-room : (p : Bool) (k : ℕ) → k + cond p 1 0 ≤ 100 → (p && nat_le 100 k) ≡ false
proto-room true k h = not-full k 100 h
proto-room false k h = refl

room-by : (b : Bool) (named : Names) (f : Field) (n : ℕ) → IsRoomy (cond b named (named ++ (f, n) ∷ []))
    → (not b && (nat_le 2000 (length named) || ((place f == place IpProto) && nat_le 100 (protos named)))) ≡ false
room-by true named f n h = refl
room-by false named f n h =
    let full = not-full (length named) 2000 (omega (arith, h.pairs, length-append named ((f, n) ∷ []))) in
    let proto = proto-room (place f == place IpProto) (protos named) (omega (arith, h.protos, protos-push named f n)) in
    rw (full, proto) refl

-- and there was room for it
pub room-pair : (named : Names) (f : Field) (n : ℕ) → IsRoomy (with_pair named f n) → is_too_many named f n ≡ false
room-pair named f n h = room-by (is_named named f n) named f n h

mutual
  pub grows-guard : (a : Guard) (named : Names) → IsRoomy (guard_named a named) → IsRoomy named
  grows-guard One named h = h
  grows-guard Zero named h = h
  grows-guard (Test f n) named h = grows-pair named f n h
  grows-guard (Or as') named h = grows-guards as' named h
  grows-guard (And as') named h = grows-guards as' named h
  grows-guard (Not a) named h = grows-guard a named h

  pub grows-guards : (as' : Guards) (named : Names) → IsRoomy (guards_named as' named) → IsRoomy named
  grows-guards no_guards named h = h
  grows-guards (guard a as') named h = grows-guard a named (grows-guards as' (guard_named a named) h)

mutual
  pub grows-term : (p : Term) (named : Names) → IsRoomy (term_named p named) → IsRoomy named
  grows-term (Filter a) named h = grows-guard a named h
  grows-term (Assign f n) named h = grows-pair named f n h
  grows-term (Sum ps) named h = grows-terms ps named h
  grows-term (Seq ps) named h = grows-terms ps named h
  grows-term (Star p) named h = grows-term p named h
  grows-term Dup named h = h

  pub grows-terms : (ps : Terms) (named : Names) → IsRoomy (terms_named ps named) → IsRoomy named
  grows-terms no_terms named h = h
  grows-terms (term p ps) named h = grows-term p named (grows-terms ps (term_named p named) h)
