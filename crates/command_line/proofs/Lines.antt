-- Which words the form takes, and what they are taken for.
use Rattle.std.proofs.Common.{◌≡◌, ◌∙◌, ◌==◌, ◌&&◌, Bool, true, false, not, List, [], ◌∷◌, ◌++◌, Option, Some, None, option_map, option_and_then, fold, refl, sym, ap, subst, codes}
use Rattle.std.specs.List.{list_all}
use Rattle.std.specs.Str.{bytes_eq}
use Rattle.std.proofs.lemmas.Slice.Eq.{bytes_eq-Decides}
use Rattle.clap.specs.Kinds.{Kinds, or_else}
use Rattle.clap.specs.Faults.{fault_of, turn_fault, level_fault, entered_fault, stray_fault}
use Rattle.clap.specs.Lexer.{long_of, short_of}
use Rattle.clap.specs.Walk.{Names, Rule, Text, Walk, nothing_held, walk_from, walked, walked_from}
use Rattle.clap.specs.Simple.{Shape, built, built_leaf, inherited, marked_built, names_of, new_app, new_shape, on_top, subcommand_of, with_leaf_noted, with_rule}
use Rattle.clap.proofs.OnLiterals.{clap_on_literals}
use Rattle.command_line.specs.declared.command.Command.TheVariants.{Drive, Generate}
use Rattle.command_line.specs.Commands.{base_port, is_plain, workload_number}
use Rattle.command_line.specs.Form.{asked_by, base, form, number}

-- ---- faults one after another

first-none : (a b : Kinds) → or_else a b ≡ [] → a ≡ []
first-none [] b e = refl
first-none (k ∷ ks) b e = absurd (cc)

second-none : (a b : Kinds) → or_else a b ≡ [] → b ≡ []
second-none [] b e = e
second-none (k ∷ ks) b e = absurd (cc)

no-kinds : {X : Type 0} (x : X) (xs : List X) → x ∷ xs ≡ [] → ⊥
no-kinds x xs e = absurd (cc)

and-first : (a b : Bool) → (a && b) ≡ true → a ≡ true
and-first true b e = refl
and-first false b e = e

and-second : (a b : Bool) → (a && b) ≡ true → b ≡ true
and-second true b e = e
and-second false b e = absurd (cc)

not-dash : (b : Bool) → not b ≡ true → b ≡ false
not-dash true e = absurd (cc)
not-dash false e = refl

-- ---- after the word of a subcommand

append-none : {X : Type 0} (xs : List X) → xs ++ [] ≡ xs
append-none [] = refl
append-none (x ∷ xs) = ap (λ ys. x ∷ ys) (append-none xs)

append-one : {X : Type 0} (xs : List X) (z : X) (zs : List X) → (xs ++ z ∷ []) ++ zs ≡ xs ++ z ∷ zs
append-one [] z zs = refl
append-one (x ∷ xs) z zs = ap (λ ys. x ∷ ys) (append-one xs z zs)

-- the words after it are kept for the subcommand
kept : (c : List Rule) (ns : Names) (name : Text) (xs zs : List Text) (w : Walk) → w.stopped ≡ Some (name, xs) → (fold (walked c ns) w zs).stopped ≡ Some (name, xs ++ zs)
unfolding clap_on_literals
kept c ns name xs [] w e = e ∙ ap (λ ys. Some (name, ys)) (sym (append-none xs))
kept c ns name xs (z ∷ zs) w e = kept c ns name (xs ++ z ∷ []) zs (walked c ns w z) (ap (λ (s : Option (Text × List Text)). (walked_from c ns s w z).stopped) e) ∙ ap (λ ys. Some (name, ys)) (append-one xs z zs)

-- a subcommand that takes nothing, as it is built
abbrev leaf : Text → Shape
leaf name = built_leaf (inherited (on_top with_leaf_noted (on_top marked_built form)).top (new_shape name))

abbrev generate : Shape
generate = built_leaf (inherited (on_top with_leaf_noted (on_top marked_built form)).top (with_rule (new_app (codes "generate")) number).top)

abbrev drive : Shape
drive = built_leaf (inherited (on_top with_leaf_noted (on_top marked_built form)).top (with_rule (new_app (codes "drive")) base).top)

not-dashes : (x : Text) → is_plain x ≡ true → bytes_eq x (45 ∷ 45 ∷ []) ≡ false
not-dashes [] p = refl
not-dashes (c ∷ cs) p = let no = not-dash (c == 45) p in rw no

not-long : (x : Text) → is_plain x ≡ true → long_of x ≡ None
not-long [] p = refl
not-long (c ∷ cs) p = let no = not-dash (c == 45) p in rw no

not-short : (x : Text) → is_plain x ≡ true → short_of x ≡ None
not-short [] p = refl
not-short (c ∷ cs) p = let no = not-dash (c == 45) p in rw no

turn-stray : (name x : Text) → bytes_eq x (45 ∷ 45 ∷ []) ≡ false → long_of x ≡ None → short_of x ≡ None → turn_fault (leaf name) [] (walk_from nothing_held) x ≡ stray_fault (leaf name)
unfolding clap_on_literals
turn-stray name x a b c = rw (a, b, c)

stray : (name x : Text) → is_plain x ≡ true → turn_fault (leaf name) [] (walk_from nothing_held) x ≡ [] → ⊥
unfolding clap_on_literals
stray name x p e = no-kinds _ _ (sym (turn-stray name x (not-dashes x p) (not-long x p) (not-short x p)) ∙ e)

-- more words after a subcommand that takes none
pub more-words : (name x : Text) (zs : List Text) → is_plain x ≡ true → level_fault (leaf name) [] nothing_held (x ∷ zs) false [] ≡ [] → ⊥
unfolding clap_on_literals
more-words name x zs p e = stray name x p (first-none _ _ (first-none _ _ e))

-- ---- the word of the program's first level

turn-other : (w : Text) → bytes_eq (codes "rules") w ≡ false → bytes_eq (codes "trace") w ≡ false → bytes_eq (codes "simulate") w ≡ false → bytes_eq (codes "equiv") w ≡ false → bytes_eq (codes "audit") w ≡ false → bytes_eq (codes "run") w ≡ false → bytes_eq (codes "watch") w ≡ false → bytes_eq (codes "generate") w ≡ false → bytes_eq (codes "drive") w ≡ false
    → bytes_eq w (45 ∷ 45 ∷ []) ≡ false → long_of w ≡ None → short_of w ≡ None → turn_fault (built form).top (names_of (built form)) (walk_from nothing_held) w ≡ stray_fault (built form).top
unfolding clap_on_literals
turn-other w a b c q u d o f g h i j = rw (a, b, c, q, u, d, o, f, g, h, i, j)

other-word : (n w : Text) (rest : List Text) → bytes_eq (codes "rules") w ≡ false → bytes_eq (codes "trace") w ≡ false → bytes_eq (codes "simulate") w ≡ false → bytes_eq (codes "equiv") w ≡ false → bytes_eq (codes "audit") w ≡ false → bytes_eq (codes "run") w ≡ false → bytes_eq (codes "watch") w ≡ false → bytes_eq (codes "generate") w ≡ false → bytes_eq (codes "drive") w ≡ false → is_plain w ≡ true
    → fault_of form (n ∷ w ∷ rest) ≡ [] → ⊥
unfolding clap_on_literals
other-word n w rest a b c q u d o f g p e = no-kinds _ _ (sym (turn-other w a b c q u d o f g (not-dashes w p) (not-long w p) (not-short w p)) ∙ first-none _ _ (first-none _ _ e))

-- what is refused after the word of a subcommand
behind : (n name x : Text) (zs : List Text) → (walked [] (names_of (built form)) (walk_from nothing_held) name).stopped ≡ Some (name, []) → fault_of form (n ∷ name ∷ x ∷ zs) ≡ [] → entered_fault (built form) (Some (name, x ∷ zs)) ≡ []
unfolding clap_on_literals
behind n name x zs stop e =
    subst (λ (s : Option (Text × List Text)). entered_fault (built form) s ≡ []) (kept [] (names_of (built form)) name [] (x ∷ zs) (walked [] (names_of (built form)) (walk_from nothing_held) name) stop) (first-none _ _ (second-none _ _ e))

pub rules-alone : (n : Text) (rest : List Text) → list_all is_plain rest ≡ true → fault_of form (n ∷ codes "rules" ∷ rest) ≡ [] → rest ≡ []
unfolding clap_on_literals
rules-alone n [] p e = refl
rules-alone n (x ∷ zs) p e = absurd (more-words (codes "rules") x zs (and-first _ _ p) (behind n (codes "rules") x zs refl e))

pub trace-alone : (n : Text) (rest : List Text) → list_all is_plain rest ≡ true → fault_of form (n ∷ codes "trace" ∷ rest) ≡ [] → rest ≡ []
unfolding clap_on_literals
trace-alone n [] p e = refl
trace-alone n (x ∷ zs) p e = absurd (more-words (codes "trace") x zs (and-first _ _ p) (behind n (codes "trace") x zs refl e))

pub simulate-alone : (n : Text) (rest : List Text) → list_all is_plain rest ≡ true → fault_of form (n ∷ codes "simulate" ∷ rest) ≡ [] → rest ≡ []
unfolding clap_on_literals
simulate-alone n [] p e = refl
simulate-alone n (x ∷ zs) p e = absurd (more-words (codes "simulate") x zs (and-first _ _ p) (behind n (codes "simulate") x zs refl e))

pub equiv-alone : (n : Text) (rest : List Text) → list_all is_plain rest ≡ true → fault_of form (n ∷ codes "equiv" ∷ rest) ≡ [] → rest ≡ []
unfolding clap_on_literals
equiv-alone n [] p e = refl
equiv-alone n (x ∷ zs) p e = absurd (more-words (codes "equiv") x zs (and-first _ _ p) (behind n (codes "equiv") x zs refl e))

pub audit-alone : (n : Text) (rest : List Text) → list_all is_plain rest ≡ true → fault_of form (n ∷ codes "audit" ∷ rest) ≡ [] → rest ≡ []
unfolding clap_on_literals
audit-alone n [] p e = refl
audit-alone n (x ∷ zs) p e = absurd (more-words (codes "audit") x zs (and-first _ _ p) (behind n (codes "audit") x zs refl e))

pub run-alone : (n : Text) (rest : List Text) → list_all is_plain rest ≡ true → fault_of form (n ∷ codes "run" ∷ rest) ≡ [] → rest ≡ []
unfolding clap_on_literals
run-alone n [] p e = refl
run-alone n (x ∷ zs) p e = absurd (more-words (codes "run") x zs (and-first _ _ p) (behind n (codes "run") x zs refl e))

pub watch-alone : (n : Text) (rest : List Text) → list_all is_plain rest ≡ true → fault_of form (n ∷ codes "watch" ∷ rest) ≡ [] → rest ≡ []
unfolding clap_on_literals
watch-alone n [] p e = refl
watch-alone n (x ∷ zs) p e = absurd (more-words (codes "watch") x zs (and-first _ _ p) (behind n (codes "watch") x zs refl e))

-- ---- after `generate`

turn-one : (x y : Text) → bytes_eq x (45 ∷ 45 ∷ []) ≡ false → long_of x ≡ None → short_of x ≡ None → bytes_eq y (45 ∷ 45 ∷ []) ≡ false → long_of y ≡ None → short_of y ≡ None
    → turn_fault generate [] (walked generate.rules [] (walk_from nothing_held) x) y ≡ stray_fault generate
unfolding clap_on_literals
turn-one x y a b c d e f = rw (a, b, c, d, e, f)

found-number : (n x : Text) → bytes_eq x (45 ∷ 45 ∷ []) ≡ false → long_of x ≡ None → short_of x ≡ None → option_and_then asked_by (subcommand_of form (n ∷ codes "generate" ∷ x ∷ [])) ≡ option_map Generate (workload_number x)
unfolding clap_on_literals
found-number n x a b c = rw (a, b, c)

number-taken : (n x : Text) → bytes_eq x (45 ∷ 45 ∷ []) ≡ false → long_of x ≡ None → short_of x ≡ None → fault_of form (n ∷ codes "generate" ∷ x ∷ []) ≡ []
unfolding clap_on_literals
number-taken n x a b c = rw (a, b, c)

-- a third word after the number
many-words : (x y : Text) (zs : List Text) → is_plain x ≡ true → is_plain y ≡ true → level_fault generate [] nothing_held (x ∷ y ∷ zs) false [] ≡ [] → ⊥
unfolding clap_on_literals
many-words x y zs p q e =
    no-kinds _ _ (sym (turn-one x y (not-dashes x p) (not-long x p) (not-short x p) (not-dashes y q) (not-long y q) (not-short y q)) ∙ first-none _ _ (second-none _ _ (first-none _ _ e)))

pub number-alone : (n : Text) (rest : List Text) → list_all is_plain rest ≡ true → fault_of form (n ∷ codes "generate" ∷ rest) ≡ [] → (x : Text) × (rest ≡ x ∷ []) × (is_plain x ≡ true)
unfolding clap_on_literals
number-alone n [] p e = absurd (no-kinds _ _ e)
number-alone n (x ∷ []) p e = (x, refl, and-first _ _ p)
number-alone n (x ∷ y ∷ zs) p e = absurd (many-words x y zs (and-first _ _ p) (and-first _ _ (and-second _ _ p)) (behind n (codes "generate") x (y ∷ zs) refl e))

pub number-found : (n x : Text) → is_plain x ≡ true → option_and_then asked_by (subcommand_of form (n ∷ codes "generate" ∷ x ∷ [])) ≡ option_map Generate (workload_number x)
number-found n x p = found-number n x (not-dashes x p) (not-long x p) (not-short x p)

pub number-faultless : (n x : Text) → is_plain x ≡ true → fault_of form (n ∷ codes "generate" ∷ x ∷ []) ≡ []
number-faultless n x p = number-taken n x (not-dashes x p) (not-long x p) (not-short x p)

-- ---- after `drive`

turn-port : (x y : Text) → bytes_eq x (45 ∷ 45 ∷ []) ≡ false → long_of x ≡ None → short_of x ≡ None → bytes_eq y (45 ∷ 45 ∷ []) ≡ false → long_of y ≡ None → short_of y ≡ None
    → turn_fault drive [] (walked drive.rules [] (walk_from nothing_held) x) y ≡ stray_fault drive
unfolding clap_on_literals
turn-port x y a b c d e f = rw (a, b, c, d, e, f)

found-port : (n x : Text) → bytes_eq x (45 ∷ 45 ∷ []) ≡ false → long_of x ≡ None → short_of x ≡ None → option_and_then asked_by (subcommand_of form (n ∷ codes "drive" ∷ x ∷ [])) ≡ option_map Drive (base_port x)
unfolding clap_on_literals
found-port n x a b c = rw (a, b, c)

port-taken : (n x : Text) → bytes_eq x (45 ∷ 45 ∷ []) ≡ false → long_of x ≡ None → short_of x ≡ None → fault_of form (n ∷ codes "drive" ∷ x ∷ []) ≡ []
unfolding clap_on_literals
port-taken n x a b c = rw (a, b, c)

-- a third word after the port
many-ports : (x y : Text) (zs : List Text) → is_plain x ≡ true → is_plain y ≡ true → level_fault drive [] nothing_held (x ∷ y ∷ zs) false [] ≡ [] → ⊥
unfolding clap_on_literals
many-ports x y zs p q e =
    no-kinds _ _ (sym (turn-port x y (not-dashes x p) (not-long x p) (not-short x p) (not-dashes y q) (not-long y q) (not-short y q)) ∙ first-none _ _ (second-none _ _ (first-none _ _ e)))

pub base-alone : (n : Text) (rest : List Text) → list_all is_plain rest ≡ true → fault_of form (n ∷ codes "drive" ∷ rest) ≡ [] → (x : Text) × (rest ≡ x ∷ []) × (is_plain x ≡ true)
unfolding clap_on_literals
base-alone n [] p e = absurd (no-kinds _ _ e)
base-alone n (x ∷ []) p e = (x, refl, and-first _ _ p)
base-alone n (x ∷ y ∷ zs) p e = absurd (many-ports x y zs (and-first _ _ p) (and-first _ _ (and-second _ _ p)) (behind n (codes "drive") x (y ∷ zs) refl e))

pub base-found : (n x : Text) → is_plain x ≡ true → option_and_then asked_by (subcommand_of form (n ∷ codes "drive" ∷ x ∷ [])) ≡ option_map Drive (base_port x)
base-found n x p = found-port n x (not-dashes x p) (not-long x p) (not-short x p)

pub base-faultless : (n x : Text) → is_plain x ≡ true → fault_of form (n ∷ codes "drive" ∷ x ∷ []) ≡ []
base-faultless n x p = port-taken n x (not-dashes x p) (not-long x p) (not-short x p)

-- ---- which word it is

-- The word after the program's name, with what may stand after it.
pub data Taken (w : Text) (rest : List Text) : Type 0 where
  for_rules : w ≡ codes "rules" → rest ≡ [] → Taken w rest
  for_trace : w ≡ codes "trace" → rest ≡ [] → Taken w rest
  for_simulate : w ≡ codes "simulate" → rest ≡ [] → Taken w rest
  for_equiv : w ≡ codes "equiv" → rest ≡ [] → Taken w rest
  for_audit : w ≡ codes "audit" → rest ≡ [] → Taken w rest
  for_run : w ≡ codes "run" → rest ≡ [] → Taken w rest
  for_watch : w ≡ codes "watch" → rest ≡ [] → Taken w rest
  for_generate : (x : Text) → w ≡ codes "generate" → rest ≡ x ∷ [] → is_plain x ≡ true → Taken w rest
  for_drive : (x : Text) → w ≡ codes "drive" → rest ≡ x ∷ [] → is_plain x ≡ true → Taken w rest

is-word : (a w : Text) → bytes_eq a w ≡ true → w ≡ a
is-word a w e = sym ((bytes_eq-Decides a w).0 e)

with-word : (n w a : Text) (rest : List Text) → w ≡ a → fault_of form (n ∷ w ∷ rest) ≡ [] → fault_of form (n ∷ a ∷ rest) ≡ []
with-word n w a rest e f = subst (λ (v : Text). fault_of form (n ∷ v ∷ rest) ≡ []) e f

taken-by : (n w : Text) (rest : List Text) (a b c q u d o f g : Bool) → bytes_eq (codes "rules") w ≡ a → bytes_eq (codes "trace") w ≡ b → bytes_eq (codes "simulate") w ≡ c → bytes_eq (codes "equiv") w ≡ q → bytes_eq (codes "audit") w ≡ u → bytes_eq (codes "run") w ≡ d → bytes_eq (codes "watch") w ≡ o → bytes_eq (codes "generate") w ≡ f → bytes_eq (codes "drive") w ≡ g
    → is_plain w ≡ true → list_all is_plain rest ≡ true → fault_of form (n ∷ w ∷ rest) ≡ [] → Taken w rest
taken-by n w rest true b c q u d o f g ea eb ec eq eu ed eo ef eg p l e = let is = is-word _ w ea in for_rules is (rules-alone n rest l (with-word n w _ rest is e))
taken-by n w rest false true c q u d o f g ea eb ec eq eu ed eo ef eg p l e = let is = is-word _ w eb in for_trace is (trace-alone n rest l (with-word n w _ rest is e))
taken-by n w rest false false true q u d o f g ea eb ec eq eu ed eo ef eg p l e = let is = is-word _ w ec in for_simulate is (simulate-alone n rest l (with-word n w _ rest is e))
taken-by n w rest false false false true u d o f g ea eb ec eq eu ed eo ef eg p l e = let is = is-word _ w eq in for_equiv is (equiv-alone n rest l (with-word n w _ rest is e))
taken-by n w rest false false false false true d o f g ea eb ec eq eu ed eo ef eg p l e = let is = is-word _ w eu in for_audit is (audit-alone n rest l (with-word n w _ rest is e))
taken-by n w rest false false false false false true o f g ea eb ec eq eu ed eo ef eg p l e = let is = is-word _ w ed in for_run is (run-alone n rest l (with-word n w _ rest is e))
taken-by n w rest false false false false false false true f g ea eb ec eq eu ed eo ef eg p l e = let is = is-word _ w eo in for_watch is (watch-alone n rest l (with-word n w _ rest is e))
taken-by n w rest false false false false false false false true g ea eb ec eq eu ed eo ef eg p l e = let is = is-word _ w ef in let h = number-alone n rest l (with-word n w _ rest is e) in for_generate h.0 is h.1 h.2
taken-by n w rest false false false false false false false false true ea eb ec eq eu ed eo ef eg p l e = let is = is-word _ w eg in let h = base-alone n rest l (with-word n w _ rest is e) in for_drive h.0 is h.1 h.2
taken-by n w rest false false false false false false false false false ea eb ec eq eu ed eo ef eg p l e = absurd (other-word n w rest ea eb ec eq eu ed eo ef eg p e)

-- Words that are taken are these.
pub taken : (n w : Text) (rest : List Text) → list_all is_plain (w ∷ rest) ≡ true → fault_of form (n ∷ w ∷ rest) ≡ [] → Taken w rest
taken n w rest p e = taken-by n w rest _ _ _ _ _ _ _ _ _ refl refl refl refl refl refl refl refl refl (and-first _ _ p) (and-second _ _ p) e
