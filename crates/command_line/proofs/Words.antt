-- What words ask for, and what they are taken for.
use Rattle.std.proofs.Common.{◌≡◌, ◌∙◌, ◌==◌, ◌&&◌, ℕ, zero, suc, Bool, true, false, not, List, [], ◌∷◌, map, length, drop, All, Option, Some, None, IfSome, option_map, option_and_then, if◌then◌else◌, refl, sym, ap, ap₂, subst, codes, nat_le, nat_lt, nat_eq, String, string_bytes, arith}
use Rattle.std.specs.declared.alloc.Global.{Global}
use Rattle.std.specs.List.{list_all}
use Rattle.clap.specs.Faults.{fault_of}
use Rattle.clap.specs.Walk.{Text}
use Rattle.std.proofs.lemmas.Bool.{eqb-true}
use Rattle.clap.specs.Simple.{subcommand_of}
use Rattle.clap.proofs.OnLiterals.{clap_on_literals}
use Rattle.netkat_parser.specs.Numbers.{at_most}
use Rattle.command_line.specs.declared.command.Command.{Command}
use Rattle.command_line.specs.declared.command.Command.TheVariants.{Rules, Trace, Simulate, Equiv, Audit, Run, Watch, Drive, Generate}
use Rattle.command_line.specs.Commands.{base_port, is_plain, workload_number, Asks, IsCommandLine, IsPlain, OneCommand}
use Rattle.command_line.specs.Form.{asked_by, form}
use Rattle.command_line.proofs.Lines.{Taken, for_rules, for_trace, for_simulate, for_equiv, for_audit, for_run, for_watch, for_generate, for_drive, taken, base-found, base-faultless, number-found, number-faultless}

-- ---- numbers begin with a digit

cut-number : (b : Bool) → option_and_then (λ n. if nat_eq n 0 then None else Some n) (at_most 1000 (if b then None else None)) ≡ None
cut-number true = refl
cut-number false = refl

dashed-number : (xs : Text) (k : ℕ) → workload_number (45 ∷ xs) ≡ Some k → ⊥
dashed-number xs k e = let no = cut-number (nat_le 1 (length (45 ∷ xs)) && nat_le (length (45 ∷ xs)) 4) in absurd (cc)

plain-by : (c : ℕ) (cs : Text) (k : ℕ) (b : Bool) → (c == 45) ≡ b → workload_number (c ∷ cs) ≡ Some k → not b ≡ true
plain-by c cs k false e is = refl
plain-by c cs k true e is = absurd (dashed-number cs k (subst (λ (x : ℕ). workload_number (x ∷ cs) ≡ Some k) (eqb-true c 45 e) is))

plain-number : (ds : Text) (k : ℕ) → workload_number ds ≡ Some k → is_plain ds ≡ true
plain-number [] k e = refl
plain-number (c ∷ cs) k e = plain-by c cs k (c == 45) refl e

cut-port : (b : Bool) → option_and_then (λ n. if nat_lt n 1024 then None else Some n) (at_most 65000 (if b then None else None)) ≡ None
cut-port true = refl
cut-port false = refl

dashed-port : (xs : Text) (k : ℕ) → base_port (45 ∷ xs) ≡ Some k → ⊥
dashed-port xs k e = let no = cut-port (nat_le 1 (length (45 ∷ xs)) && nat_le (length (45 ∷ xs)) 5) in absurd (cc)

port-by : (c : ℕ) (cs : Text) (k : ℕ) (b : Bool) → (c == 45) ≡ b → base_port (c ∷ cs) ≡ Some k → not b ≡ true
port-by c cs k false e is = refl
port-by c cs k true e is = absurd (dashed-port cs k (subst (λ (x : ℕ). base_port (x ∷ cs) ≡ Some k) (eqb-true c 45 e) is))

plain-port : (ds : Text) (k : ℕ) → base_port ds ≡ Some k → is_plain ds ≡ true
plain-port [] k e = refl
plain-port (c ∷ cs) k e = port-by c cs k (c == 45) refl e

-- ---- what is asked for is found

faultless-rules : (n : Text) → fault_of form (n ∷ codes "rules" ∷ []) ≡ []
unfolding clap_on_literals
faultless-rules n = refl

faultless-trace : (n : Text) → fault_of form (n ∷ codes "trace" ∷ []) ≡ []
unfolding clap_on_literals
faultless-trace n = refl

faultless-simulate : (n : Text) → fault_of form (n ∷ codes "simulate" ∷ []) ≡ []
unfolding clap_on_literals
faultless-simulate n = refl

faultless-equiv : (n : Text) → fault_of form (n ∷ codes "equiv" ∷ []) ≡ []
unfolding clap_on_literals
faultless-equiv n = refl

faultless-audit : (n : Text) → fault_of form (n ∷ codes "audit" ∷ []) ≡ []
unfolding clap_on_literals
faultless-audit n = refl

faultless-run : (n : Text) → fault_of form (n ∷ codes "run" ∷ []) ≡ []
unfolding clap_on_literals
faultless-run n = refl

faultless-watch : (n : Text) → fault_of form (n ∷ codes "watch" ∷ []) ≡ []
unfolding clap_on_literals
faultless-watch n = refl

found-rules : (n : Text) → option_and_then asked_by (subcommand_of form (n ∷ codes "rules" ∷ [])) ≡ Some Rules
unfolding clap_on_literals
found-rules n = refl

found-trace : (n : Text) → option_and_then asked_by (subcommand_of form (n ∷ codes "trace" ∷ [])) ≡ Some Trace
unfolding clap_on_literals
found-trace n = refl

found-simulate : (n : Text) → option_and_then asked_by (subcommand_of form (n ∷ codes "simulate" ∷ [])) ≡ Some Simulate
unfolding clap_on_literals
found-simulate n = refl

found-equiv : (n : Text) → option_and_then asked_by (subcommand_of form (n ∷ codes "equiv" ∷ [])) ≡ Some Equiv
unfolding clap_on_literals
found-equiv n = refl

found-audit : (n : Text) → option_and_then asked_by (subcommand_of form (n ∷ codes "audit" ∷ [])) ≡ Some Audit
unfolding clap_on_literals
found-audit n = refl

found-run : (n : Text) → option_and_then asked_by (subcommand_of form (n ∷ codes "run" ∷ [])) ≡ Some Run
unfolding clap_on_literals
found-run n = refl

found-watch : (n : Text) → option_and_then asked_by (subcommand_of form (n ∷ codes "watch" ∷ [])) ≡ Some Watch
unfolding clap_on_literals
found-watch n = refl

-- words that ask for something have no fault
pub faultless : (c : Command) (ws : List (String Global)) → Asks c ws → fault_of form (map string_bytes ws) ≡ []
faultless Rules ws h = ap (fault_of form) h.1 ∙ faultless-rules h.0
faultless Trace ws h = ap (fault_of form) h.1 ∙ faultless-trace h.0
faultless Simulate ws h = ap (fault_of form) h.1 ∙ faultless-simulate h.0
faultless Equiv ws h = ap (fault_of form) h.1 ∙ faultless-equiv h.0
faultless Audit ws h = ap (fault_of form) h.1 ∙ faultless-audit h.0
faultless Run ws h = ap (fault_of form) h.1 ∙ faultless-run h.0
faultless Watch ws h = ap (fault_of form) h.1 ∙ faultless-watch h.0
faultless (Drive n) ws h = ap (fault_of form) h.2 ∙ base-faultless h.0 h.1 (plain-port h.1 n h.3)
faultless (Generate n) ws h = ap (fault_of form) h.2 ∙ number-faultless h.0 h.1 (plain-number h.1 n h.3)

-- what these words are taken for
abbrev taken-for : List Text → Option Command
taken-for ts = option_and_then asked_by (subcommand_of form ts)

-- and are taken for it
pub found : (c : Command) (ws : List (String Global)) → Asks c ws → option_and_then asked_by (subcommand_of form (map string_bytes ws)) ≡ Some c
found Rules ws h = ap taken-for h.1 ∙ found-rules h.0
found Trace ws h = ap taken-for h.1 ∙ found-trace h.0
found Simulate ws h = ap taken-for h.1 ∙ found-simulate h.0
found Equiv ws h = ap taken-for h.1 ∙ found-equiv h.0
found Audit ws h = ap taken-for h.1 ∙ found-audit h.0
found Run ws h = ap taken-for h.1 ∙ found-run h.0
found Watch ws h = ap taken-for h.1 ∙ found-watch h.0
found (Drive n) ws h = ap taken-for h.2 ∙ base-found h.0 h.1 (plain-port h.1 n h.3) ∙ ap (option_map Drive) h.3
found (Generate n) ws h = ap taken-for h.2 ∙ number-found h.0 h.1 (plain-number h.1 n h.3) ∙ ap (option_map Generate) h.3

-- ---- what words are taken for they ask for

as-number : (x : Text) (o : Option ℕ) (P : Command → Type 0) → workload_number x ≡ o → ((k : ℕ) → workload_number x ≡ Some k → P (Generate k)) → IfSome (option_map Generate o) P
as-number x None P e h = tt
as-number x (Some k) P e h = h k e

as-port : (x : Text) (o : Option ℕ) (P : Command → Type 0) → base_port x ≡ o → ((k : ℕ) → base_port x ≡ Some k → P (Drive k)) → IfSome (option_map Drive o) P
as-port x None P e h = tt
as-port x (Some k) P e h = h k e

-- a word alone
asks-alone : (ws : List (String Global)) (n w word : Text) (rest : List Text) (c : Command) → map string_bytes ws ≡ n ∷ w ∷ rest → w ≡ word → rest ≡ [] → option_and_then asked_by (subcommand_of form (n ∷ word ∷ [])) ≡ Some c
    → (map string_bytes ws ≡ n ∷ word ∷ [] → Asks c ws) → IfSome (option_and_then asked_by (subcommand_of form (n ∷ w ∷ rest))) (λ d. Asks d ws)
asks-alone ws n w word rest c e is none at asks =
    let f : n ∷ w ∷ rest ≡ n ∷ word ∷ [] = ap₂ (λ a b. n ∷ a ∷ b) is none in
    subst (λ (o : Option Command). IfSome o (λ d. Asks d ws)) (sym (ap taken-for f ∙ at)) (asks (e ∙ f))

asks-taken : (ws : List (String Global)) (n w : Text) (rest : List Text) → map string_bytes ws ≡ n ∷ w ∷ rest → Taken w rest → IfSome (option_and_then asked_by (subcommand_of form (n ∷ w ∷ rest))) (λ c. Asks c ws)
asks-taken ws n w rest e (for_rules is none) = asks-alone ws n w (codes "rules") rest Rules e is none (found-rules n) (λ f. (n, f))
asks-taken ws n w rest e (for_trace is none) = asks-alone ws n w (codes "trace") rest Trace e is none (found-trace n) (λ f. (n, f))
asks-taken ws n w rest e (for_simulate is none) = asks-alone ws n w (codes "simulate") rest Simulate e is none (found-simulate n) (λ f. (n, f))
asks-taken ws n w rest e (for_equiv is none) = asks-alone ws n w (codes "equiv") rest Equiv e is none (found-equiv n) (λ f. (n, f))
asks-taken ws n w rest e (for_audit is none) = asks-alone ws n w (codes "audit") rest Audit e is none (found-audit n) (λ f. (n, f))
asks-taken ws n w rest e (for_run is none) = asks-alone ws n w (codes "run") rest Run e is none (found-run n) (λ f. (n, f))
asks-taken ws n w rest e (for_watch is none) = asks-alone ws n w (codes "watch") rest Watch e is none (found-watch n) (λ f. (n, f))
asks-taken ws n w rest e (for_generate x is one p) =
    let f : n ∷ w ∷ rest ≡ n ∷ codes "generate" ∷ x ∷ [] = ap₂ (λ a b. n ∷ a ∷ b) is one in
    subst (λ (o : Option Command). IfSome o (λ c. Asks c ws)) (sym (ap taken-for f ∙ number-found n x p))
    (as-number x (workload_number x) (λ c. Asks c ws) refl (λ k is'. (n, x, e ∙ f, is')))
asks-taken ws n w rest e (for_drive x is one p) =
    let f : n ∷ w ∷ rest ≡ n ∷ codes "drive" ∷ x ∷ [] = ap₂ (λ a b. n ∷ a ∷ b) is one in
    subst (λ (o : Option Command). IfSome o (λ c. Asks c ws)) (sym (ap taken-for f ∙ base-found n x p))
    (as-port x (base_port x) (λ c. Asks c ws) refl (λ k is'. (n, x, e ∙ f, is')))

-- no word, or the program's name alone
short : (ws : List (String Global)) (ts : List Text) → map string_bytes ws ≡ ts → list_all is_plain (drop 1 ts) ≡ true → fault_of form ts ≡ [] → IfSome (option_and_then asked_by (subcommand_of form ts)) (λ c. Asks c ws)
unfolding clap_on_literals
short ws [] e p f = tt
short ws (n ∷ []) e p f = tt
short ws (n ∷ w ∷ rest) e p f = asks-taken ws n w rest e (taken n w rest p f)

pub asks : (ws : List (String Global)) → list_all is_plain (drop 1 (map string_bytes ws)) ≡ true → fault_of form (map string_bytes ws) ≡ [] → IfSome (option_and_then asked_by (subcommand_of form (map string_bytes ws))) (λ c. Asks c ws)
asks ws p f = short ws (map string_bytes ws) refl p f

-- ---- command lines

-- no word of a command line begins with a dash
texts-plain : (c : Command) (ws : List (String Global)) → Asks c ws → list_all is_plain (drop 1 (map string_bytes ws)) ≡ true
texts-plain Rules ws h = ap (λ (t : List Text). list_all is_plain (drop 1 t)) h.1
texts-plain Trace ws h = ap (λ (t : List Text). list_all is_plain (drop 1 t)) h.1
texts-plain Simulate ws h = ap (λ (t : List Text). list_all is_plain (drop 1 t)) h.1
texts-plain Equiv ws h = ap (λ (t : List Text). list_all is_plain (drop 1 t)) h.1
texts-plain Audit ws h = ap (λ (t : List Text). list_all is_plain (drop 1 t)) h.1
texts-plain Run ws h = ap (λ (t : List Text). list_all is_plain (drop 1 t)) h.1
texts-plain Watch ws h = ap (λ (t : List Text). list_all is_plain (drop 1 t)) h.1
texts-plain (Drive n) ws h = ap (λ (t : List Text). list_all is_plain (drop 1 t)) h.2 ∙ ap (λ (b : Bool). b && true) (plain-port h.1 n h.3)
texts-plain (Generate n) ws h = ap (λ (t : List Text). list_all is_plain (drop 1 t)) h.2 ∙ ap (λ (b : Bool). b && true) (plain-number h.1 n h.3)

pub all_plain : (ws : List (String Global)) → All IsPlain ws → list_all is_plain (map string_bytes ws) ≡ true
all_plain [] h = refl
all_plain (w ∷ ws) h = both (is_plain (string_bytes w)) (list_all is_plain (map string_bytes ws)) (h 0 w (omega arith)) (all_plain ws (λ k d l. h (suc k) d (omega (arith, l))))
  where
    both : (a b : Bool) → a ≡ true → b ≡ true → (a && b) ≡ true
    both true b e f = f
    both false b e f = e

plain_all : (ws : List (String Global)) → list_all is_plain (map string_bytes ws) ≡ true → All IsPlain ws
plain_all [] e k d l = absurd (omega (arith, l))
plain_all (w ∷ ws) e zero d l = first (is_plain (string_bytes w)) (list_all is_plain (map string_bytes ws)) e
  where
    first : (a b : Bool) → (a && b) ≡ true → a ≡ true
    first true b e = refl
    first false b e = e
plain_all (w ∷ ws) e (suc k) d l = plain_all ws (rest (is_plain (string_bytes w)) (list_all is_plain (map string_bytes ws)) e) k d (omega (arith, l))
  where
    rest : (a b : Bool) → (a && b) ≡ true → b ≡ true
    rest true b e = e
    rest false b e = absurd (cc)

-- after the first word
line-behind : (ws : List (String Global)) → list_all is_plain (drop 1 (map string_bytes ws)) ≡ true → All IsPlain (drop 1 ws)
line-behind [] e = λ k d l. absurd (omega (arith, l))
line-behind (w ∷ ws) e = plain_all ws e

pub behind_plain : (ws : List (String Global)) → All IsPlain (drop 1 ws) → list_all is_plain (drop 1 (map string_bytes ws)) ≡ true
behind_plain [] h = refl
behind_plain (w ∷ ws) h = all_plain ws h

pub line_plain : (ws : List (String Global)) → IsCommandLine ws → All IsPlain (drop 1 ws)
line_plain ws h = line-behind ws (texts-plain h.0 ws h.1)

pub line_faultless : (ws : List (String Global)) → IsCommandLine ws → fault_of form (map string_bytes ws) ≡ []
line_faultless ws h = faultless h.0 ws h.1

some-command : (o : Option Command) (c : Command) → o ≡ None → o ≡ Some c → ⊥
some-command o c e f = absurd (cc)

pub line_found : (ws : List (String Global)) → option_and_then asked_by (subcommand_of form (map string_bytes ws)) ≡ None → IsCommandLine ws → ⊥
line_found ws e h = some-command _ h.0 e (found h.0 ws h.1)

-- ---- words ask for one thing

pub one_command_asked : OneCommand
one_command_asked c d ws h k = let a = found c ws h in let b = found d ws k in cc
