-- The words of a command line.
use Rattle.std.specs.Prelude.{◌≡◌, ◌==◌, ℕ, Bool, true, not, nat_eq, nat_lt, if◌then◌else◌, List, [], ◌∷◌, map, Option}
use Rattle.std.specs.Prelude.{Some, None, option_and_then, String, string_bytes, codes}
use Rattle.std.specs.declared.alloc.Global.{Global}
use Rattle.netkat_parser.specs.Numbers.{numeral, at_most}
use Rattle.command_line.specs.declared.command.Command.{Command}
use Rattle.command_line.specs.declared.command.Command.TheVariants.{Rules, Trace, Simulate, Equiv, Audit, Run, Watch}
use Rattle.command_line.specs.declared.command.Command.TheVariants.{Drive, Generate}

-- the word does not begin with a dash
abbrev pub is_plain : List ℕ → Bool
is_plain [] = true
is_plain (x ∷ xs) = not (x == 45)

abbrev pub IsPlain : String Global → Type 0
IsPlain word = is_plain (string_bytes word) ≡ true

-- the number of a workload: 1 to 4 decimal digits, from 1 to 1,000
abbrev pub workload_number : List ℕ → Option ℕ
workload_number digits =
    option_and_then (λ n. if nat_eq n 0 then None else Some n) (at_most 1000 (numeral 10 1 4 digits))

-- the first port of a drive: 1 to 5 decimal digits, from 1,024 to 65,000
abbrev pub base_port : List ℕ → Option ℕ
base_port digits = option_and_then (λ n. if nat_lt n 1024 then None else Some n) (at_most 65000 (numeral 10 1 5 digits))

-- the program's name, and then this word
abbrev pub IsName : List ℕ → List (String Global) → Type 0
IsName word words = (name : List ℕ) × (map string_bytes words ≡ name ∷ word ∷ [])

-- the program's name, the word `generate`, and the digits of this number
abbrev pub IsNumbered : ℕ → List (String Global) → Type 0
IsNumbered n words = (name : List ℕ) × (digits : List ℕ) ×
    (map string_bytes words ≡ name ∷ codes "generate" ∷ digits ∷ []) × (workload_number digits ≡ Some n)

-- the program's name, the word `drive`, and the digits of this port
abbrev pub IsFromPort : ℕ → List (String Global) → Type 0
IsFromPort n words = (name : List ℕ) × (digits : List ℕ) ×
    (map string_bytes words ≡ name ∷ codes "drive" ∷ digits ∷ []) × (base_port digits ≡ Some n)

-- The words ask for the command.
abbrev pub Asks : Command → List (String Global) → Type 0
Asks Rules = IsName (codes "rules")
Asks Trace = IsName (codes "trace")
Asks Simulate = IsName (codes "simulate")
Asks Equiv = IsName (codes "equiv")
Asks Audit = IsName (codes "audit")
Asks Run = IsName (codes "run")
Asks Watch = IsName (codes "watch")
Asks (Drive n) = IsFromPort n
Asks (Generate n) = IsNumbered n

-- The words are a command line.
abbrev pub IsCommandLine : List (String Global) → Type 0
IsCommandLine words = (c : Command) × Asks c words

-- the command reads a document
abbrev pub IsReader : Command → Type 0
IsReader Rules = Unit {0}
IsReader Trace = Unit {0}
IsReader Simulate = Unit {0}
IsReader Equiv = Unit {0}
IsReader Audit = Unit {0}
IsReader Run = Unit {0}
IsReader Watch = Unit {0}
IsReader (Drive n) = Unit {0}
IsReader (Generate n) = ⊥

-- what is asked for comes from a document
abbrev pub ReadsDocument : List (String Global) → Type 0
ReadsDocument words = (c : Command) × IsReader c × Asks c words

-- Words ask for one command at most.
abbrev pub OneCommand : Type 0
OneCommand = (c d : Command) (words : List (String Global)) → Asks c words → Asks d words → c ≡ d
