-- What the parts of a comparison tell.
use Rattle.std.specs.Prelude.{◌≡◌, List}
use Rattle.nk_values.specs.declared.lit.Lit.{Lit}
use Rattle.nk_values.specs.Members.{IsIn}
use Rattle.nk_syntax.specs.Terms.{Term}
use Rattle.fdd_apart.specs.declared.finding.Side.{Side}
use Rattle.fdd_compile.specs.Meanings.{LacksMeaning}
use Rattle.fdd_compile.specs.Named.{Of, TermNames}
use Rattle.fdd_differ.specs.Unnamed.{AreFewNames}
use Rattle.policy_equality.specs.declared.fault.CompareError.{CompareError}
use Rattle.policy_equality.specs.declared.fault.CompareError.TheVariants.{Fault, Memory}

-- the literals that the policies name, few enough for a comparison
pub record AreNamesOfBoth (p q : Term) (ls : List Lit) : Type 0 where
  pub few : AreFewNames ls
  pub one : (l : Lit) → Of (TermNames p) l → IsIn ls l
  pub other : (l : Lit) → Of (TermNames q) l → IsIn ls l

-- the first fault of a policy, with its side; nothing is said of memory
abbrev pub Blames : Side → Term → CompareError → Type 0
Blames side p (Fault s f) = (s ≡ side) × LacksMeaning p f
Blames side p Memory = Unit {0}
