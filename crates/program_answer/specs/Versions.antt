-- The policies of a document as versions: each with its stamp, its band and its rows.
use Rattle.std.specs.Prelude.{◌≡◌, ℕ, suc, List, [], ◌∷◌, ◌++◌, length}
use Rattle.nk_values.specs.declared.fault.EmitFault.{EmitFault}
use Rattle.nk_syntax.specs.Terms.{Term}
use Rattle.nk_syntax.specs.Views.{term_of}
use Rattle.topology_model.specs.Layouts.{Layout}
use Rattle.document_text.specs.declared.document.Settings.{Settings}
use Rattle.fdd_compile.specs.Trees.{Tree}
use Rattle.fdd_compile.specs.Compiles.{CompiledOf, IsFaultOf}
use Rattle.policy_rows.specs.declared.version.Version.{Version}
use Rattle.policy_rows.specs.Limits.{AreWithinLimits, AreWritable}
use Rattle.policy_rows.specs.Means.{RowsMean}
use Rattle.policy_rows.specs.Numbers.{stamp_at, band_at}
use Rattle.table_emitter.specs.Emission.{IsEmitted, IsEmitFault}
use Rattle.report_text.specs.Fault.{Fault}
use Rattle.report_text.specs.Fault.TheVariants as fault

-- the stamp of the policy after k others
abbrev pub stamp_in : Settings → ℕ → ℕ
stamp_in s k = stamp_at s.stamps.0 s.stamps.1 k

-- The policy after k others with its rows: those of its diagram, which stand for it, are within the limits, and can be
-- written as messages.
pub record IsVersion (t : Layout) (s : Settings) (k : ℕ) (p : Term) (v : Version) : Type 0 where
  pub policy : term_of v.pol ≡ p
  pub diagram : Tree
  pub compiled : CompiledOf p diagram
  pub rows : IsEmitted diagram t (stamp_in s k) (band_at k) v.rows
  pub means : RowsMean v.rows p t
  pub limits : AreWithinLimits v.rows
  pub writable : AreWritable v.rows

-- the policies after k others
abbrev pub AreVersions : Layout → Settings → ℕ → List Term → List Version → Type 0
AreVersions t s k [] [] = Unit {0}
AreVersions t s k [] (v ∷ vs) = ⊥
AreVersions t s k (p ∷ ps) [] = ⊥
AreVersions t s k (p ∷ ps) (v ∷ vs) = IsVersion t s k p v × AreVersions t s (suc k) ps vs

-- a compiled policy has no rows
pub record HasNoRows (t : Layout) (s : Settings) (k : ℕ) (p : Term) (f : EmitFault) : Type 0 where
  pub diagram : Tree
  pub compiled : CompiledOf p diagram
  pub fault : IsEmitFault diagram t (stamp_in s k) f

-- the fault of the policy after k others, which is named by its number from 1
abbrev pub IsPolicyFault : Layout → Settings → ℕ → Term → Fault → Type 0
IsPolicyFault t s k p (fault.Compile i f) = (i ≡ suc k) × IsFaultOf p f
IsPolicyFault t s k p (fault.Emit i f) = (i ≡ suc k) × HasNoRows t s k p f
IsPolicyFault t s k p (fault.Line line column f) = ⊥
IsPolicyFault t s k p (fault.NotEnabled line) = ⊥
IsPolicyFault t s k p (fault.NotTwo line) = ⊥
IsPolicyFault t s k p fault.Read = ⊥
IsPolicyFault t s k p fault.Net = ⊥
IsPolicyFault t s k p fault.NoThread = ⊥
IsPolicyFault t s k p fault.Report = ⊥
IsPolicyFault t s k p fault.Usage = ⊥

-- the fault of the first policy that has one
pub record IsFirstPolicyFault (t : Layout) (s : Settings) (ps : List Term) (f : Fault) : Type 0 where
  pub before : List Term
  pub policy : Term
  pub behind : List Term
  pub all : ps ≡ before ++ policy ∷ behind
  pub versions : List Version
  pub fine : AreVersions t s 0 before versions
  pub here : IsPolicyFault t s (length before) policy f
