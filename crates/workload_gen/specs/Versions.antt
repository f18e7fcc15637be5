-- The policies of a document with their rows.
use Rattle.std.specs.Prelude.{◌≡◌, ℕ, List, map, slice_get, Some}
use Rattle.nk_syntax.specs.Terms.{Term}
use Rattle.nk_syntax.specs.Views.{term_of}
use Rattle.document_text.specs.Documents.{Doc}
use Rattle.policy_rows.specs.declared.version.Version.{Version}
use Rattle.policy_rows.specs.Numbers.{stamp_at, band_at}
use Rattle.workload_laws.specs.Emitted.{IsVersionIn}

abbrev pub policies_of : List Version → List Term
policies_of versions = map (λ (v : Version). term_of v.pol) versions

-- They are those of the document, each with its stamp and its band.
pub record AreVersionsOf (d : Doc) (versions : List Version) : Type 0 where
  pub policies : policies_of versions ≡ d.policies
  pub each : (k : ℕ) (v : Version) → slice_get versions k ≡ Some v →
      IsVersionIn d.layout (stamp_at d.settings.stamps.0 d.settings.stamps.1 k) (band_at k) v
