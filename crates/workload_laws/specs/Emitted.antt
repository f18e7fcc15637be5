-- Rows of a policy.
use Rattle.std.specs.Prelude.{ℕ}
use Rattle.nk_values.specs.declared.rows.Band.{Band}
use Rattle.nk_syntax.specs.Views.{term_of}
use Rattle.fdd_nodes.specs.Trees.{Tree}
use Rattle.fdd_compile.specs.Compiles.{CompiledOf}
use Rattle.topology_model.specs.Layouts.{Layout}
use Rattle.policy_rows.specs.declared.version.Version.{Version}
use Rattle.policy_rows.specs.Limits.{AreWithinLimits, AreWritable}
use Rattle.policy_rows.specs.Means.{RowsMean}
use Rattle.table_emitter.specs.Emission.{IsEmitted}

-- A policy with the rows that its diagram has in a topology: they stand for it, are within the limits, and can be
-- written as messages.
pub record IsVersionIn (t : Layout) (stamp : ℕ) (band : Band) (v : Version) : Type 0 where
  pub diagram : Tree
  pub compiled : CompiledOf (term_of v.pol) diagram
  pub rows : IsEmitted diagram t stamp band v.rows
  pub means : RowsMean v.rows (term_of v.pol) t
  pub limits : AreWithinLimits v.rows
  pub writable : AreWritable v.rows
