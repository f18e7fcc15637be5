-- Every document that is read is sound.
use Rattle.std.proofs.Common.{ℕ, List, arith}
use Rattle.topology_model.proofs.Ranges.{test_edge}
use Rattle.document_text.specs.Documents.{Doc}
use Rattle.document_text.specs.Grammar.{IsDocument}
use Rattle.document_text.proofs.Limits.{reading-within}
use Rattle.netkat_parser.proofs.Naming.{text-few}
use Rattle.policy_rows.specs.Means.{standing}
use Rattle.program_answer.specs.Sound.{IsSound}
use Rattle.program_answer.proofs.FewNamed.{few_named}

pub sound : (text : List ℕ) (d : Doc) → IsDocument text d → IsSound d
sound text d read =
    let w = reading-within text d read in
    record {
      stamps = record { low = w.settings.stamps.0; rising = w.settings.stamps.1; high = w.settings.stamps.2 };
      hops = omega (arith, w.settings.hops.0);
      rejoins = w.settings.rejoins;
      policies = w.policies.1;
      few = λ p m. let r = w.read p m in few_named p (text-few r.0 p r.1);
      packets = λ l m. let a = w.arrives l m in record { shaped = a.shaped; edge = test_edge d.layout (standing l.packet) a.edge };
    }
