use Rattle.std.proofs.Common.{ap, arith}
use Rattle.netkat_parser.specs.declared.fault.Position.{Position}
use Rattle.document_text.proofs.doc_reader.DocReader.open_policy.Goals as goal

pub invariant_of-self : goal.invariant_of-self
invariant_of-self c =
    let old = c.args.self.now in
    record {
      few = old.few;
      held = old.held;
      rows = old.rows;
      lines = old.lines;
      place_lines = omega (arith, old.lines, ap (λ (p : Position). p.line) c.line_start-begin.ensures);
      place_columns = omega (arith, old.held, ap (λ (p : Position). p.column) c.line_start-begin.ensures);
    }
