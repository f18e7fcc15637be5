use Rattle.std.proofs.Common.{length, take, ap, ◌∙◌, arith, length-drop}
use Rattle.document_text.specs.Grammar.{line_start}
use Rattle.document_text.proofs.Feeding.{given-place, gives-on}
use Rattle.document_text.proofs.doc_reader.DocReader.give.Goals as goal

pub invariant_of-self-2 : goal.invariant_of-self-2
invariant_of-self-2 c =
    let old = c.args.self.now in
    let h = given-place old.behind c.position_after-self.result old.pending.items c.advance.new.self.items c.args.len old.fed c.requires
    (rw c.as_slice.ensures at c.position_after-self.ensures) c.advance.ensures.items old.place_lines old.place_columns in
    let shorter = ap length c.advance.ensures.items ∙ length-drop c.args.len old.pending.items in
    record {
      few = old.few;
      held = omega (arith, old.held, shorter);
      rows = old.rows;
      lines = omega (arith, old.lines, shorter);
      place_lines = h.0;
      place_columns = h.1;
    }

pub returns-clause-ok : goal.returns-clause-ok
returns-clause-ok c =
    let old = c.args.self.now in
    let line = take c.args.len old.pending.items in
    record {
      pending = c.advance.ensures.items;
      stands = λ begin front h.
          gives-on begin old.policy c.feed.new.self old.behind c.position_after-self.result front line
          (rw c.as_slice.ensures at (c.in_ok-feed.ensures.ok (line_start begin) front)) (rw c.as_slice.ensures at c.position_after-self.ensures) h;
    }
