use Rattle.std.proofs.Common.{sym, ◌∙◌, arith}
use Rattle.document_text.specs.Answers.{state_of}
use Rattle.document_text.proofs.Settled.{edge_from, empty-map, filled-map, finish-ok, finish-none}
use Rattle.document_text.proofs.reader.Reader.finish.Goals as goal

pub returns-then-is_empty : goal.returns-then-is_empty
returns-then-is_empty c =
    let policies = c.args.self.declared.policies in
    rw c.refused-then-is_empty.ensures
    (finish-none (state_of c.args.self) c.args.line c.if-self.false (edge_from c.args.self.draft c.in-Ok.ensures.faultless)
    (empty-map policies.items policies.len (omega (arith, policies.ok.0)) (sym c.is_empty.ensures ∙ c.if-is_empty.true)))

pub returns : goal.returns
returns c =
    let policies = c.args.self.declared.policies in
    rw (c.in-Ok.ensures.layout, c.unwrap_or.ensures, c.unwrap_or-2.ensures, c.unwrap_or-3.ensures, c.unwrap_or-4.ensures)
    (finish-ok (state_of c.args.self) c.args.line c.if-self.false (edge_from c.args.self.draft c.in-Ok.ensures.faultless)
    (filled-map policies.items policies.len (omega (arith, policies.ok.0)) (sym c.is_empty.ensures ∙ c.if-is_empty.false)))
