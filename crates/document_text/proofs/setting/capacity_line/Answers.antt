use Rattle.std.proofs.Common.{rules, ◌≡◌, ℕ, Some, Ok, Err}
use Rattle.document_text.specs.declared.declaration.LineKind.TheVariants.{Setting}
use Rattle.document_text.specs.Answers.{state_of, texts}
use Rattle.document_text.proofs.Settled.{no-number}
use Rattle.document_text.proofs.setting.capacity_line.Goals as goal

pub returns-in_err-capacity : goal.returns-in_err-capacity
returns-in_err-capacity c =
    let s = state_of c.args.reader.now in
    let is : c.from_residual.result ≡ Err c.in_err-capacity.field-0.0 = search rules in
    no-number s _ _ 1 200000 (texts c.args.words.now) (λ (n : ℕ). Ok (record s { reached = Setting; capacity = Some n })) _ c.from_residual.result c.is_some-given.ensures c.in_err-capacity.ensures.leads is
