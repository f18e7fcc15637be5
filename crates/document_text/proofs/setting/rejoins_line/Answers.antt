use Rattle.std.proofs.Common.{rules, ◌≡◌, ℕ, Some, Ok, Err}
use Rattle.document_text.specs.declared.declaration.LineKind.TheVariants.{Setting}
use Rattle.document_text.specs.Answers.{state_of, texts}
use Rattle.document_text.proofs.Settled.{no-number}
use Rattle.document_text.proofs.setting.rejoins_line.Goals as goal

pub returns-in_err-rejoins : goal.returns-in_err-rejoins
returns-in_err-rejoins c =
    let s = state_of c.args.reader.now in
    let is : c.from_residual.result ≡ Err c.in_err-rejoins.field-0.0 = search rules in
    no-number s _ _ 0 1000 (texts c.args.words.now) (λ (n : ℕ). Ok (record s { reached = Setting; rejoins = Some n })) _ c.from_residual.result c.is_some-given.ensures c.in_err-rejoins.ensures.leads is
