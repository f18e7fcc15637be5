use Rattle.std.proofs.Common.{◌≡◌, ◌++◌, drop}
use Rattle.std.specs.Option.{option_map}
use Rattle.document_text.specs.Texts.{numerals}
use Rattle.document_text.specs.Answers.{texts}
use Rattle.document_text.proofs.words.numbers.Given as goal

abbrev pub invariant-loop-word : goal.invariant-loop-word
invariant-loop-word l = option_map (λ ns. l.all.items ++ ns) (numerals (texts (drop l.word-index l.words))) ≡ numerals (texts l.words)
