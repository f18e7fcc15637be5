use Rattle.std.proofs.Common.{◌≡◌, drop}
use Rattle.document_text.specs.Packets.{with_words}
use Rattle.document_text.specs.Answers.{texts, given_of}
use Rattle.document_text.proofs.packet.with_words.Given as goal

abbrev pub invariant-loop-word : goal.invariant-loop-word
invariant-loop-word l = with_words (given_of l.given) (texts (drop l.word-index l.words)) ≡ with_words (given_of l.initial.given) (texts l.words)
