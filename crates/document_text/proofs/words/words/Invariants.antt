use Rattle.std.proofs.Common.{◌≡◌, ◌≤◌, ◌++◌, length, filter}
use Rattle.document_text.specs.Texts.{pieces, is_filled, words_of}
use Rattle.document_text.specs.Answers.{texts}
use Rattle.document_text.proofs.words.words.Given as goal

abbrev pub invariant-loop-all : goal.invariant-loop-all
invariant-loop-all l = record {
  words : texts l.all.items ++ filter is_filled (pieces l.rest) ≡ words_of l.line;
  short : length l.rest ≤ length l.line;
}

abbrev pub decreases-loop-all : goal.decreases-loop-all
decreases-loop-all l = length l.rest
