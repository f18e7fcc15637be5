use Rattle.std.proofs.Common.{◌&&◌, ◌-◌, length, take, drop, [], sym, ap, ◌∙◌}
use Rattle.std.proofs.lemmas.List.{append-nil}
use Rattle.std.specs.List.{list_all}
use Rattle.document_text.specs.Texts.{is_blank, is_end, words_of}
use Rattle.document_text.proofs.Pieces.{end-line, rest-of}
use Rattle.document_text.proofs.words.is_end_line.Goals as goal

pub returns-then-is_text : goal.returns-then-is_text
returns-then-is_text c =
    let content = c.content-content.result.now in
    let skipped = c.blank_len.result in
    let r = take (length content - skipped) (drop skipped content) in
    let n = c.piece_len-end.result in
    let whole = end-line c.args.line.now content r n c.content-content.ensures.content (rest-of content skipped ∙ ap (λ k. drop k content) c.blank_len.ensures.len) c.piece_len-end.ensures.len in
    let first = sym c.is_text.ensures ∙ c.if-is_text.true in
    c.are_blank.ensures ∙ ap (list_all is_blank) (rest-of r n) ∙ sym (ap (λ b. b && list_all is_blank (drop n r)) first) ∙ whole

pub returns-else-is_text : goal.returns-else-is_text
returns-else-is_text c =
    let content = c.content-content.result.now in
    let skipped = c.blank_len.result in
    let r = take (length content - skipped) (drop skipped content) in
    let n = c.piece_len-end.result in
    let whole = end-line c.args.line.now content r n c.content-content.ensures.content (rest-of content skipped ∙ ap (λ k. drop k content) c.blank_len.ensures.len) c.piece_len-end.ensures.len in
    let first = sym c.is_text.ensures ∙ c.if-is_text.false in
    c.if-is_text.false ∙ sym (ap (λ b. b && list_all is_blank (drop n r)) first) ∙ whole

pub returns-then-is_no_end : goal.returns-then-is_no_end
returns-then-is_no_end c = sym (ap (λ t. is_end (words_of t)) (sym (append-nil c.args.line.now)) ∙ c.if-is_no_end.ensures.1 [])
