use Rattle.std.proofs.Common.{◌≡◌, ◌&&◌, ◌==◌, not, false, length, ◌∙◌, rules}
use Rattle.std.specs.List.{prefix_len}
use Rattle.netkat_parser.specs.Signs.{is_run_byte}
use Rattle.netkat_parser.proofs.Cutting.{run-cut, either-end, either-not, apart}
use Rattle.netkat_parser.proofs.token.run_at.Goals.{else-not-end-via-then-not-end+else-len-text, else-not-end-via-else-not-end}
use Rattle.netkat_parser.proofs.token.run_at.Goals as goal

pub returns-clause-whole : goal.returns-clause-whole
returns-clause-whole c =
    let text = c.args.text.now in
    let n = prefix_len is_run_byte text in
    let len : c.run_len-len.result ≡ n = c.run_len-len.ensures.len is_run_byte (search rules) in
    let whole : (not c.args.end && (n == length text)) ≡ false = elim c.else-not-end.branch [
      | else-not-end-via-then-not-end+else-len-text w ↦ either-not c.args.end (n == length text) (apart n (length text) (λ e. w.if-len-text.false (len ∙ e)))
      | else-not-end-via-else-not-end w ↦ either-end c.args.end (n == length text) w.if-not-end.false
    ] in
    rw len (run-cut text c.args.end whole)
