use Rattle.std.proofs.Common.{◌≡◌, ◌&&◌, not, false, sym, ◌∙◌}
use Rattle.netkat_parser.specs.Cuts.{is_cut}
use Rattle.netkat_parser.proofs.Cutting.{sign-cut, either-end, either-not}
use Rattle.netkat_parser.proofs.token.sign_at.Goals.{else-not-end-via-then-not-end+else-is_cut, else-not-end-via-else-not-end}
use Rattle.netkat_parser.proofs.token.sign_at.Goals as goal

pub returns-clause-whole : goal.returns-clause-whole
returns-clause-whole c =
    let text = c.args.text.now in
    let whole : (not c.args.end && is_cut text) ≡ false = elim c.else-not-end.branch [
      | else-not-end-via-then-not-end+else-is_cut w ↦ either-not c.args.end (is_cut text) (sym w.is_cut.ensures ∙ w.if-is_cut.false)
      | else-not-end-via-else-not-end w ↦ either-end c.args.end (is_cut text) w.if-not-end.false
    ] in
    rw (c.first_sign.ensures, c.sign_len-len.ensures.len) (sign-cut text c.args.end whole (rw c.sign_len-len.ensures.len at c.sign_len-len.ensures.within))
