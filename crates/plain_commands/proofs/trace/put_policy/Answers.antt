use Rattle.std.proofs.Common.{sym, subst}
use Rattle.std.proofs.lemmas.Result.{on_ok_weaker}
use Rattle.nk_values.specs.declared.rows.Rows.{Rows}
use Rattle.document_text.specs.Answers.{doc_of}
use Rattle.policy_rows.specs.Means.{RowsMean}
use Rattle.plain_commands.proofs.Walks.{policy_text}
use Rattle.plain_commands.proofs.trace.put_policy.Goals as goal

pub put_packets-requires-clause-means : goal.put_packets-requires-clause-means
put_packets-requires-clause-means c =
    let means = c.requires.means in
    (means.0, subst (λ (r : Rows). RowsMean r means.0 c.args.document.now.topology) (sym c.in_ok-ordered.ensures) means.1)

pub returns : goal.returns
returns c = λ p m.
    on_ok_weaker c.put_packets.result (policy_text (doc_of c.args.document.now) c.args.policy p _ _ _ c.in_ok-put_policy_line.ensures)
    (c.put_packets.ensures p (subst (λ (r : Rows). RowsMean r p c.args.document.now.topology) (sym c.in_ok-ordered.ensures) m))
