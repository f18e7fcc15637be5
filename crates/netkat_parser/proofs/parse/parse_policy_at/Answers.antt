use Rattle.std.proofs.Common.{[]}
use Rattle.netkat_parser.proofs.Standing.{answers-read, answers-fault, answers-each_read, answers-each_fault}
use Rattle.netkat_parser.proofs.parse.parse_policy_at.Goals as goal

pub returns : goal.returns
returns c =
    let text = c.args.text.now in
    let begin = c.args.begin in
    let h = c.finish.ensures begin text (c.in_ok-feed.ensures.ok begin [] c.starting-reader.ensures) in
    record {
      read = answers-read begin text c.finish.result h;
      fault = answers-fault begin text c.finish.result h;
      each_read = answers-each_read begin text c.finish.result h;
      each_fault = answers-each_fault begin text c.finish.result h;
    }
