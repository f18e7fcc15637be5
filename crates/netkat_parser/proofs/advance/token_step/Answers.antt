use Rattle.netkat_parser.specs.Views.{view_of}
use Rattle.netkat_parser.proofs.Advancing.{stays-same}
use Rattle.netkat_parser.proofs.advance.token_step.Goals as goal

pub returns-in_default-run_at : goal.returns-in_default-run_at
returns-in_default-run_at c = (c.in_default-run_at.ensures.cut, stays-same (view_of c.args.reading.now) c.args.text.now c.args.end)
