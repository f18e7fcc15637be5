use Rattle.std.proofs.Common.{[], refl, sym}
use Rattle.netkat_parser.specs.Views.{first_reach}
use Rattle.netkat_parser.proofs.Standing.{first-goes}
use Rattle.netkat_parser.proofs.feeding.PolicyReader.starting.Goals as goal

pub returns : goal.returns
returns c = record {
  front = [];
  parts = sym c.new-2.ensures.items;
  position = refl;
  reach = first_reach;
  shows = c.new.ensures.shows;
  goes = λ rest o e h. first-goes rest o (rw (c.new-2.ensures.items, c.new.ensures.named) at h);
}
