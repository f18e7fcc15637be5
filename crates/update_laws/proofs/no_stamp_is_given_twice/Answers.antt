use Rattle.update_laws.proofs.Stamps.{no-stamp-twice}
use Rattle.update_laws.proofs.no_stamp_is_given_twice.Goals as goal

pub returns : goal.returns
returns x c f k i = no-stamp-twice c k f i
