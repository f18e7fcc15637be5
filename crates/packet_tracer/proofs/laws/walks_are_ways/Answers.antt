use Rattle.packet_tracer.proofs.Ways.{walks-ways}
use Rattle.packet_tracer.proofs.laws.walks_are_ways.Goals as goal

pub returns : goal.returns
returns c = walks-ways
