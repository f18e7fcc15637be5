use Rattle.std.proofs.Common.{refl, sym, ◌∙◌}
use Rattle.nk_values.specs.Patterns.{Incoming}
use Rattle.packet_tracer.proofs.sending.is_hit.Goals as goal

pub returns-else-may_hit : goal.returns-else-may_hit
returns-else-may_hit c =
    let i : Incoming = record { port = c.args.port; header = c.args.header.now; tag = c.args.tag } in
    c.if-may_hit.false ∙ sym (c.may_hit.ensures i refl c.if-may_hit.false)
