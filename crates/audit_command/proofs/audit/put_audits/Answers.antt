use Rattle.std.proofs.Common.{List, sym, ◌∙◌, ap, get_or, string_bytes}
use Rattle.std.proofs.lemmas.Option.{get_or_from_slice_get}
use Rattle.topology_model.specs.declared.line.DeclaredSwitch.{DeclaredSwitch}
use Rattle.topology_model.specs.Layouts.{Layout}
use Rattle.audit_command.proofs.Auditing.{audits-more}
use Rattle.audit_command.proofs.audit.put_audits.Goals as goal

pub loop-place-preserved : goal.loop-place-preserved
loop-place-preserved c =
    let w = c.args.world.now in
    let place = c.loop-place.place in
    let site = c.site-item.result in
    let audit = c.in_ok-verdict.ensures in
    let sites = c.switches-site-items.ensures.switches ∙ ap (λ (t : Layout). t.switches) c.topology.ensures in
    let same = c.site-item.is ∙ (ap (λ (xs : List DeclaredSwitch). get_or xs place site) sites ∙ get_or_from_slice_get w.topology.switches place audit.site site audit.named) in
    audits-more w place (string_bytes c.args.out.now) (string_bytes c.loop-place.out) (string_bytes c.put_audit.new.out) site c.in_ok-verdict.verdict c.loop-place.invariant audit (sym same) c.in_ok-put_audit.ensures
