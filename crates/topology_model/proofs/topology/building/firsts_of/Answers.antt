use Rattle.std.proofs.Common.{length, sym, subst, ap, ◌∙◌, arith}
use Rattle.nk_values.specs.Members.{IsIn}
use Rattle.topology_model.specs.Firsts.{firsts_of}
use Rattle.topology_model.specs.declared.line.DeclaredSwitch.{DeclaredSwitch}
use Rattle.topology_model.proofs.Ranges.{in-get_or}
use Rattle.topology_model.proofs.FirstPlaces.{firsts-more}
use Rattle.topology_model.proofs.topology.building.firsts_of.Goals as goal

pub overflow_add-total : goal.overflow_add-total
overflow_add-total c =
    let s = c.site-item.result in
    let among = subst (λ (x : DeclaredSwitch). IsIn c.args.sites.now x) (sym c.site-item.is) (in-get_or c.args.sites.now c.loop-site.site-index s c.loop-site-test.true) in
    omega (arith, c.requires.few, c.requires.narrow s among, c.len-total.ensures, c.loop-site.invariant.few, c.loop-site-test.true)

pub loop-site-preserved : goal.loop-site-preserved
loop-site-preserved c =
    let s = c.site-item.result in
    let ss = c.args.sites.now in
    let i = c.loop-site.site-index in
    let among = subst (λ (x : DeclaredSwitch). IsIn ss x) (sym c.site-item.is) (in-get_or ss i s c.loop-site-test.true) in
    let len = c.len-total.ensures ∙ ap (λ (x : DeclaredSwitch). length x.ports) c.site-item.is in
    record {
      listed = rw (c.in_ok-push.ensures.items, len) (firsts-more c.loop-site.firsts.items (firsts_of 0 ss) ss i c.loop-site.total s c.loop-site-test.true c.loop-site.invariant.listed);
      few = omega (arith, c.requires.narrow s among, c.len-total.ensures, c.loop-site.invariant.few);
    }
