use Rattle.std.proofs.Common.{◌++◌, [], ◌∷◌, List, map, ap, ◌∙◌}
use Rattle.std.specs.declared.vec.Vec.{Vec}
use Rattle.std.specs.declared.alloc.Global.{Global}
use Rattle.nk_syntax.specs.declared.pol.Pol.{Pol}
use Rattle.nk_syntax.specs.Terms.{Term}
use Rattle.nk_syntax.specs.Views.{term_of}
use Rattle.workload_gen.proofs.Building.{map-more, hops-up, hops-skip}
use Rattle.workload_gen.proofs.policies.add_hops.Goals.{then-destination-blocked+in_ok-hop+in_ok-push, else-destination-blocked}
use Rattle.workload_gen.proofs.policies.add_hops.Goals as goal

pub loop-destination-preserved : goal.loop-destination-preserved
loop-destination-preserved c = elim c.if-destination-blocked.branch [
  | then-destination-blocked+in_ok-hop+in_ok-push w ↦
      hops-up c.args.blocked c.args.switch c.loop-destination.destination (map term_of c.args.items.now.items) (map term_of c.loop-destination.items.items) (map term_of c.if-destination-blocked.items.items)
      c.loop-destination.auto.destination w.if-destination-blocked.true c.loop-destination.invariant
      (ap (λ (v : Vec Pol Global). map term_of v.items) w.items-is ∙ ap (λ (ps : List Pol). map term_of ps) w.in_ok-push.ensures.items
      ∙ map-more term_of c.loop-destination.items.items w.in_ok-hop.field-0 ∙ ap (λ (t : Term). map term_of c.loop-destination.items.items ++ t ∷ []) w.in_ok-hop.ensures)
  | else-destination-blocked w ↦
      ap (λ (v : Vec Pol Global). map term_of v.items) w.items-is
      ∙ hops-skip c.args.blocked c.args.switch c.loop-destination.destination (map term_of c.args.items.now.items) (map term_of c.loop-destination.items.items) c.loop-destination.auto.destination w.if-destination-blocked.false c.loop-destination.invariant
]
