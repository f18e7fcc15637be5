use Rattle.std.proofs.Common.{List, ℕ, map, ap, ◌∙◌}
use Rattle.nk_syntax.specs.declared.pol.Pol.{Pol}
use Rattle.nk_syntax.specs.Views.{term_of}
use Rattle.workload_laws.specs.Workload.{workload}
use Rattle.workload_gen.proofs.Building.{map-more, policies-more, words-more}
use Rattle.workload_gen.proofs.policies.policies.Goals as goal

pub loop-drawn-preserved : goal.loop-drawn-preserved
loop-drawn-preserved c =
    let g = c.loop-drawn.rng in
    let h = c.number_by-blocked in
    record {
      policies = policies-more c.args.switches c.args.count c.loop-drawn.drawn g h.new.rng (map term_of c.loop-drawn.policies.items) (map term_of c.push.new.self.items) _ (term_of c.in_ok-policy.field-0) c.loop-drawn-test.true
          c.loop-drawn.invariant.policies (ap (λ (ps : List Pol). map term_of ps) c.in_ok-push.ensures.items ∙ map-more term_of c.loop-drawn.policies.items c.in_ok-policy.field-0)
          (c.in_ok-policy.ensures ∙ ap (λ (b : ℕ). workload c.args.switches b) h.ensures.number) h.ensures.behind;
      words = words-more c.args.count c.loop-drawn.drawn g h.new.rng _ c.loop-drawn-test.true c.loop-drawn.invariant.words h.ensures.behind;
    }
