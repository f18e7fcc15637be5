use Rattle.std.proofs.Common.{rules, ◌≡◌, false, length, replicate, None, arith, ap, sym, ◌∙◌}
use Rattle.std.proofs.lemmas.Grind.{common_steps}
use Rattle.world_journal.specs.Arriving.{unmarked}
use Rattle.world_journal.proofs.Counting.{counts-start}
use Rattle.world_journal.proofs.Marks.{none-arrived, unmarked-none}
use Rattle.world_journal.specs.Journals.{switches}
use Rattle.world_journal.proofs.Returning.{sessions-start}
use Rattle.world_journal.proofs.run.Run.new.Goals as goal

pub invariant_of-result : goal.invariant_of-result
invariant_of-result g c =
    let count : c.len-left.result ≡ length g.L.RunName.lines = grind (arith, common_steps, c.len-left.ensures, ap length c.requires.lines) in
    let marks : c.in-Ok.arrived.items ≡ replicate c.len-left.result false = search rules in
    let here : c.switch_count-count.result ≡ switches g.L.RunName.start = c.switch_count-count.ensures.start in
    let zeros : c.in-Ok-vec-3.sessions.items ≡ replicate c.switch_count-count.result 0 = search rules in
    let to : c.in-Ok-vec-4.to_told.items ≡ replicate c.switch_count-count.result 0 = search rules in
    let back : c.in-Ok-vec-5.back_told.items ≡ replicate c.switch_count-count.result 0 = search rules in (
      c.requires.lines,
      none-arrived g.L.RunName.lines c.in-Ok.arrived.items c.args.held.world.arrivals (marks ∙ ap (λ n. replicate n false) count) c.requires.begins.0,
      sym (ap unmarked marks ∙ unmarked-none c.len-left.result),
      c.nothing.ensures.share.0,
      c.requires.all,
      grind (arith, common_steps, c.in-Ok-vec.ensures.len, c.switch_count-count.ensures.start),
      grind (arith, common_steps, c.in-Ok-vec-2.ensures.len, c.switch_count-count.ensures.start),
      sessions-start _ _ _ c.args.held.journal c.in-Ok-vec-3.sessions.items c.in-Ok-no_ends.to_ends.items c.in-Ok-no_ends-2.back_ends.items c.requires.begins.1
          (zeros ∙ ap (λ n. replicate n 0) here) (c.in-Ok-no_ends.ensures ∙ ap (λ n. replicate n None) here) (c.in-Ok-no_ends-2.ensures ∙ ap (λ n. replicate n None) here),
      counts-start _ c.args.held.journal _ _ c.requires.begins.1 (to ∙ ap (λ n. replicate n 0) here) (back ∙ ap (λ n. replicate n 0) here),
    )
