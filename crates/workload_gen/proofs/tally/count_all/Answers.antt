use Rattle.std.proofs.Common.{◌≡◌, ℕ, List, [], ◌∷◌, ◌++◌, length, slice_get, Some, sym, ap, subst, arith}
use Rattle.std.proofs.lemmas.List.{length-append}
use Rattle.workload_gen.specs.Counts.{IsCount}
use Rattle.workload_gen.specs.Draws.{tried_at}
use Rattle.workload_gen.proofs.Recounting.{each-push}
use Rattle.workload_gen.proofs.tally.count_all.Goals as goal

pub loop-place-preserved : goal.loop-place-preserved
loop-place-preserved c =
    let w = c.args.world.now in
    let counts = c.loop-place.counts.items in
    let count = c.count_at.result in
    let all : length counts ≡ c.loop-place.place = c.loop-place.invariant.all in
    let items : c.push.new.self.items ≡ counts ++ count ∷ [] = c.in_ok-push.ensures.items in
    let more : length c.push.new.self.items ≡ length (counts ++ count ∷ []) = ap length items in
    record {
      all = omega (arith, all, more, length-append counts (count ∷ []));
      each = subst (λ (xs : List ℕ). (k n : ℕ) → slice_get xs k ≡ Some n → IsCount w (tried_at w k) n) (sym items)
          (each-push (λ (k n : ℕ). IsCount w (tried_at w k) n) counts count (subst (λ (i : ℕ). IsCount w (tried_at w i) count) (sym all) c.count_at.ensures) c.loop-place.invariant.each);
    }
