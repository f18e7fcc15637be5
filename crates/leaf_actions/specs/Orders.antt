-- The order of routes is total.
use Rattle.std.specs.Cmp.{IsTotalOrder, then_total, on_total, nat_cmp_total}
use Rattle.std.specs.Cmp.Lexicographic.{lists_total}
use Rattle.nk_values.specs.contracts.lit.LitOrd.TheImpl.Laws.{total-law}
use Rattle.leaf_actions.specs.Routes.{route_cmp}

pub route_total : IsTotalOrder route_cmp
route_total = then_total (on_total (λ r. r.count) nat_cmp_total)
    (then_total (on_total (λ r. r.port) nat_cmp_total) (on_total (λ r. r.copy) (lists_total total-law)))
