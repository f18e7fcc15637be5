use Rattle.std.proofs.Common.{◌≡◌, ◌+◌, ◌-◌, length, sym, ◌∙◌, arith}
use Rattle.fdd_nodes.proofs.OrderLaws.{place_last, place_found, is_less}
use Rattle.fdd_nodes.proofs.leaf.copies.place_for.Goals as goal

pub returns-then-eq : goal.returns-then-eq
returns-then-eq c =
    let last : (length c.args.copies.now - 1) + 1 ≡ length c.args.copies.now = omega arith in
    place_last c.args.copy.now c.index-copies-n.result c.args.copies.now _ last c.requires c.index-copies-n.is (sym c.cmp.ensures ∙ is_less c.cmp.result (sym c.eq.ensures ∙ c.if-eq.true))

pub returns : goal.returns
returns c =
    place_found c.args.copy.now c.args.copies.now c.binary_search.result c.err.result c.err.ensures.value c.requires c.binary_search.ensures.bound c.binary_search.ensures.position
