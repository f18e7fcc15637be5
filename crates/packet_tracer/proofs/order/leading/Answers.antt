use Rattle.std.proofs.Common.{◌∙◌, ◌<◌, sym, arith, length, get_or, ◌≡◌, ◌∷◌, [], length-append, Some}
use Rattle.std.proofs.lemmas.List.Sorted.{IsNonDecreasingBy-push}
use Rattle.packet_tracer.specs.Orders.{fixed}
use Rattle.packet_tracer.proofs.OrderLaws.{one_more, last_is}
use Rattle.packet_tracer.proofs.order.leading.Goals as goal

pub loop-row-preserved : goal.loop-row-preserved
loop-row-preserved c =
    let ns = c.loop-row.numbers.items in
    let n = c.in-Some.number in
    let row = c.row-item.result in
    let inv = c.loop-row.invariant in
    let at : row ≡ get_or c.args.rows.now (length ns) row = rw inv.each c.row-item.is in
    let within : length ns < length c.args.rows.now = omega (arith, inv.each, c.loop-row-test.true) in
    let number : fixed c.args.destination row.pattern ≡ Some n = sym c.fixed.ensures ∙ c.in-Some.is in
    rw c.in_ok-push-in-Some.ensures.items
    record {
      leading = record {
        are_fixed = one_more c.args.destination c.args.rows.now ns row n inv.leading.are_fixed within at number;
        ascend = IsNonDecreasingBy-push (λ x. x) ns n inv.leading.ascend (λ x l. let h = inv.last x l in omega (arith, h, c.if-last-number.true));
      };
      each = let e = length-append ns (n ∷ []) in omega (arith, e, inv.each);
      last = λ x l. let e = last_is ns n x in omega (arith, e);
    }
