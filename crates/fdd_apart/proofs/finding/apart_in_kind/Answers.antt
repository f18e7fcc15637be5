use Rattle.std.proofs.Common.{sym, subst}
use Rattle.nk_values.specs.declared.packet.Packet.{Packet}
use Rattle.fdd_nodes.specs.Names.{IsFew}
use Rattle.fdd_nodes.specs.Trees.{Tree}
use Rattle.fdd_store.specs.Stores.{tree_at}
use Rattle.fdd_store.proofs.StoreLaws.{tree_grown, gives_grown, grows_on}
use Rattle.fdd_apart.specs.Kinds.{Restricts}
use Rattle.fdd_apart.specs.Walks.{CellApart}
use Rattle.fdd_apart.proofs.ApartLaws.{alike_by, told_apart, told_as}
use Rattle.fdd_apart.proofs.KindLaws.{few_named}
use Rattle.fdd_apart.proofs.finding.apart_in_kind.Goals as goal

pub restriction-requires-clause-few : goal.restriction-requires-clause-few
restriction-requires-clause-few c = few_named c.args.names.now _ c.requires.few c.requires.named_a

pub restriction-requires-2-clause-few : goal.restriction-requires-2-clause-few
restriction-requires-2-clause-few c =
    subst IsFew (sym (tree_grown _ _ _ c.in_ok-x.ensures.grows c.requires.has_b)) (few_named c.args.names.now _ c.requires.few c.requires.named_b)

pub returns-then-are_one-clause-told : goal.returns-then-are_one-clause-told
returns-then-are_one-clause-told c =
    let first = gives_grown _ _ _ _ c.in_ok-y.ensures.grows c.in_ok-x.ensures.only in
    let second = subst (λ (t : Tree). Restricts c.args.frame t (tree_at c.restriction-2.new.store c.in_ok-y.y))
    (tree_grown _ _ _ c.in_ok-x.ensures.grows c.requires.has_b) c.in_ok-y.ensures.only.is in
    alike_by c.args.frame _ _ _ _ first.is second (c.are_one.ensures.0 c.if-are_one.true)

pub returns-clause-grows : goal.returns-clause-grows
returns-clause-grows c = grows_on _ _ _ c.in_ok-x.ensures.grows (grows_on _ _ _ c.in_ok-y.ensures.grows c.in_ok-cell.ensures.grows)

pub returns-clause-told : goal.returns-clause-told
returns-clause-told c =
    let all = grows_on _ _ _ c.in_ok-x.ensures.grows (grows_on _ _ _ c.in_ok-y.ensures.grows c.in_ok-cell.ensures.grows) in
    let first = gives_grown _ _ _ _ c.in_ok-y.ensures.grows c.in_ok-x.ensures.only in
    let second = subst (λ (t : Tree). Restricts c.args.frame t (tree_at c.restriction-2.new.store c.in_ok-y.y))
    (tree_grown _ _ _ c.in_ok-x.ensures.grows c.requires.has_b) c.in_ok-y.ensures.only.is in
    let cell = subst (λ (q : Packet). CellApart q (tree_at c.restriction-2.new.store c.in_ok-x.x) (tree_at c.restriction-2.new.store c.in_ok-y.y) c.in_ok-cell.cell) c.whole.ensures c.in_ok-cell.ensures.apart in
    told_apart c.args.frame c.args.names.now _ _ _ _ _ _ c.output_apart.result c.requires.named_a c.requires.named_b first.is second cell c.packet_of-packet.ensures
    (told_as _ _ _ _ _ c.output_apart.result (tree_grown _ _ _ all c.requires.has_a) (tree_grown _ _ _ all c.requires.has_b) c.output_apart.ensures)
