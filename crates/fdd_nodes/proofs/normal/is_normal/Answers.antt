use Rattle.std.proofs.Common.{subst}
use Rattle.nk_values.specs.declared.packet.Packet.{Packet}
use Rattle.fdd_nodes.specs.Cells.{Respects}
use Rattle.fdd_nodes.specs.Trees.{tree}
use Rattle.fdd_nodes.proofs.NameLaws.{fresh_of_one}
use Rattle.fdd_nodes.proofs.normal.is_normal.Goals as goal

pub returns : goal.returns
returns c =
    let ordered = c.is_ordered.ensures.0 c.if-not-is_ordered.false in
    let respects = subst (λ (d : Packet). Respects d (tree c.args.a.now)) c.whole.ensures (c.respects.ensures.0 c.if-not-respects.false) in
    let g = fresh_of_one (tree c.args.a.now) c.requires in (
      λ h. record { ordered = ordered; respects = respects; tight = c.is_tight.ensures.yes h ordered g.0 g.1 g.2 },
      λ n. c.is_tight.ensures.no n.tight,
    )
