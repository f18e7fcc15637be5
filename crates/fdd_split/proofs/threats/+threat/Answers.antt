use Rattle.std.proofs.Common.{arith, List, subst}
use Rattle.fdd_nodes.proofs.MakesLaws.{if_ok}
use Rattle.fdd_store.proofs.ForkLaws.{fall_then, fall_else}
use Rattle.fdd_store.specs.Stores.{tree_at}
use Rattle.fdd_split.specs.declared.bars.Bar.{Bar}
use Rattle.fdd_split.specs.Pairs.{IsFirstOf}
use Rattle.fdd_split.specs.Threats.{Threat}
use Rattle.fdd_split.proofs.BarLaws.{narrows_as, narrows_of}
use Rattle.fdd_split.proofs.ForkLaws.{then_unbarred, else_unbarred, fork_threats}
use Rattle.fdd_split.proofs.PlainLaws.{plain_none}
use Rattle.fdd_split.proofs.threats.+threat.Goals as goal

pub first_threat-returns-then-plain-clause-first : goal.first_threat-returns-then-plain-clause-first
first_threat-returns-then-plain-clause-first t c = plain_none _ _ (c.in_ok-plain.ensures.plain c.if-plain.true)

pub threat_at-first_threat-requires : goal.threat_at-first_threat-requires
threat_at-first_threat-requires t c =
    let y = narrows_as _ _ _ _ _ c.deref-in-Fork-2.ensures.value (narrows_of _ _ _ _ _ c.deref-in-Fork.ensures.value c.in_ok-yes-in-Fork.ensures) in (
      (let w = fall_then _ c.in-Fork.l _ _ _ _ c.in-Fork.ensures.look c.in-Fork.ensures.made in omega (arith, w)),
      (c.in-Fork.ensures.look.has_then, (c.requires.kept, then_unbarred _ _ c.in-Fork.l _ _ _ c.in-Fork.ensures.look.is c.in-Fork.ensures.made c.requires.unbarred y)),
    )

pub threat_at-threat_behind-requires : goal.threat_at-threat_behind-requires
threat_at-threat_behind-requires t c =
    let y = narrows_as _ _ _ _ _ c.deref-in-Fork-2.ensures.value (narrows_of _ _ _ _ _ c.deref-in-Fork.ensures.value c.in_ok-yes-in-Fork.ensures) in
    let n = c.in_ok-no-in-Fork.ensures in (
      (let w = fall_else _ c.in-Fork.l _ _ _ _ c.in-Fork.ensures.look c.in-Fork.ensures.made in omega (arith, w)),
      (c.in-Fork.ensures.look.has_else, (c.in_ok-x-in-Fork.ensures.kept, else_unbarred _ _ c.in-Fork.l _ _ _ c.in-Fork.ensures.look.is c.in-Fork.ensures.made c.requires.unbarred y _ n)),
    )

pub threat_at-returns-in-Leaf-clause-first : goal.threat_at-returns-in-Leaf-clause-first
threat_at-returns-in-Leaf-clause-first t c = if_ok c.leaf_threat.result _ _ c.leaf_threat.ensures (λ o h. subst (λ (k : List Bar). IsFirstOf (Threat k (tree_at c.args.store.now c.args.a)) o) c.deref.ensures.value h)

pub threat_at-returns-in_ok-y-in-Fork-clause-first : goal.threat_at-returns-in_ok-y-in-Fork-clause-first
threat_at-returns-in_ok-y-in-Fork-clause-first t c =
    let y = narrows_as _ _ _ _ _ c.deref-in-Fork-2.ensures.value (narrows_of _ _ _ _ _ c.deref-in-Fork.ensures.value c.in_ok-yes-in-Fork.ensures) in
    let n = c.in_ok-no-in-Fork.ensures in
    fork_threats _ _ c.in-Fork.l _ _ _ c.in-Fork.ensures.look.is c.in-Fork.ensures.made c.requires.unbarred y _ n _ _ _ c.in_ok-x-in-Fork.ensures.first c.in_ok-y-in-Fork.ensures.first c.first_of.ensures

pub threat_behind-returns-then-plain-clause-first : goal.threat_behind-returns-then-plain-clause-first
threat_behind-returns-then-plain-clause-first t c = plain_none _ _ (c.in_ok-plain.ensures.plain c.if-plain.true)
