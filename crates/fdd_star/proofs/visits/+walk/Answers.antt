use Rattle.std.proofs.Common.{arith}
use Rattle.fdd_store.proofs.ForkLaws.{fall_then, fall_else}
use Rattle.fdd_star.proofs.GrowLaws.{walks_leaf, walks_then, walks_else, walks_open}
use Rattle.fdd_star.proofs.NarrowLaws.{ok_on}
use Rattle.fdd_star.proofs.visits.+walk.Goals as goal

pub walk-requires : goal.walk-requires
walk-requires t c = (let w = fall_then _ c.in-Fork.l _ _ _ _ c.in-Fork.ensures.look c.in-Fork.ensures.made in omega (arith, w), c.in-Fork.ensures.look.has_then)

pub walk-requires-in-No : goal.walk-requires-in-No
walk-requires-in-No t c = (let w = fall_else _ c.in-Fork.l _ _ _ _ c.in-Fork.ensures.look c.in-Fork.ensures.made in omega (arith, w), c.in-Fork.ensures.look.has_else)

pub walk-requires-in-Unset : goal.walk-requires-in-Unset
walk-requires-in-Unset t c = (let w = fall_else _ c.in-Fork.l _ _ _ _ c.in-Fork.ensures.look c.in-Fork.ensures.made in omega (arith, w), c.in-Fork.ensures.look.has_else)

pub returns-in-Leaf : goal.returns-in-Leaf
returns-in-Leaf t c = walks_leaf _ _ _ _ c.requires c.in-Leaf.ensures.look

pub returns-in-Yes : goal.returns-in-Yes
returns-in-Yes t c = ok_on c.walk.result _ _ (λ r w. walks_then _ _ _ _ _ _ _ _ r c.in-Fork.ensures.look.is c.in-Yes.ensures w) c.walk.ensures

pub returns-in-No : goal.returns-in-No
returns-in-No t c = ok_on c.walk-in-No.result _ _ (λ r w. walks_else _ _ _ _ _ _ _ _ r c.in-Fork.ensures.look.is c.in-No.ensures w) c.walk-in-No.ensures

pub returns-in_ok-push-in-Unset : goal.returns-in_ok-push-in-Unset
returns-in_ok-push-in-Unset t c = ok_on c.walk-in-Unset.result _ _ (λ r w. walks_open _ _ _ _ _ _ _ _ r c.in-Fork.ensures.look.is _ c.in-Unset.ensures c.in_ok-push-in-Unset.ensures.items w) c.walk-in-Unset.ensures
