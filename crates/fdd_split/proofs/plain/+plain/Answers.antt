use Rattle.std.proofs.Common.{arith}
use Rattle.fdd_store.proofs.ForkLaws.{fall_else}
use Rattle.fdd_split.proofs.plain.+plain.Goals as goal

pub is_plain_at-is_plain-requires-then-branch : goal.is_plain_at-is_plain-requires-then-branch
is_plain_at-is_plain-requires-then-branch t c = (let w = fall_else _ c.in-Fork.field-0 _ _ _ _ c.in-Fork.ensures.look c.in-Fork.ensures.made in omega (arith, w), (c.in-Fork.ensures.look.has_else, c.in_ok-is_plain-in-Fork.ensures.kept))
