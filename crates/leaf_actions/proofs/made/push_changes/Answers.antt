use Rattle.std.proofs.Common.{inl, inr, refl}
use Rattle.nk_values.specs.declared.field.Field.TheVariants.{EthSrc, EthDst, Ip4Src, Ip4Dst, TcpSrcPort, TcpDstPort}
use Rattle.leaf_actions.proofs.Chained.{kept_value}
use Rattle.leaf_actions.proofs.made.push_changes.Goals as goal

pub push_change-requires : goal.push_change-requires
push_change-requires c = kept_value c.args.known.now c.args.next.now EthSrc c.requires.kept c.requires.valid (inl refl)

pub push_change-requires-2 : goal.push_change-requires-2
push_change-requires-2 c = kept_value c.args.known.now c.args.next.now EthDst c.requires.kept c.requires.valid (inr (inl refl))

pub push_change-requires-3 : goal.push_change-requires-3
push_change-requires-3 c = kept_value c.args.known.now c.args.next.now Ip4Src c.requires.kept c.requires.valid (inr (inr (inl refl)))

pub push_change-requires-4 : goal.push_change-requires-4
push_change-requires-4 c = kept_value c.args.known.now c.args.next.now Ip4Dst c.requires.kept c.requires.valid (inr (inr (inr (inl refl))))

pub push_change-requires-5 : goal.push_change-requires-5
push_change-requires-5 c = kept_value c.args.known.now c.args.next.now TcpSrcPort c.requires.kept c.requires.valid (inr (inr (inr (inr (inl refl)))))

pub push_change-requires-6 : goal.push_change-requires-6
push_change-requires-6 c = kept_value c.args.known.now c.args.next.now TcpDstPort c.requires.kept c.requires.valid (inr (inr (inr (inr (inr (inl refl))))))
