use Rattle.std.proofs.Common.{sym, ap, ◌∙◌, subst, List, [], ◌∷◌, ◌++◌, take}
use Rattle.std.proofs.lemmas.List.{take_more, take_all}
use Rattle.indexmap.specs.IndexSet.{insert_key}
use Rattle.nk_values.specs.declared.packet.Packet.{Packet}
use Rattle.nk_values.specs.declared.lit.Lit.{Lit}
use Rattle.fdd_nodes.specs.Trees.{Leaf}
use Rattle.fdd_star.specs.Cells.{LeadsOn}
use Rattle.fdd_star.proofs.EqualLaws.{cell_eq}
use Rattle.fdd_star.proofs.LeadLaws.{leads_copy, leads_none}
use Rattle.fdd_star.proofs.cells.add_copies.Goals as goal

pub loop-copy-init : goal.loop-copy-init
loop-copy-init c = leads_none _ _

pub loop-copy-preserved : goal.loop-copy-preserved
loop-copy-preserved c =
    let i = c.loop-copy.copy-index in
    let taken = take_more c.args.copies.now i c.copy-item.result c.loop-copy-test.true ∙ ap (λ (x : List Lit). take i c.args.copies.now ++ x ∷ []) (sym c.copy-item.is) in
    let keys = c.in_ok-insert.ensures.keys ∙ ap (λ (q : Packet). insert_key cell_eq c.loop-copy.cells.keys q) c.after.ensures.made in
    subst (λ (xs : List (List Lit)). LeadsOn (Leaf xs) c.args.here.now c.args.cells.now.keys c.insert.new.self.keys) (sym taken) (leads_copy _ _ _ _ _ _ c.loop-copy.invariant keys)

pub returns : goal.returns
returns c = subst (λ (xs : List (List Lit)). LeadsOn (Leaf xs) c.args.here.now c.args.cells.now.keys c.loop-copy.cells.keys) (take_all c.loop-copy.copy-index c.args.copies.now c.loop-copy-test.false) c.loop-copy.invariant
