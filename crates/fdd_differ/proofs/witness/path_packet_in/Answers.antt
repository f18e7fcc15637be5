use Rattle.std.proofs.Common.{◌≡◌, sym, ap, ◌∙◌, subst, List}
use Rattle.std.proofs.lemmas.Bool.{false≢true}
use Rattle.nk_values.specs.declared.packet.Packet.{Packet}
use Rattle.nk_values.specs.declared.lit.Lit.{Lit}
use Rattle.fdd_nodes.specs.Cells.{fill}
use Rattle.fdd_differ.specs.Frames.{frame_cell}
use Rattle.fdd_differ.specs.Witness.{IsWitnessOf, narrowed}
use Rattle.fdd_differ.proofs.WitnessLaws.{candidate}
use Rattle.fdd_differ.proofs.witness.path_packet_in.Goals as goal

pub returns-else-is_witness : goal.returns-else-is_witness
returns-else-is_witness c = λ p h.
    let k = candidate c.args.path.now c.args.frame p c.unnamed.result c.unnamed.ensures h in
    let e : c.narrowed_by-cell.result ≡ narrowed (frame_cell c.args.frame) c.args.path.now.trues =
    c.narrowed_by-cell.ensures ∙ ap (λ (x : List Lit). narrowed c.cell.result x) c.trues.ensures ∙ ap (λ (x : Packet). narrowed x c.args.path.now.trues) c.cell.ensures in
    let q : c.filled-packet.result ≡ fill (narrowed (frame_cell c.args.frame) c.args.path.now.trues) c.unnamed.result =
    c.filled-packet.ensures ∙ ap (λ (x : Packet). fill x c.unnamed.result) e in
    false≢true (sym c.if-is_witness.false ∙ c.is_witness.ensures.1 (subst (λ (x : Packet). IsWitnessOf c.args.path.now c.args.frame x) (sym q) k))
