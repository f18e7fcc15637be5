use Rattle.std.proofs.Common.{◌≡◌, ◌<◌, List, length, get_or, option_map, sym, ◌∙◌, ap, subst, arith}
use Rattle.nk_values.specs.declared.row.Row.{Row}
use Rattle.nk_values.specs.declared.rows.PortRows.{PortRows}
use Rattle.nk_values.specs.declared.rows.Rows.{Rows}
use Rattle.nk_values.specs.Tables.{first}
use Rattle.packet_tracer.specs.Orders.{IsOrder, IsStart}
use Rattle.packet_tracer.proofs.OrderLaws.{as_many, order_at}
use Rattle.packet_tracer.proofs.Readings.{from_read}
use Rattle.packet_tracer.proofs.ordered.OrderedRows.first_hit.Goals as goal

pub index-requires : goal.index-requires
index-requires c =
    let ports : c.self.inside.rows.now.ports ≡ c.args.self.now.ports = ap (λ (r : Rows). r.ports) c.self.view_is in
    let many = as_many c.self.inside.rows.now.ports c.self.inside.orders.items c.self.invariant in
    grind (arith, many, ports, c.requires, c.self.inside.orders.ok.0)

pub first_from-requires : goal.first_from-requires
first_from-requires c =
    let ports : c.self.inside.rows.now.ports ≡ c.args.self.now.ports = ap (λ (r : Rows). r.ports) c.self.view_is in
    let port = c.index-as_slice-place.result in
    let within : c.args.place < length c.self.inside.rows.now.ports = rw ports c.requires in
    let at : port ≡ get_or c.self.inside.rows.now.ports c.args.place port = subst (λ (ps : List PortRows). port ≡ get_or ps c.args.place port) c.as_slice.ensures c.index-as_slice-place.is in
    let order : IsOrder port.rows c.index.result.now = order_at c.self.inside.rows.now.ports c.self.inside.orders.items c.args.place port c.index.result.now c.self.invariant within at c.index.ensures in
    subst (λ (rs : List Row). IsStart rs c.args.header.now c.start-start.result) (sym c.as_slice-2.ensures) (c.start-start.ensures port.rows order)

pub returns : goal.returns
returns c =
    let ports : c.self.inside.rows.now.ports ≡ c.args.self.now.ports = ap (λ (r : Rows). r.ports) c.self.view_is in
    let port = c.index-as_slice-place.result in
    let at : port ≡ get_or c.args.self.now.ports c.args.place port = subst (λ (ps : List PortRows). port ≡ get_or ps c.args.place port) (c.as_slice.ensures ∙ ports) c.index-as_slice-place.is in
    from_read c.args.self.now.ports c.args.place port _ c.requires at
    (subst (λ (rs : List Row). option_map (λ r. r.now) c.first_from.result ≡ first (record { port = port.pt; header = c.args.header.now; tag = c.args.tag }) rs) c.as_slice-2.ensures c.first_from.ensures)
