use Rattle.std.proofs.Common.{◌++◌, string_bytes, codes}
use Rattle.value_text.specs.Values.{packet_text}
use Rattle.value_text.proofs.Puts.{then_put}
use Rattle.value_text.proofs.faults.put_pair.Goals as goal

pub returns : goal.returns
returns c =
    let r = c.put_packet-2.result in
    let blank = string_bytes c.push_str.new.self in
    let first = string_bytes c.put_packet.new.out in
    let between = string_bytes c.push_str-2.new.self in
    let end = string_bytes c.put_packet-2.new.out in
    let p = packet_text c.args.packet.now in
    let q = packet_text c.args.output.now in
    then_put r (string_bytes c.args.out.now) blank end (codes " ") (p ++ (codes " to " ++ q)) c.in_ok-push_str.ensures.bytes
    (then_put r blank first end p (codes " to " ++ q) c.in_ok-put_packet.ensures
    (then_put r first between end (codes " to ") q c.in_ok-push_str-2.ensures.bytes c.put_packet-2.ensures))
