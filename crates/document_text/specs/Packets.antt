-- The words of a packet line after its place.
use Rattle.std.specs.Prelude.{ℕ, Bool, true, false, not, ◌==◌, ◌&&◌, nat_le, List, [], ◌∷◌, ◌++◌, length, slice_index}
use Rattle.std.specs.Prelude.{codes, Option, None, Some, if◌then◌else◌, option_map, option_and_then}
use Rattle.std.specs.List.{list_any, list_all, find, before_first, after_first}
use Rattle.std.specs.Char.{is_ascii_alphabetic, is_ascii_alphanumeric}
use Rattle.std.specs.Str.{bytes_eq}
use Rattle.nk_values.specs.declared.field.Field.{Field}
use Rattle.nk_values.specs.declared.field.Field.TheVariants.{EthTyp}
use Rattle.nk_values.specs.declared.packet.Packet.{Packet}
use Rattle.nk_values.specs.Packets.{with_value}
use Rattle.nk_values.specs.Ranges.{place, least_value, greatest}
use Rattle.nk_values.specs.Names.{name_of, header_fields}
use Rattle.netkat_parser.specs.Numbers.{number}
use Rattle.netkat_parser.specs.Signs.{is_run_byte}
use Rattle.document_text.specs.Texts.{numeral}

-- a packet may hold the number in the field
abbrev pub is_value : Field → ℕ → Bool
is_value f n = nat_le (least_value f) n && nat_le n (greatest f) && not ((place f == place EthTyp) && (n == 33024))

-- a VLAN id
abbrev pub is_vlan_id : ℕ → Bool
is_vlan_id n = nat_le 1 n && nat_le n 4094

-- a letter, then letters and digits
abbrev pub is_name : List ℕ → Bool
is_name w = is_ascii_alphabetic (slice_index w 0) && list_all is_ascii_alphanumeric w

-- some letters, digits, `.` and `:`
abbrev pub is_run : List ℕ → Bool
is_run w = nat_le 1 (length w) && list_all is_run_byte w

-- `name=value`, the two parts of the word; 61 is `=`
abbrev pub pair_of : List ℕ → Option (List ℕ × List ℕ)
pair_of w =
    if is_name (before_first (λ b. b == 61) w) && is_run (after_first (λ b. b == 61) w)
    then Some (before_first (λ b. b == 61) w, after_first (λ b. b == 61) w) else None

-- What the words so far give: the names, the packet and its tag, whether a name is not listed, and whether a value is
-- out of its range.
pub record GivenFields : Type 0 where
  pub names : List (List ℕ)
  pub packet : Packet
  pub tag : Option ℕ
  pub unknown : Bool
  pub outside : Bool

-- an IPv4 packet at a place, with 0 in each other field
abbrev pub plain_packet : ℕ × ℕ → Packet
plain_packet e = record {
  sw = e.0;
  pt = e.1;
  header = record {
    eth_typ = 2048;
    ip_proto = 0;
    eth_src = 0;
    eth_dst = 0;
    ip4_src = 0;
    ip4_dst = 0;
    tcp_src_port =
        0;
    tcp_dst_port = 0;
  };
}

abbrev pub given_at : ℕ × ℕ → GivenFields
given_at e = record { names = []; packet = plain_packet e; tag = None; unknown = false; outside = false }

-- the tag with this id
abbrev pub with_tag : GivenFields → ℕ → GivenFields
with_tag g n = if is_vlan_id n then record g { tag = Some n } else record g { outside = true }

-- this number in a field
abbrev pub with_number : GivenFields → Field → ℕ → GivenFields
with_number g f n = if is_value f n then record g { packet = with_value g.packet f n } else record g { outside = true }

-- the value of a field, which has to have one of its forms
abbrev pub with_field : GivenFields → Option Field → List ℕ → Option GivenFields
with_field g None run = Some (record g { unknown = true })
with_field g (Some f) run = option_map (with_number g f) (number f run)

-- what a name stands for, with its value
abbrev pub with_named : GivenFields → List ℕ → List ℕ → Option GivenFields
with_named g name run =
    if bytes_eq name (codes "vlan") then option_map (with_tag g) (numeral run)
    else with_field g (find (λ f. bytes_eq name (name_of f)) header_fields) run

-- with one more word, whose name has to be new
abbrev pub with_pair : GivenFields → List ℕ × List ℕ → Option GivenFields
with_pair g p =
    if list_any (bytes_eq p.0) g.names then None else with_named (record g { names = g.names ++ p.0 ∷ [] }) p.0 p.1

abbrev pub with_word : GivenFields → List ℕ → Option GivenFields
with_word g w = option_and_then (with_pair g) (pair_of w)

-- all words, where each is as it should be
abbrev pub with_words : GivenFields → List (List ℕ) → Option GivenFields
with_words g [] = Some g
with_words g (w ∷ ws) = option_and_then (λ h. with_words h ws) (with_word g w)
