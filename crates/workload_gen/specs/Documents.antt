-- The document of a number: a line of switches, policies and packets drawn by words.
use Rattle.std.specs.Prelude.{ℕ, zero, suc, ◌+◌, ◌-◌, ◌*◌, ◌%◌, false, List, [], ◌∷◌, ◌++◌, map, None}
use Rattle.rand_pcg.specs.Lcg.{Lcg, increment_of, started}
use Rattle.rand_pcg.specs.Pcg.{multiplier_64}
use Rattle.nk_values.specs.declared.packet.Packet.{Packet}
use Rattle.nk_syntax.specs.Terms.{Term}
use Rattle.topology_model.specs.declared.line.TopoLine.{TopoLine}
use Rattle.topology_model.specs.declared.line.TopoLine.TheVariants.{Switch, Link}
use Rattle.topology_model.specs.Lines.{layout_of}
use Rattle.document_text.specs.declared.document.PacketLine.{PacketLine}
use Rattle.document_text.specs.Documents.{Doc}
use Rattle.workload_laws.specs.Workload.{numbers, workload}
use Rattle.workload_gen.specs.Words.{next_word, behind}

-- ---- how much there is

abbrev pub switch_count : ℕ → ℕ
switch_count n = 2 + n % 31

abbrev pub policy_count : ℕ → ℕ
policy_count n = 3 + n % 6

abbrev pub packet_count : ℕ → ℕ
packet_count n = 10 * switch_count n

-- ---- what it is

-- a generator of the number
abbrev pub seeded : ℕ → Lcg
seeded n = started 64 multiplier_64 n (increment_of 64 1)

-- switch i with its ports 1 to 3, and a link from its port 2 to port 1 of the next switch
abbrev pub switch_line : ℕ → TopoLine
switch_line i = Switch i (1 ∷ 2 ∷ 3 ∷ [])

abbrev pub link_line : ℕ → TopoLine
link_line i = Link (i, 2) (i + 1, 1)

abbrev pub topology_lines : ℕ → List TopoLine
topology_lines s = map switch_line (numbers 1 s) ++ map link_line (numbers 1 (s - 1))

-- a number from 1 to s, by the next word
abbrev pub number_by : ℕ → Lcg → ℕ
number_by s g = 1 + (next_word g).0 % s

-- k policies on s switches; a word draws the destination that a policy blocks
abbrev pub policies : ℕ → ℕ → Lcg → List Term
policies s zero g = []
policies s (suc k) g = workload s (number_by s g) ∷ policies s k (behind 1 g)

-- a packet at port 3 of switch a, from a to d
abbrev pub packet : ℕ → ℕ → Packet
packet a d = record {
  sw = a;
  pt = 3;
  header = record {
    eth_typ = 2048;
    ip_proto = 0;
    eth_src = a;
    eth_dst = d;
    ip4_src = 0;
    ip4_dst = 0;
    tcp_src_port =
        0;
    tcp_dst_port = 0;
  };
}

-- n untagged packets; one word draws where a packet comes in, and the next one where it goes
abbrev pub packets : ℕ → ℕ → Lcg → List PacketLine
packets s zero g = []
packets s (suc n) g = record { packet = packet (number_by s g) (number_by s (behind 1 g)); tag = None } ∷ packets s n
    (behind 2 g)

-- the document of a number
abbrev pub document_of : ℕ → Doc
document_of n = record {
  layout = layout_of (topology_lines (switch_count n));
  policies = policies (switch_count n) (policy_count n) (seeded n);
  packets = packets (switch_count n) (packet_count n) (behind (policy_count n) (seeded n));
  settings = record { hops = 64; capacity = 200000; stamps = (1, 4094); rejoins = 0; overlap = false };
  schedule = [];
}

-- and the generator after the words that were drawn for it: one for each policy and two for each packet
abbrev pub generator : ℕ → Lcg
generator n = behind (2 * packet_count n) (behind (policy_count n) (seeded n))
