-- Values that literals leave unnamed.
use Rattle.std.proofs.Common.{◌≡◌, ℕ, ◌+◌, ◌-◌, ◌<◌, ◌≤◌, ◌⊎◌, inl, inr, refl, ap, sym, subst, arith, List, [], ◌∷◌}
use Rattle.nk_values.specs.declared.field.Field.{Field}
use Rattle.nk_values.specs.declared.field.Field.TheVariants.{Sw, Pt, EthTyp, IpProto, EthSrc, EthDst, Ip4Src, Ip4Dst, TcpSrcPort, TcpDstPort}
use Rattle.nk_values.specs.declared.packet.Packet.{Packet}
use Rattle.nk_values.specs.declared.lit.Lit.{Lit}
use Rattle.nk_values.specs.Lits.{lit_field, lit_value}
use Rattle.nk_values.specs.Members.{IsIn}
use Rattle.nk_values.specs.Packets.{get}
use Rattle.nk_values.specs.Ranges.{place, least_value, least_literal, greatest, IsValue}
use Rattle.nk_values.proofs.PacketLaws.{same_field}
use Rattle.fdd_nodes.specs.Names.{distinct}
use Rattle.fdd_nodes.proofs.NameLaws.{free_value, values_at, values_length, among_values, among_distinct}
use Rattle.fdd_differ.specs.Unnamed.{NamesAt, AreFewNames, first_tried, IsUnnamed, IsFreshOf}

-- a literal of the list at the field
record At (ls : List Lit) (f : Field) (n : ℕ) : Type 0 where
  lit : Lit
  among : IsIn ls lit
  field : lit_field lit ≡ f
  value : lit_value lit ≡ n

at : (ls : List Lit) (f : Field) (n : ℕ) → NamesAt ls f n → At ls f n
at [] f n h = absurd h
at (l ∷ ls) f n (inl h) = record { lit = l; among = inl refl; field = same_field _ _ h.0; value = h.1 }
at (l ∷ ls) f n (inr h) = let r = at ls f n h in record { lit = r.lit; among = inr r.among; field = r.field; value = r.value }

names_in : (ls : List Lit) (m : Lit) → IsIn ls m → NamesAt ls (lit_field m) (lit_value m)
names_in [] m h = absurd h
names_in (l ∷ ls) m (inl e) = inl (ap (λ (z : Lit). place (lit_field z)) e, ap (λ (z : Lit). lit_value z) e)
names_in (l ∷ ls) m (inr h) = inr (names_in ls m h)

-- at each field either the first value is no literal, or 4,001 values are there
first_room : (f : Field) → (first_tried f < least_literal f) ⊎ (first_tried f + 4000 ≤ greatest f)
first_room Sw = inr (omega arith)
first_room Pt = inr (omega arith)
first_room EthTyp = inr (omega arith)
first_room IpProto = inl (omega arith)
first_room EthSrc = inr (omega arith)
first_room EthDst = inr (omega arith)
first_room Ip4Src = inl (omega arith)
first_room Ip4Dst = inl (omega arith)
first_room TcpSrcPort = inl (omega arith)
first_room TcpDstPort = inl (omega arith)

first_low : (f : Field) → least_value f ≤ first_tried f
first_low Sw = omega arith
first_low Pt = omega arith
first_low EthTyp = omega arith
first_low IpProto = omega arith
first_low EthSrc = omega arith
first_low EthDst = omega arith
first_low Ip4Src = omega arith
first_low Ip4Dst = omega arith
first_low TcpSrcPort = omega arith
first_low TcpDstPort = omega arith

first_high : (f : Field) → first_tried f ≤ greatest f
first_high Sw = omega arith
first_high Pt = omega arith
first_high EthTyp = omega arith
first_high IpProto = omega arith
first_high EthSrc = omega arith
first_high EthDst = omega arith
first_high Ip4Src = omega arith
first_high Ip4Dst = omega arith
first_high TcpSrcPort = omega arith
first_high TcpDstPort = omega arith

-- the values that are looked through end before the type number of a tag
tried_value : (f : Field) (n : ℕ) → first_tried f ≤ n → n ≤ first_tried f + 4000 → n ≤ greatest f → IsValue f n
tried_value f n l u g = record {
  low = omega (arith, first_low f, l);
  high = g;
  no_tag = λ e z. let b : n ≤ first_tried EthTyp + 4000 = subst (λ (k : Field). n ≤ first_tried k + 4000) e u in omega (arith, b, z);
}

pub unnamed_first : (ls : List Lit) (f : Field) → first_tried f < least_literal f → IsUnnamed ls f (first_tried f)
unnamed_first ls f h = record {
  in_range = tried_value f (first_tried f) (omega arith) (omega arith) (first_high f);
  missing = λ k. let r = at ls f (first_tried f) k in let w : least_literal f ≤ lit_value r.lit = subst (λ (g : Field). least_literal g ≤ lit_value r.lit) r.field r.lit.literal.low in omega (arith, h, w, r.value);
  tried = omega arith;
  first = λ k. refl;
}

pub unnamed_later : (ls : List Lit) (f : Field) (k : ℕ) → least_literal f ≤ first_tried f → k < 4001 → ¬ NamesAt ls f (first_tried f + k) → IsUnnamed ls f (first_tried f + k)
unnamed_later ls f k h u m = record {
  in_range = tried_value f (first_tried f + k) (omega arith) (omega (arith, u)) (elim (first_room f) [ inl w ↦ absurd (omega (arith, h, w)) | inr w ↦ omega (arith, u, w) ]);
  missing = m;
  tried = omega arith;
  first = λ w. absurd (omega (arith, h, w));
}

named_value : (ls : List Lit) (f : Field) (n : ℕ) → At ls f n → IsIn (values_at f (distinct ls)) n
named_value ls f n x =
    subst (λ (k : ℕ). IsIn (values_at f (distinct ls)) k) x.value
    (subst (λ (g : Field). IsIn (values_at g (distinct ls)) (lit_value x.lit)) x.field (among_values (distinct ls) x.lit (among_distinct ls x.lit x.among)))

-- one of 4,001 values is not named
pub some_unnamed : (ls : List Lit) (f : Field) → AreFewNames ls → ((k : ℕ) → k < 4001 → NamesAt ls f (first_tried f + k)) → ⊥
some_unnamed ls f few h =
    let r = free_value 4000 (first_tried f) (values_at f (distinct ls)) (let w = values_length f (distinct ls) in let q = few.bound in omega (arith, w, q)) in
    all_named r.0 r.1 r.2 r.3 where
      all_named : (n : ℕ) → first_tried f ≤ n → n ≤ first_tried f + 4000 → (IsIn (values_at f (distinct ls)) n → ⊥) → ⊥
      all_named n l u free =
          let e : first_tried f + (n - first_tried f) ≡ n = omega (arith, l) in
          free (named_value ls f n (at ls f n (subst (λ (k : ℕ). NamesAt ls f k) e (h (n - first_tried f) (omega (arith, u))))))

-- a packet of unnamed values
pub fresh_by : (ls : List Lit) (g : Packet) → ((f : Field) → IsUnnamed ls f (get g f)) → IsFreshOf ls g
fresh_by ls g h = record {
  shaped = record {
    in_range = λ f. (h f).in_range;
    ip_only = λ n. ((h IpProto).first (omega arith), (h Ip4Src).first (omega arith), (h Ip4Dst).first (omega arith));
    no_ports = λ n. ((h TcpSrcPort).first (omega arith), (h TcpDstPort).first (omega arith));
  };
  no_ip = λ e. let t : 2049 ≤ g.header.eth_typ = (h EthTyp).tried in omega (arith, t, e);
  missing = λ l k z. (h (lit_field l)).missing (subst (λ (n : ℕ). NamesAt ls (lit_field l) n) (sym z) (names_in ls l k));
}
