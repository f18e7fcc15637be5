-- Where links take a packet: one switch nearer to its destination.
use Rattle.std.proofs.Common.{◌≡◌, ℕ, suc, ◌+◌, ◌-◌, ◌<◌, ◌≤◌, ◌⊎◌, inl, inr, Bool, true, false, ◌==◌, if◌then◌else◌, List, map, refl, sym, ◌∙◌, ap, subst, arith}
use Rattle.std.specs.Prelude.{nat_lt}
use Rattle.std.specs.List.{flat_map}
use Rattle.std.proofs.lemmas.Bool.Decides.{Decides-eqb}
use Rattle.std.proofs.lemmas.Bool.{ltb-true, ltb-false}
use Rattle.nk_values.specs.Members.{IsIn}
use Rattle.nk_values.proofs.MemberLaws.{in-either, from-flat_map}
use Rattle.topology_model.specs.Network.{Location}
use Rattle.topology_model.specs.declared.line.TopoLine.{TopoLine}
use Rattle.topology_model.specs.Lines.{layout_of, links_in}
use Rattle.workload_laws.specs.Workload.{numbers, exit}
use Rattle.workload_laws.proofs.Workloads.{in_map, in_numbers}
use Rattle.workload_gen.specs.Documents.{switch_line, link_line, topology_lines}

-- ---- links

-- a link goes up the line, or down
pub record IsUp (s : ℕ) (a b : Location) : Type 0 where
  pub from_port : a.pt ≡ 2
  pub to_port : b.pt ≡ 1
  pub next : b.sw ≡ a.sw + 1
  pub first : 1 ≤ a.sw
  pub last : b.sw ≤ s

links-of : (s : ℕ) (ls : List TopoLine) → ((l : TopoLine) → IsIn ls l → ((i : ℕ) × (l ≡ switch_line i)) ⊎ ((i : ℕ) × (1 ≤ i) × (i + 1 ≤ s) × (l ≡ link_line i))) →
    (a b : Location) → IsIn (flat_map links_in ls) (a, b) → IsUp s a b ⊎ IsUp s b a
links-of s ls each a b m =
    let r = from-flat_map links_in ls (a, b) m in
    elim (each r.0 r.1) [
      | inl l ↦ absurd (subst (λ (x : TopoLine). IsIn (links_in x) (a, b)) l.1 r.2)
      | inr l ↦ of l.0 l.1 l.2 (subst (λ (x : TopoLine). IsIn (links_in x) (a, b)) l.3 r.2)
    ]
  where
    of : (i : ℕ) → 1 ≤ i → i + 1 ≤ s → IsIn (links_in (link_line i)) (a, b) → IsUp s a b ⊎ IsUp s b a
    of i low high (inl e) = inl (record {
      from_port = sym (ap (λ (l : Location × Location). l.0.pt) e);
      to_port = sym (ap (λ (l : Location × Location). l.1.pt) e);
      next = sym (ap (λ (l : Location × Location). l.1.sw) e) ∙ ap (λ (l : Location × Location). l.0.sw + 1) e;
      first = subst (λ (n : ℕ). 1 ≤ n) (ap (λ (l : Location × Location). l.0.sw) e) low;
      last = subst (λ (n : ℕ). n ≤ s) (ap (λ (l : Location × Location). l.1.sw) e) high;
    })
    of i low high (inr (inl e)) = inr (record {
      from_port = sym (ap (λ (l : Location × Location). l.1.pt) e);
      to_port = sym (ap (λ (l : Location × Location). l.0.pt) e);
      next = sym (ap (λ (l : Location × Location). l.0.sw) e) ∙ ap (λ (l : Location × Location). l.1.sw + 1) e;
      first = subst (λ (n : ℕ). 1 ≤ n) (ap (λ (l : Location × Location). l.1.sw) e) low;
      last = subst (λ (n : ℕ). n ≤ s) (ap (λ (l : Location × Location). l.0.sw) e) high;
    })
    of i low high (inr (inr e)) = absurd e

pub line-links : (s : ℕ) (a b : Location) → IsIn (layout_of (topology_lines s)).links (a, b) → IsUp s a b ⊎ IsUp s b a
line-links s = links-of s (topology_lines s) (λ l m. elim (in-either (map switch_line (numbers 1 s)) (map link_line (numbers 1 (s - 1))) l m) [
  | inl h ↦ let r = in_map switch_line (numbers 1 s) l h in inl (r.0, sym r.2)
  | inr h ↦ let r = in_map link_line (numbers 1 (s - 1)) l h in let k = in_numbers 1 (s - 1) r.0 r.1 in inr (r.0, k.0, omega (arith, k.1), sym r.2)
])

-- ---- distances

abbrev pub distance : ℕ → ℕ → ℕ
distance i d = (i - d) + (d - i)

-- the exit by the two tests
abbrev port_by : Bool → Bool → ℕ
port_by a b = if a then 3 else (if b then 2 else 1)

up-or-down : (i d : ℕ) → ((exit i d ≡ 2) × (i < d)) ⊎ ((exit i d ≡ 1) × (d < i)) ⊎ (exit i d ≡ 3)
up-or-down i d = split (d == i) (nat_lt i d) refl refl
  where
    split : (a b : Bool) → (d == i) ≡ a → nat_lt i d ≡ b → ((port_by a b ≡ 2) × (i < d)) ⊎ ((port_by a b ≡ 1) × (d < i)) ⊎ (port_by a b ≡ 3)
    split true b p q = inr (inr refl)
    split false true p q = inl (refl, ltb-true i d q)
    split false false p q = inr (inl (refl, below (ltb-false i d q)))
      where
        below : d ≤ i → d < i
        below l = apart d i l (λ e. let t : false ≡ true = sym p ∙ (Decides-eqb d i).1 e in cc)
          where
            apart : (x y : ℕ) → x ≤ y → (x ≡ y → ⊥) → x < y
            apart x y h n = grind (arith, h, n)

-- a link that the exit leads to goes one switch nearer to the destination
pub nearer : (s d : ℕ) (a b : Location) → a.pt ≡ exit a.sw d → IsUp s a b ⊎ IsUp s b a → (1 ≤ b.sw) × (b.sw ≤ s) × (suc (distance b.sw d) ≡ distance a.sw d)
nearer s d a b e (inl u) = elim (up-or-down a.sw d) [
  | inl x ↦ (omega (arith, u.next), u.last, omega (arith, u.next, x.1))
  | inr (inl x) ↦ absurd (omega (arith, e, x.0, u.from_port))
  | inr (inr x) ↦ absurd (omega (arith, e, x, u.from_port))
]
nearer s d a b e (inr u) = elim (up-or-down a.sw d) [
  | inl x ↦ absurd (omega (arith, e, x.0, u.to_port))
  | inr (inl x) ↦ (u.first, omega (arith, u.next, u.last), omega (arith, u.next, x.1))
  | inr (inr x) ↦ absurd (omega (arith, e, x, u.to_port))
]
