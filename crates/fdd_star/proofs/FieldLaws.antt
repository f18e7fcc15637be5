-- Iterates leave a field alone that the diagram never sets.
use Rattle.std.specs.Prelude.{MatchResult, OnOk}
use Rattle.std.proofs.Common.{◌≡◌, ℕ, zero, suc, inl, inr, sym, ap, ◌∙◌, subst, true, Result, Ok, Err}
use Rattle.std.proofs.lemmas.Bool.{eqb-true}
use Rattle.nk_values.specs.declared.field.Field.{Field}
use Rattle.nk_values.specs.declared.packet.Packet.{Packet}
use Rattle.nk_values.specs.declared.lit.Lit.{Lit}
use Rattle.nk_values.specs.Held.{Holds, put}
use Rattle.nk_values.specs.Lits.{lit_field, lit_value}
use Rattle.nk_values.specs.Members.{IsIn}
use Rattle.nk_values.specs.Packets.{get}
use Rattle.nk_values.proofs.PacketLaws.{get-with_same, get-with_other, field_cases}
use Rattle.fdd_nodes.specs.Cells.{Agrees, IsUnset}
use Rattle.fdd_nodes.specs.Names.{IsFew}
use Rattle.fdd_nodes.specs.Trees.{Tree, Node, leaf_at, answers, SameAnswers}
use Rattle.fdd_nodes.proofs.CellLaws.{lit_not_free}
use Rattle.fdd_nodes.proofs.MakesLaws.{source, at_field}
pub use Rattle.fdd_star.specs.Shared.{id_eq}
use Rattle.fdd_star.specs.Stars.{Iterates, StarOf, IsShallow}
use Rattle.fdd_star.proofs.StarLaws.{few_within, star_shallow}
use Rattle.fdd_store.specs.Digests.{SetsField}
use Rattle.fdd_store.specs.Stores.{Kept, Gives, tree_at}
use Rattle.fdd_store.proofs.MoveLaws.{leaf_assigns}

-- ids as keys

pub same_id : (x y : ℕ) → id_eq x y ≡ true → x ≡ y
same_id x y h = eqb-true _ _ h

-- Two diagrams that answer alike where a property holds, which no iteration ends, make the same iterations there.

turns_on : (p p' : Tree) (K : Packet → Type 0) → ((pk q : Packet) → K pk → IsIn (answers p pk) q → IsIn (answers p' pk) q) → ((pk q : Packet) → K pk → IsIn (answers p pk) q → K q)
    → (n : ℕ) (pk out : Packet) → K pk → Iterates p n pk out → Iterates p' n pk out
turns_on p p' K same goes zero pk out k w = w
turns_on p p' K same goes (suc n) pk out k w = (w.0, same pk w.0 k w.1, turns_on p p' K same goes n w.0 out (goes pk w.0 k w.1) w.2)

module _ (p p' : Tree) (K : Packet → Type 0) (same : (pk : Packet) → K pk → SameAnswers (answers p' pk) (answers p pk)) (goes : (pk q : Packet) → K pk → IsIn (answers p pk) q → K q) where
  pub turns_to : (n : ℕ) (pk out : Packet) → K pk → Iterates p n pk out → Iterates p' n pk out
  turns_to = turns_on p p' K (λ pk q k w. (same pk k).back q w) goes

  pub turns_from : (n : ℕ) (pk out : Packet) → K pk → Iterates p' n pk out → Iterates p n pk out
  turns_from = turns_on p' p K (λ pk q k w. (same pk k).front q w) (λ pk q k w. goes pk q k ((same pk k).front q w))

keeps_field : (t : Tree) (f : Field) → ¬ SetsField t f → (pk q : Packet) → IsIn (answers t pk) q → get q f ≡ get pk f
keeps_field t f n pk q h =
    let o = source (leaf_at t pk) pk q h in
    elim (at_field o.copy f pk pk) [
      | inl s ↦ absurd (n (record { lit = s.lit; assigned = leaf_assigns t pk o.copy s.lit o.among s.among; field = s.field }))
      | inr s ↦ sym (ap (λ z. get z f) o.makes) ∙ s.0
    ]

-- so it is with a literal whose field is never set

pub holds_on : (p : Tree) (l : Lit) → ¬ SetsField p (lit_field l) → (pk q : Packet) → Holds pk l → IsIn (answers p pk) q → Holds q l
holds_on p l n pk q h k = keeps_field p (lit_field l) n pk q k ∙ h

abbrev pub Held : Lit → Packet → Type 0
Held l pk = Holds pk l

-- a packet of a cell within another one

pub agrees_out : (c pk : Packet) (l : Lit) → IsUnset c (lit_field l) → Agrees (put l c) pk → Agrees c pk
agrees_out c pk l o a = record {
  at = λ f n. elim (field_cases (lit_field l) f) [
    | inl e ↦ absurd (n (subst (IsUnset c) e o))
    | inr d ↦ let s = get-with_other c (lit_field l) f (lit_value l) d in a.at f (λ z. n (sym s ∙ z)) ∙ s
  ];
}

pub agrees_holds : (c pk : Packet) (l : Lit) → Agrees (put l c) pk → Holds pk l
agrees_holds c pk l a = let s = get-with_same c (lit_field l) (lit_value l) in a.at (lit_field l) (λ z. lit_not_free l (sym s ∙ z)) ∙ s

-- the branches name few values

pub few_then : (l : Lit) (t e : Tree) → IsFew (Node l t e) → IsFew t
few_then l t e few = few_within (Node l t e) t few (record { tests = λ m k. inr (inl k); assigns = λ m k. inl k })

pub few_else : (l : Lit) (t e : Tree) → IsFew (Node l t e) → IsFew e
few_else l t e few = few_within (Node l t e) e few (record { tests = λ m k. inr (inr k); assigns = λ m k. inr k })

pub match_on : {X E : Type 0} (r : Result X E) (P P' : X → Type 0) (Q Q' : E → Type 0) → ((x : X) → P x → P' x) → ((e : E) → Q e → Q' e) → MatchResult r P Q → MatchResult r P' Q'
match_on (Ok x) P P' Q Q' f g h = f x h
match_on (Err e) P P' Q Q' f g h = g e h

-- what has a star is not deep
pub shallow_by : {E : Type 0} (r : Result ℕ E) (k : Kept) (p : Tree) (Q : E → Type 0) → MatchResult r (λ i. Gives k i (StarOf p)) Q → OnOk r (IsShallow p)
shallow_by (Ok i) k p Q h = star_shallow p (tree_at k i) h.is
shallow_by (Err f) k p Q h = tt
