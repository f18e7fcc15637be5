-- Two policies are told apart where their diagrams are.
use Rattle.std.specs.Prelude.{◌↔◌, IfSome}
use Rattle.std.proofs.Common.{◌≡◌, ℕ, ◌+◌, ◌≤◌, inl, inr, refl, sym, subst, arith, ◌⊎◌, List, [], ◌++◌, length, length-append, Option, Some, None, MatchOption, Result, Ok, Err, IfOk}
use Rattle.nk_values.specs.declared.lit.Lit.{Lit}
use Rattle.nk_values.specs.declared.packet.Packet.{Packet}
use Rattle.nk_values.specs.Members.{IsIn}
use Rattle.nk_values.specs.Packets.{IsWellShaped}
use Rattle.nk_values.proofs.MemberLaws.{in-left, in-right}
use Rattle.nk_syntax.specs.Terms.{Term}
use Rattle.history_meaning.specs.Plain.{HasResult, IsPlain}
use Rattle.equal_laws.specs.Equals.{HaveSameResults}
use Rattle.equal_laws.proofs.EqualLaws.{complete-alike, open-alike}
use Rattle.fdd_nodes.specs.Names.{distinct}
use Rattle.fdd_nodes.specs.Trees.{Tree}
use Rattle.fdd_nodes.proofs.NameLaws.{count_within}
use Rattle.fdd_star.specs.Named.{Gains}
use Rattle.fdd_differ.specs.Unnamed.{AreFewNames}
use Rattle.fdd_apart.specs.declared.finding.Difference.{Difference}
use Rattle.fdd_apart.specs.declared.finding.Side.{Side}
use Rattle.fdd_apart.specs.declared.finding.Side.TheVariants.{First, Second}
use Rattle.fdd_apart.specs.Aparts.{AreAlikeShaped, AreNamesOf, IsApart}
use Rattle.fdd_apart.specs.Aparts as diagrams
use Rattle.fdd_compile.specs.Meanings.{MeaningOf}
use Rattle.fdd_compile.specs.Named.{AreFewNamed, Of, TermNames}
use Rattle.fdd_compile.specs.Results.{DiagramOf}
use Rattle.fdd_compile.proofs.NamedLaws.{distinct_length}
use Rattle.policy_equality.specs.Asked.{AreNamesOfBoth, Blames}
use Rattle.policy_equality.specs.Comparisons.{AreApartBy, GivesAlone, HaveSameHistories, IsLoneResult, IsNotCompared}
use Rattle.policy_equality.specs.declared.fault.CompareError.{CompareError}
use Rattle.policy_equality.specs.declared.fault.CompareError.TheVariants.{Fault, Memory}

-- ---- names

-- the names of two policies are at most twice as many as one may have
both-few : (p q : Term) (ls : List Lit) → ((l : Lit) → IsIn ls l → Of (TermNames p) l ⊎ Of (TermNames q) l) → AreFewNamed (TermNames p) → AreFewNamed (TermNames q) → AreFewNames ls
both-few p q ls only f g = record {
  bound =
      let all = f.names ++ g.names in
      let c = count_within ls all (λ m i. elim (only m i) [ inl w ↦ in-left f.names g.names m (f.all m w) | inr w ↦ in-right f.names g.names m (g.all m w) ]) in
      let n : length all ≡ length f.names + length g.names = length-append f.names g.names in
      omega (arith, c, n, distinct_length all, f.bound, g.bound);
}

pub names-both : (p q : Term) (first middle last : List Lit) → first ≡ [] → Gains (Of (TermNames p)) first middle → Gains (Of (TermNames q)) middle last → AreFewNamed (TermNames p) → AreFewNamed (TermNames q) → AreNamesOfBoth p q last
names-both p q first middle last e g h few_p few_q = record {
  few = both-few p q last (λ l i. elim (h.only l i) [ inl k ↦ elim (g.only l k) [ inl w ↦ absurd (subst (λ (xs : List Lit). IsIn xs l) e w) | inr w ↦ inl w ] | inr w ↦ inr w ]) few_p few_q;
  one = λ l n. h.kept l (g.has l n);
  other = λ l n. h.has l n;
}

-- a diagram names what its policy names
pub names-diagram : (p : Term) (a : Tree) (ls : List Lit) → MeaningOf p a → ((l : Lit) → Of (TermNames p) l → IsIn ls l) → AreNamesOf ls a
names-diagram p a ls m has = record {
  tests = λ l t. has l (inl (m.built.diagram.tests l t));
  assigns = λ l t. has l (inr (m.built.diagram.assigns l t));
}

-- ---- results

same-results : (p q : Term) (a b : Tree) → DiagramOf p a → DiagramOf q b → AreAlikeShaped a b → HaveSameResults p q
same-results p q a b d e alike = record {
  there = λ pk x shaped r. e.made pk x ((alike.same pk shaped).front x (d.all pk x shaped.in_range r));
  back = λ pk x shaped r. d.made pk x ((alike.same pk shaped).back x (e.all pk x shaped.in_range r));
}

alone-by : (s : Side) (p q : Term) (a b : Tree) (pk x : Packet) → DiagramOf p a → DiagramOf q b → IsWellShaped pk → diagrams.GivesAlone s a b pk x → GivesAlone s p q pk x
alone-by First p q a b pk x d e shaped (i, n) = record { given = d.made pk x i; missing = λ r. n (e.all pk x shaped.in_range r) }
alone-by Second p q a b pk x d e shaped (i, n) = record { given = e.made pk x i; missing = λ r. n (d.all pk x shaped.in_range r) }

apart-by : (p q : Term) (a b : Tree) (x : Difference) → DiagramOf p a → DiagramOf q b → IsApart a b x → AreApartBy p q x
apart-by p q a b x d e h = record { shaped = h.shaped; alone = alone-by x.side p q a b x.packet x.output d e h.shaped h.alone }

not-same-by : (s : Side) (p q : Term) (pk x : Packet) → IsWellShaped pk → GivesAlone s p q pk x → ¬ HaveSameResults p q
not-same-by First p q pk x shaped g same = g.missing (same.there pk x shaped g.given)
not-same-by Second p q pk x shaped g same = g.missing (same.back pk x shaped g.given)

pub equal-told : (p q : Term) (a b : Tree) (o : Option Difference) → MeaningOf p a → MeaningOf q b → MatchOption o (AreAlikeShaped a b) (IsApart a b) → (o ≡ None) ↔ HaveSameResults p q
equal-told p q a b None m n h = (λ _. same-results p q a b m.built.diagram n.built.diagram h, λ _. refl)
equal-told p q a b (Some x) m n h =
    let apart = apart-by p q a b x m.built.diagram n.built.diagram h in
    (λ e. absurd (cc), λ same. absurd (not-same-by x.side p q x.packet x.output apart.shaped apart.alone same))

pub apart-told : (p q : Term) (a b : Tree) (o : Option Difference) → MeaningOf p a → MeaningOf q b → MatchOption o (AreAlikeShaped a b) (IsApart a b) → IfSome o (AreApartBy p q)
apart-told p q a b None m n h = tt
apart-told p q a b (Some x) m n h = apart-by p q a b x m.built.diagram n.built.diagram h

pub same-histories : (p q : Term) → HaveSameResults p q → IsPlain p → IsPlain q → HaveSameHistories p q
same-histories p q same a b = record {
  complete = λ w pk tag h wired shaped. complete-alike w p q wired a b same pk tag h shaped;
  in_flight = λ w pk tag k h wired shaped. open-alike w p q wired a b same pk tag k h shaped;
}

-- ---- faults

pub first-refused : (p q : Term) (e : CompareError) → Blames First p e → IsNotCompared p q e
first-refused p q Memory h = tt
first-refused p q (Fault s f) h = subst (λ (x : Side). IsNotCompared p q (Fault x f)) (sym h.0) h.1

pub second-refused : (p q : Term) (a : Tree) (e : CompareError) → MeaningOf p a → Blames Second q e → IsNotCompared p q e
second-refused p q a Memory m h = tt
second-refused p q a (Fault s f) m h =
    subst (λ (x : Side). IsNotCompared p q (Fault x f)) (sym h.0) (record { fine = record { flat = m.flat; shallow = m.built.shallow }; fault = h.1 })
