-- What operations on the reductions of diagrams say of these.
use Rattle.std.proofs.Common.{inl, inr, arith, ◌++◌}
use Rattle.nk_values.specs.declared.packet.Packet.{Packet}
use Rattle.nk_values.specs.declared.lit.Lit.{Lit}
use Rattle.nk_values.specs.Members.{IsIn}
use Rattle.nk_values.proofs.MemberLaws.{in-left, in-right, in-either}
use Rattle.fdd_nodes.specs.Trees.{Tree, Node, Tests, Assigns}
use Rattle.fdd_nodes.specs.Names.{literals, IsFew, AreFew}
use Rattle.fdd_nodes.proofs.NameLaws.{count_within, few_of_both, named, tests_literal, assigns_literal}
use Rattle.fdd_split.specs.Split.{SplitOf}
use Rattle.fdd_store.specs.Operations.{Through, IsPredicate, IsFieldFrom, UnionOf, SequenceOf, NegationOf, ChoiceOf, CofactorOf, ReductionOf}
use Rattle.fdd_store.proofs.SameLaws.{same_trans}

-- what names no more

names_within : (a r : Tree) → ((m : Lit) → Tests r m → Tests a m) → ((m : Lit) → Assigns r m → Assigns a m) → (m : Lit) → IsIn (literals r) m → IsIn (literals a) m
names_within a r ht ha m w = elim (named r m w) [ inl x ↦ tests_literal a m (ht m x) | inr x ↦ assigns_literal a m (ha m x) ]

pub few_of_one : (a r : Tree) → ((m : Lit) → Tests r m → Tests a m) → ((m : Lit) → Assigns r m → Assigns a m) → IsFew a → IsFew r
few_of_one a r ht ha few = let k = count_within (literals r) (literals a) (names_within a r ht ha) in omega (arith, k, few)

-- one diagram, brought into a store as x

module _ (a x : Tree) (g : ReductionOf a x) where
  pub few_one : IsFew a → IsFew x
  few_one h = few_of_one a x g.tests g.assigns h

  pub predicate : IsPredicate a → IsPredicate x
  predicate h = λ m w. h m (g.assigns m w)

  pub negation : (r : Tree) → NegationOf x r → NegationOf a r
  negation r n = record {
    answer = λ p q. (
      (λ h. let w = (n.answer p q).0 h in (w.0, λ z. w.1 ((g.answer p).back p z))),
      λ h. (n.answer p q).1 (h.0, λ z. h.1 ((g.answer p).front p z)),
    );
    normal = n.normal;
    tests = λ m w. g.tests m (n.tests m w);
    assigns = λ m w. g.assigns m (n.assigns m w);
  }

  pub cofactor : (l : Lit) (r : Tree) → (¬ IsFieldFrom l a) → CofactorOf l x r → CofactorOf l a r
  cofactor l r other c = record {
    answer = λ p h. same_trans _ _ _ (c.answer p h) (g.answer p);
    stands = λ f. absurd (other f);
    normal = λ _. c.normal g.normal;
    tests = λ m w. g.tests m (c.tests m w);
    assigns = λ m w. g.assigns m (c.assigns m w);
  }

  pub split : (r : Tree) → SplitOf x r → SplitOf a r
  split r s = record {
    same = λ p. same_trans _ _ _ (s.same p) (g.answer p);
    split = s.split;
    tests = λ m w. elim (s.tests m w) [ inl v ↦ inl (g.tests m v) | inr v ↦ inr (g.assigns m v) ];
    assigns = λ m w. g.assigns m (s.assigns m w);
  }

-- two diagrams, brought into a store as x and y

module _ (a b x y : Tree) (gx : ReductionOf a x) (gy : ReductionOf b y) where
  pub few_both : AreFew a b → AreFew x y
  few_both h =
      let c = count_within (literals x ++ literals y) (literals a ++ literals b) (λ m w. elim (in-either (literals x) _ m w) [
        | inl u ↦ in-left _ _ m (names_within a _ gx.tests gx.assigns m u)
        | inr u ↦ in-right (literals a) _ m (names_within b _ gy.tests gy.assigns m u)
      ]) in
      record { bound = let d = h.bound in omega (arith, c, d) }

  pub few_behind : (l : Lit) → IsFew (Node l a b) → IsFew (Node l x y)
  few_behind l h = few_of_one (Node l a b) (Node l x y)
      (λ m w. elim w [ inl e ↦ inl e | inr v ↦ elim v [ inl u ↦ inr (inl (gx.tests m u)) | inr u ↦ inr (inr (gy.tests m u)) ] ])
      (λ m w. elim w [ inl u ↦ inl (gx.assigns m u) | inr u ↦ inr (gy.assigns m u) ]) h

  pub union : (r : Tree) → UnionOf x y r → UnionOf a b r
  union r u = record {
    answer = λ p. let w = u.answer p in record {
      left = λ q h. w.left q ((gx.answer p).back q h);
      right = λ q h. w.right q ((gy.answer p).back q h);
      only = λ q h. elim (w.only q h) [ inl v ↦ inl ((gx.answer p).front q v) | inr v ↦ inr ((gy.answer p).front q v) ];
    };
    normal = u.normal;
    tests = λ m w. elim (u.tests m w) [ inl v ↦ inl (gx.tests m v) | inr v ↦ inr (gy.tests m v) ];
    assigns = λ m w. elim (u.assigns m w) [ inl v ↦ inl (gx.assigns m v) | inr v ↦ inr (gy.assigns m v) ];
  }

  through_from : (p z : Packet) → Through x y p z → Through a b p z
  through_from p z t = record { between = t.between; first = (gx.answer p).front _ t.first; second = (gy.answer t.between).front z t.second }

  through_to : (p z : Packet) → Through a b p z → Through x y p z
  through_to p z t = record { between = t.between; first = (gx.answer p).back _ t.first; second = (gy.answer t.between).back z t.second }

  pub sequence : (r : Tree) → SequenceOf x y r → SequenceOf a b r
  sequence r s = record {
    answer = λ p z. ((λ h. through_from p z ((s.answer p z).0 h)), λ h. (s.answer p z).1 (through_to p z h));
    normal = s.normal;
    tests = λ m w. elim (s.tests m w) [ inl v ↦ inl (gx.tests m v) | inr v ↦ inr (gy.tests m v) ];
    assigns = λ m w. elim (s.assigns m w) [ inl v ↦ inl (gx.assigns m v) | inr v ↦ inr (gy.assigns m v) ];
  }

  pub choice : (l : Lit) (r : Tree) → ChoiceOf l x y r → ChoiceOf l a b r
  choice l r c = record {
    yes = λ p h. same_trans _ _ _ (c.yes p h) (gx.answer p);
    no = λ p h. same_trans _ _ _ (c.no p h) (gy.answer p);
    normal = c.normal;
    tests = λ m w. elim (c.tests m w) [ inl e ↦ inl e | inr v ↦ elim v [ inl u ↦ inr (inl (gx.tests m u)) | inr u ↦ inr (inr (gy.tests m u)) ] ];
    assigns = λ m w. elim (c.assigns m w) [ inl v ↦ inl (gx.assigns m v) | inr v ↦ inr (gy.assigns m v) ];
  }

-- the results name few values

pub union_few : (a b r : Tree) → AreFew a b → UnionOf a b r → IsFew r
union_few a b r few u = few_of_both a b r u.tests u.assigns few

pub sequence_few : (a b r : Tree) → AreFew a b → SequenceOf a b r → IsFew r
sequence_few a b r few s = few_of_both a b r s.tests s.assigns few

pub choice_few : (l : Lit) (a b r : Tree) → IsFew (Node l a b) → ChoiceOf l a b r → IsFew r
choice_few l a b r few c = few_of_one (Node l a b) r c.tests c.assigns few
