-- Divided diagrams are split, and name few values.
use Rattle.std.proofs.Common.{inl, inr, arith, []}
use Rattle.nk_values.specs.declared.lit.Lit.{Lit}
use Rattle.nk_values.specs.Members.{IsIn}
use Rattle.nk_values.proofs.MemberLaws.{in-left, in-right}
use Rattle.fdd_nodes.specs.Trees.{Tree, Leaf, Node, Tests, Assigns}
use Rattle.fdd_nodes.specs.Names.{IsFew, literals}
use Rattle.fdd_nodes.specs.Paths.{no_tests}
use Rattle.fdd_nodes.proofs.NameLaws.{count_within, named, fresh_of_one}
use Rattle.fdd_store.specs.Canonical.{IsCanonical}
use Rattle.fdd_split.specs.Divides.{Divides}
use Rattle.fdd_split.specs.Split.{SplitOf}
use Rattle.fdd_split.proofs.AnswerLaws.{like_of}
use Rattle.fdd_split.proofs.EndLaws.{set_there}
use Rattle.fdd_split.proofs.LandLaws.{reaches_first}
use Rattle.fdd_split.proofs.NeedLaws.{needed_of}
use Rattle.fdd_split.proofs.OrderLaws.{ordered_of, proper_of}
use Rattle.fdd_split.proofs.TidyLaws.{tidy_of, ready_first, once_of}

pub split_root : (a r : Tree) → IsFew a → IsCanonical a → Divides [] a r → SplitOf a r
split_root a r few h d =
    let g = fresh_of_one a few in
    let like = like_of r [] a d in
    let tidy = tidy_of r [] a 0 (ready_first a h) d in
    record {
      same = like.same;
      split = record {
        ordered = ordered_of r [] a 0 (ready_first a h) d;
        respects = tidy.respects;
        once = λ p i. once_of r p (proper_of r [] a h.proper d) tidy.none;
        needed = needed_of r [] a 0 no_tests (ready_first a h) (reaches_first a g.0 g.1 g.2) d;
      };
      tests = like.tests;
      assigns = like.assigns;
    }

tested_there : (t : Tree) (m : Lit) → Tests t m → IsIn (literals t) m
tested_there (Leaf cs) m h = absurd h
tested_there (Node l t e) m (inl h) = inl h
tested_there (Node l t e) m (inr (inl h)) = inr (in-left (literals t) (literals e) m (tested_there t m h))
tested_there (Node l t e) m (inr (inr h)) = inr (in-right (literals t) (literals e) m (tested_there e m h))

assigned_there : (t : Tree) (m : Lit) → Assigns t m → IsIn (literals t) m
assigned_there (Leaf cs) m h = set_there cs m h
assigned_there (Node l t e) m (inl h) = inr (in-left (literals t) (literals e) m (assigned_there t m h))
assigned_there (Node l t e) m (inr h) = inr (in-right (literals t) (literals e) m (assigned_there e m h))

pub few_root : (a r : Tree) → IsFew a → Divides [] a r → IsFew r
few_root a r few d =
    let like = like_of r [] a d in
    let k = count_within (literals r) (literals a) (λ m i. elim (named r m i) [
      | inl t ↦ elim (like.tests m t) [ inl z ↦ tested_there a m z | inr z ↦ assigned_there a m z ]
      | inr s ↦ assigned_there a m (like.assigns m s)
    ]) in
    omega (arith, k, few)
