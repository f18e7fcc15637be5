-- Diagrams that are narrowed to what the iterations from a cell can meet.
use Rattle.std.specs.Prelude.{Result, Ok, Err, IfOk}
use Rattle.std.proofs.Common.{◌≡◌, ℕ, inl, inr, refl, sym, subst, arith, rules, Bool, true, false, not, List, [], ◌∷◌, ◌++◌, length}
use Rattle.std.proofs.lemmas.Bool.{not-false}
use Rattle.std.proofs.lemmas.Bool.Decides.{eqb_tells}
use Rattle.nk_values.specs.declared.packet.Packet.{Packet}
use Rattle.nk_values.specs.declared.lit.Lit.{Lit}
use Rattle.nk_values.specs.Held.{Holds, put}
use Rattle.nk_values.specs.Lits.{lit_field, lit_value}
use Rattle.nk_values.specs.Members.{IsIn}
use Rattle.nk_values.specs.Packets.{get}
use Rattle.nk_values.proofs.MemberLaws.{in-left, in-right, in-either}
use Rattle.fdd_nodes.specs.Cells.{Agrees, IsUnset}
use Rattle.fdd_nodes.specs.Known.{Knows}
use Rattle.fdd_nodes.specs.contracts.cell.KnowledgePartialEq.TheImpl as known_impl
use Rattle.fdd_nodes.specs.declared.cell.Knowledge.{Knowledge}
use Rattle.fdd_nodes.specs.declared.cell.Knowledge.TheVariants.{No, Yes}
use Rattle.fdd_nodes.specs.Names.{IsFew}
use Rattle.fdd_nodes.specs.Trees.{Tree, Node, outcomes, answers, SameAnswers}
use Rattle.fdd_nodes.proofs.SplitLaws.{leaf_at-then, leaf_at-else}
use Rattle.fdd_star.specs.Cells.{Among, IsClosed}
use Rattle.fdd_star.specs.Narrow.{AreBut, IsDiagramAt, IsNarrowed, IsOn}
use Rattle.fdd_star.specs.Reaches.{IsNamedBy, StarBut}
use Rattle.fdd_star.specs.Stars.{IsDeep}
use Rattle.fdd_star.proofs.LeadLaws.{holds_in, barred_in}
use Rattle.fdd_star.proofs.FieldLaws.{agrees_holds, agrees_out, holds_on, turns_to, turns_from, Held}
use Rattle.fdd_star.proofs.StarLaws.{choice_few}
use Rattle.fdd_star.proofs.TurnLaws.{in_same}
use Rattle.fdd_store.specs.Digests.{SetsField}
use Rattle.fdd_store.specs.Operations.{ChoiceOf, CofactorOf}
use Rattle.fdd_store.specs.Stores.{Kept, Has, Grows, tree_at}
use Rattle.fdd_store.proofs.StoreLaws.{has_grown, tree_grown}

-- what a diagram names

names_itself : (t : Tree) → IsNamedBy t t
names_itself t = record { tests = λ m k. k; assigns = λ m k. k }

-- a diagram is one that makes its iterations

pub narrowed_none : (p : Tree) (c : Packet) → IsNarrowed p c p
narrowed_none p c = record { has = λ n pk out a w. w; only = λ n pk out a w. w; names = names_itself p }

pub narrowed_on : (p : Tree) (c : Packet) (cs : List Packet) (r : Tree) → IsClosed p c cs → IsOn cs p r → IsNarrowed p c r
narrowed_on p c cs r h o = record {
  has = λ n pk out a w. turns_to p r (Among cs) o.same goes n pk out (start pk a) w;
  only = λ n pk out a w. turns_from p r (Among cs) o.same goes n pk out (start pk a) w;
  names = o.names;
}
  where
    start : (pk : Packet) → Agrees c pk → Among cs pk
    start pk a = record { cell = c; there = h.first; agrees = a }

    goes : (pk q : Packet) → Among cs pk → IsIn (answers p pk) q → Among cs q
    goes pk q w k = (h.iteration w.cell w.there).to pk q w.agrees k

-- so its stars are those of the diagram

pub star_narrowed : (f : List Lit) (p b : Tree) (c : Packet) (ls : List Lit) (r : Tree) → IsNarrowed p c b → StarBut f b c ls r → StarBut f p c ls r
star_narrowed f p b c ls r h s = record {
  made = λ pk out a miss k. let w = s.made pk out a miss k in (w.0, w.1, h.only w.0 pk out a w.2);
  all = λ n pk out a miss k. s.all n pk out a miss (h.has n pk out a k);
  normal = s.normal;
  names = record { tests = λ m k. h.names.tests m (s.names.tests m k); assigns = λ m k. elim (s.names.assigns m k) [ inl w ↦ inl w | inr w ↦ inr (h.names.assigns m w) ] };
  is_unset = s.is_unset;
  first = s.first;
}

pub narrowed_within : (p b : Tree) (c : Packet) (l : Lit) → IsUnset c (lit_field l) → IsNarrowed p c b → IsNarrowed p (put l c) b
narrowed_within p b c l o h = record {
  has = λ n pk out a. h.has n pk out (agrees_out c pk l o a);
  only = λ n pk out a. h.only n pk out (agrees_out c pk l o a);
  names = h.names;
}

-- and no iteration changes a field that it never sets
pub narrowed_where : (p q : Tree) (c : Packet) (l : Lit) → (¬ SetsField p (lit_field l)) → CofactorOf l p q → IsNarrowed p (put l c) q
narrowed_where p q c l n f = record {
  has = λ j pk out a. turns_to p q (Held l) f.answer (holds_on p l n) j pk out (agrees_holds c pk l a);
  only = λ j pk out a. turns_from p q (Held l) f.answer (holds_on p l n) j pk out (agrees_holds c pk l a);
  names = record { tests = f.tests; assigns = f.assigns };
}

pub deep_narrowed : (p b : Tree) (c pk out : Packet) → IsNarrowed p c b → Agrees c pk → IsDeep b pk out → IsDeep p pk out
deep_narrowed p b c pk out h a d = record {
  in_range = d.in_range;
  made = (d.made.0, d.made.1, h.only d.made.0 pk out a d.made.2);
  late = λ w. d.late (w.0, w.1, h.has w.0 pk out a w.2);
}

-- equal answers

same_on : {xs ys zs : List Packet} → SameAnswers xs ys → SameAnswers ys zs → SameAnswers xs zs
same_on g h = record { front = λ x k. h.front x (g.front x k); back = λ x k. g.back x (h.back x k) }

same_as : (xs : List Packet) (pk : Packet) {cs ds : List (List Lit)} → cs ≡ ds → SameAnswers xs (outcomes ds pk) → SameAnswers xs (outcomes cs pk)
same_as xs pk e h = subst (λ (ys : List (List Lit)). SameAnswers xs (outcomes ys pk)) (sym e) h

abbrev pub known_eq : Knowledge → Knowledge → Bool
known_eq = known_impl.eq-value.it

same_known : (x y : Knowledge) → known_eq x y ≡ true → x ≡ y
same_known x y h = search rules

-- the cells that do not know something of a literal, one by one

pub but_none : (l : Lit) (known : Knowledge) (ds : List Packet) → AreBut [] l known ds
but_none l known ds = record { among = λ c h _. absurd h }

module _ (cs ds : List Packet) (c : Packet) (l : Lit) (known here : Knowledge) (knows : Knows c l here) (h : AreBut cs l known ds) where
  pub but_more : (es : List Packet) → es ≡ ds ++ c ∷ [] → AreBut (cs ++ c ∷ []) l known es
  but_more es e = record {
    among = λ d i n. in_same _ _ d (sym e) (elim (in-either cs (c ∷ []) d i) [ inl k ↦ in-left ds (c ∷ []) d (h.among d k n) | inr k ↦ in-right ds (c ∷ []) d k ]);
  }

  pub but_known : not (known_eq here known) ≡ false → AreBut (cs ++ c ∷ []) l known ds
  but_known e = record {
    among = λ d i n. elim (in-either cs (c ∷ []) d i) [
      | inl k ↦ h.among d k n
      | inr k ↦ elim k [ inl s ↦ absurd (n (subst (λ (x : Packet). Knows x l known) s (subst (Knows c l) (same_known here known (not-false (known_eq here known) e)) knows))) | inr o ↦ absurd o ]
    ];
  }

-- so they have the packets that hold the literal, or the others
there_among : (cs ds : List Packet) (l : Lit) (pk : Packet) → AreBut cs l No ds → Holds pk l → Among cs pk → Among ds pk
there_among cs ds l pk b y h = record { cell = h.cell; there = b.among h.cell h.there (λ n. barred_in h.cell pk l h.agrees n y); agrees = h.agrees }

away_among : (cs ds : List Packet) (l : Lit) (pk : Packet) → AreBut cs l Yes ds → (¬ Holds pk l) → Among cs pk → Among ds pk
away_among cs ds l pk b n h = record { cell = h.cell; there = b.among h.cell h.there (λ y. n (holds_in h.cell pk l h.agrees y)); agrees = h.agrees }

-- a diagram on cells

pub on_itself : (cs : List Packet) (t : Tree) → IsOn cs t t
on_itself cs t = record { same = λ pk h. record { front = λ x k. k; back = λ x k. k }; names = names_itself t }

nowhere : (cs : List Packet) (pk : Packet) → cs ≡ [] → Among cs pk → ⊥
nowhere cs pk e h = in_same _ _ h.cell e h.there

pub none_in : (cs : List Packet) → length cs ≡ 0 → cs ≡ []
none_in [] e = refl
none_in (c ∷ cs) e = absurd (omega (arith, e))

-- the test goes where no cell has packets that come out one way

module _ (cs ys ns : List Packet) (l : Lit) (t e a : Tree) (is : a ≡ Node l t e) (there : AreBut cs l No ys) (away : AreBut cs l Yes ns) where
  pub on_else : (r : Tree) → ys ≡ [] → IsOn ns e r → IsOn cs a r
  on_else r none h = subst (λ (x : Tree). IsOn cs x r) (sym is) (record {
    same = λ pk k.
        let n : ¬ Holds pk l = λ y. nowhere ys pk none (there_among cs ys l pk there y k) in
        same_as (answers r pk) pk (leaf_at-else l t e pk n) (h.same pk (away_among cs ns l pk away n k));
    names = record { tests = λ m k. inr (inr (h.names.tests m k)); assigns = λ m k. inr (h.names.assigns m k) };
  })

  pub on_then : (r : Tree) → ns ≡ [] → IsOn ys t r → IsOn cs a r
  on_then r none h = subst (λ (x : Tree). IsOn cs x r) (sym is) (record {
    same = λ pk k. elim (eqb_tells (get pk (lit_field l)) (lit_value l)) [
      | inl y ↦ same_as (answers r pk) pk (leaf_at-then l t e pk y.1) (h.same pk (there_among cs ys l pk there y.1 k))
      | inr n ↦ absurd (nowhere ns pk none (away_among cs ns l pk away n.1 k))
    ];
    names = record { tests = λ m k. inr (inl (h.names.tests m k)); assigns = λ m k. inl (h.names.assigns m k) };
  })

  pub on_both : (x y r : Tree) → IsOn ys t x → IsOn ns e y → ChoiceOf l x y r → IsOn cs a r
  on_both x y r hx hy c = subst (λ (z : Tree). IsOn cs z r) (sym is) (record {
    same = λ pk k. elim (eqb_tells (get pk (lit_field l)) (lit_value l)) [
      | inl h ↦ same_as (answers r pk) pk (leaf_at-then l t e pk h.1) (same_on (c.yes pk h.1) (hx.same pk (there_among cs ys l pk there h.1 k)))
      | inr n ↦ same_as (answers r pk) pk (leaf_at-else l t e pk n.1) (same_on (c.no pk n.1) (hy.same pk (away_among cs ns l pk away n.1 k)))
    ];
    names = record {
      tests = λ m k. elim (c.tests m k) [ inl v ↦ inl v | inr v ↦ elim v [ inl w ↦ inr (inl (hx.names.tests m w)) | inr w ↦ inr (inr (hy.names.tests m w)) ] ];
      assigns = λ m k. elim (c.assigns m k) [ inl w ↦ inl (hx.names.assigns m w) | inr w ↦ inr (hy.names.assigns m w) ];
    };
  })

-- the test over what is left of both branches names few values
pub few_on : (cs ds : List Packet) (l : Lit) (t e a b : Tree) → IsFew (Node l t e) → IsOn cs t a → IsOn ds e b → IsFew (Node l a b)
few_on cs ds l t e a b few ha hb = choice_few (Node l t e) l a b few (inl refl)
    (record { tests = λ m k. inr (inl (ha.names.tests m k)); assigns = λ m k. inl (ha.names.assigns m k) })
    (record { tests = λ m k. inr (inr (hb.names.tests m k)); assigns = λ m k. inr (hb.names.assigns m k) })

-- diagrams of a store

pub at_on : (k : Kept) (P Q : Tree → Type 0) → ((t : Tree) → P t → Q t) → (a : ℕ) → IsDiagramAt k P a → IsDiagramAt k Q a
at_on k P Q f a h = record { has = h.has; is = f (tree_at k a) h.is }

pub at_itself : (old new : Kept) (P : Tree → Tree → Type 0) (a : ℕ) → ((t : Tree) → P t t) → Grows old new → Has old a → IsDiagramAt new (P (tree_at old a)) a
at_itself old new P a f g h = record { has = has_grown old new a g h; is = subst (P (tree_at old a)) (sym (tree_grown old new a g h)) (f (tree_at old a)) }

pub ok_on : {X E : Type 0} (r : Result X E) (P Q : X → Type 0) → ((x : X) → P x → Q x) → IfOk r P → IfOk r Q
ok_on (Ok x) P Q f h = f x h
ok_on (Err e) P Q f h = tt
