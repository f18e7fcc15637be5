-- The cells that iterations lead to.
use Rattle.std.proofs.Common.{◌≡◌, ℕ, ◌+◌, ◌<◌, inl, inr, refl, ap, sym, ◌∙◌, subst, arith, Bool, true, false, cond, List, [], ◌∷◌, ◌++◌, length, take, get_or}
use Rattle.std.proofs.lemmas.List.{append_assoc, append-nil, take_more, take_all, take-append-le}
use Rattle.std.proofs.lemmas.Option.{slice_get_cases}
use Rattle.std.specs.List.{list_any}
use Rattle.indexmap.specs.IndexSet.{insert_key}
use Rattle.nk_values.specs.declared.packet.Packet.{Packet}
use Rattle.nk_values.specs.declared.lit.Lit.{Lit}
use Rattle.nk_values.specs.Held.{Holds}
use Rattle.nk_values.specs.Lits.{lit_field, lit_value}
use Rattle.nk_values.specs.Members.{IsIn}
use Rattle.nk_values.specs.Packets.{get}
use Rattle.nk_values.proofs.MemberLaws.{in-left, in-either}
use Rattle.std.proofs.lemmas.Bool.Decides.{eqb_tells}
use Rattle.fdd_nodes.specs.Cells.{Agrees}
use Rattle.fdd_nodes.specs.Known.{Bars}
use Rattle.fdd_nodes.specs.Trees.{Tree, Leaf, Node, apply, outcomes}
use Rattle.fdd_nodes.proofs.CellLaws.{fill_fixed, holds_fixed}
use Rattle.fdd_nodes.proofs.MakesLaws.{source, outcome}
use Rattle.fdd_nodes.proofs.SplitLaws.{leaf_at-then, leaf_at-else}
use Rattle.fdd_star.specs.Marks.{PutsNumber}
use Rattle.fdd_star.specs.Cells.{AllLead, AllLeadOn, Among, IsClosed, Leads, LeadsOn}
use Rattle.fdd_star.proofs.EqualLaws.{cell_eq, same_cell}
use Rattle.fdd_star.proofs.FillLaws.{fill_agrees, apply_fill}
use Rattle.fdd_star.proofs.NamedLaws.{with_has}
use Rattle.fdd_star.proofs.TurnLaws.{in_same}
use Rattle.fdd_store.specs.Stores.{Kept, tree_at}

-- packets of cells

-- what a copy makes of a packet of a cell is in what it makes of the cell
agrees_after : (x : List Lit) (c pk : Packet) → Agrees c pk → Agrees (apply x c) (apply x pk)
agrees_after x c pk a = subst (Agrees (apply x c)) (sym (apply_fill x c pk) ∙ ap (apply x) (fill_agrees c pk a)) (record { at = fill_fixed (apply x c) pk })

pub holds_in : (c pk : Packet) (l : Lit) → Agrees c pk → Holds c l → Holds pk l
holds_in c pk l a h = a.at (lit_field l) (holds_fixed c l h) ∙ h

pub barred_in : (c pk : Packet) (l : Lit) → Agrees c pk → Bars c l → ¬ Holds pk l
barred_in c pk l a b h = b.other (sym (a.at (lit_field l) b.fixed) ∙ h)

-- more cells

-- a cell is there once it was added
pub cell_added : (old new : List Packet) (d : Packet) → new ≡ insert_key cell_eq old d → IsIn new d
cell_added old new d e = subst (λ (xs : List Packet). IsIn xs d) (sym e) (with_has cell_eq same_cell d old)

more_cells : (old new : List Packet) (d : Packet) → new ≡ insert_key cell_eq old d → (more : List Packet) × (new ≡ old ++ more)
more_cells old new d e = by (list_any (cell_eq d) old) e
  where
    by : (b : Bool) → new ≡ cond b old (old ++ d ∷ []) → (more : List Packet) × (new ≡ old ++ more)
    by true h = ([], h ∙ sym (append-nil old))
    by false h = (d ∷ [], h)

among_more : (cs ds : List Packet) (pk : Packet) → Among cs pk → Among (cs ++ ds) pk
among_more cs ds pk h = record { cell = h.cell; there = in-left cs ds h.cell h.there; agrees = h.agrees }

module _ (old new more : List Packet) (e : new ≡ old ++ more) where
  lead_wider : (t : Tree) (d : Packet) → Leads t d old → Leads t d new
  lead_wider t d h = record { to = λ pk q a k. subst (λ (xs : List Packet). Among xs q) (sym e) (among_more old more q (h.to pk q a k)) }

  all_wider : (k : Kept) (d : Packet) (as' : List ℕ) → AllLead k d as' old → AllLead k d as' new
  all_wider k d as' h = record { each = λ a i. lead_wider (tree_at k a) d (h.each a i) }

-- where a diagram leads

pub leads_none : (d : Packet) (cs : List Packet) → LeadsOn (Leaf []) d cs cs
leads_none d cs = record { more = []; joined = sym (append-nil cs); leads = record { to = λ pk q a k. absurd k } }

pub leads_copy : (xs : List (List Lit)) (x : List Lit) (c : Packet) (old mid new : List Packet) → LeadsOn (Leaf xs) c old mid → new ≡ insert_key cell_eq mid (apply x c) → LeadsOn (Leaf (xs ++ x ∷ [])) c old new
leads_copy xs x c old mid new h e =
    let w = more_cells mid new (apply x c) e in
    let before = lead_wider mid new w.0 w.1 (Leaf xs) c h.leads in
    record {
      more = h.more ++ w.0;
      joined = w.1 ∙ ap (λ (ys : List Packet). ys ++ w.0) h.joined ∙ append_assoc old h.more w.0;
      leads = record {
        to = λ pk q a k.
            let s = source (xs ++ x ∷ []) pk q k in
            elim (in-either xs (x ∷ []) s.copy s.among) [
              | inl u ↦ before.to pk q a (subst (IsIn (outcomes xs pk)) s.makes (outcome xs s.copy pk u))
              | inr u ↦ elim u [
                | inl y ↦ record { cell = apply x c; there = cell_added mid new (apply x c) e; agrees = subst (Agrees (apply x c)) (ap (λ z. apply z pk) y ∙ s.makes) (agrees_after x c pk a) }
                | inr n ↦ absurd n
              ]
            ];
      };
    }

pub leads_then : (l : Lit) (t e : Tree) (c : Packet) (cs : List Packet) → Holds c l → Leads t c cs → Leads (Node l t e) c cs
leads_then l t e c cs y h = record { to = λ pk q a k. h.to pk q a (subst (λ (xs : List (List Lit)). IsIn (outcomes xs pk) q) (leaf_at-then l t e pk (holds_in c pk l a y)) k) }

pub leads_else : (l : Lit) (t e : Tree) (c : Packet) (cs : List Packet) → Bars c l → Leads e c cs → Leads (Node l t e) c cs
leads_else l t e c cs n h = record { to = λ pk q a k. h.to pk q a (subst (λ (xs : List (List Lit)). IsIn (outcomes xs pk) q) (leaf_at-else l t e pk (barred_in c pk l a n)) k) }

pub leads_both : (l : Lit) (t e : Tree) (c : Packet) (cs : List Packet) → Leads t c cs → Leads e c cs → Leads (Node l t e) c cs
leads_both l t e c cs g h = record {
  to = λ pk q a k. elim (eqb_tells (get pk (lit_field l)) (lit_value l)) [
    | inl y ↦ g.to pk q a (subst (λ (xs : List (List Lit)). IsIn (outcomes xs pk) q) (leaf_at-then l t e pk y.1) k)
    | inr n ↦ h.to pk q a (subst (λ (xs : List (List Lit)). IsIn (outcomes xs pk) q) (leaf_at-else l t e pk n.1) k)
  ];
}

-- diagrams that were gone through

pub lead_first : (k : Kept) (d : Packet) (as' : List ℕ) (cs : List Packet) → as' ≡ [] → AllLead k d as' cs
lead_first k d as' cs e = record { each = λ a i. absurd (in_same _ _ a e i) }

pub lead_more : (k : Kept) (d : Packet) (as' bs : List ℕ) (a : ℕ) (b : Bool) (cs : List Packet) → PutsNumber a b as' bs → AllLead k d as' cs → Leads (tree_at k a) d cs → AllLead k d bs cs
lead_more k d as' bs a false cs e h f = subst (λ (xs : List ℕ). AllLead k d xs cs) (sym (e.kept refl).1) h
lead_more k d as' bs a true cs e h f = record {
  each = λ b i. elim (in-either as' (a ∷ []) b (in_same _ _ b (e.put refl).1 i)) [
    | inl j ↦ h.each b j
    | inr s ↦ elim s [ inl t ↦ subst (λ (x : ℕ). Leads (tree_at k x) d cs) t f | inr o ↦ absurd o ]
  ];
}

-- one cell after another

pub record Closes (p : Tree) (c : Packet) (n : ℕ) (cs : List Packet) : Type 0 where
  pub first : IsIn cs c
  pub iteration : (d : Packet) → IsIn (take n cs) d → Leads p d cs

pub closes_start : (p : Tree) (c : Packet) (old new : List Packet) → new ≡ insert_key cell_eq old c → Closes p c 0 new
closes_start p c old new e = record { first = cell_added old new c e; iteration = λ d k. absurd k }

pub closes_more : (p : Tree) (c d : Packet) (n : ℕ) (old new : List Packet) → n < length old → get_or old n d ≡ d → Closes p c n old → LeadsOn p d old new → Closes p c (n + 1) new
closes_more p c d n old new b e h w = record {
  first = in_same _ _ c (sym w.joined) (in-left old w.more c h.first);
  iteration = λ x i. elim (in-either (take n old) (d ∷ []) x (in_same _ _ x taken i)) [
    | inl u ↦ lead_wider old new w.more w.joined p x (h.iteration x u)
    | inr u ↦ elim u [ inl s ↦ subst (λ (y : Packet). Leads p y new) s w.leads | inr o ↦ absurd o ]
  ];
}
  where
    taken : take (n + 1) new ≡ take n old ++ d ∷ []
    taken = ap (take (n + 1)) w.joined ∙ take-append-le (n + 1) old w.more (omega (arith, b)) ∙ take_more old n d b ∙ ap (λ (y : Packet). take n old ++ y ∷ []) e

pub closed_of : (p : Tree) (c : Packet) (n : ℕ) (cs : List Packet) → (n < length cs → ⊥) → Closes p c n cs → IsClosed p c cs
closed_of p c n cs f h = record {
  first = h.first;
  iteration = λ d i. elim (slice_get_cases cs n).1 [ inl w ↦ absurd (f w.1) | inr w ↦ h.iteration d (in_same _ _ d (sym (take_all n cs w.0)) i) ];
}

-- a diagram that is gone through

module _ (k : Kept) (d : Packet) (old : List Packet) where
  pub gone_there : (as' : List ℕ) (a : ℕ) → IsIn as' a → AllLead k d as' old → AllLeadOn k (tree_at k a) d old old as'
  gone_there as' a i h = record { on = record { more = []; joined = sym (append-nil old); leads = h.each a i }; done = h }

  pub gone_as : (t : Tree) (mid new : List Packet) (as' bs : List ℕ) → new ≡ mid → bs ≡ as' → AllLeadOn k t d old mid as' → AllLeadOn k t d old new bs
  gone_as t mid new as' bs e e' g = subst (λ (x : List Packet). AllLeadOn k t d old x bs) (sym e) (subst (AllLeadOn k t d old mid) (sym e') g)

  pub gone_leaf : (t : Tree) (xs : List (List Lit)) (new : List Packet) (as' : List ℕ) → t ≡ Leaf xs → AllLead k d as' old → LeadsOn (Leaf xs) d old new → AllLeadOn k t d old new as'
  gone_leaf t xs new as' e h w = record { on = subst (λ (x : Tree). LeadsOn x d old new) (sym e) w; done = all_wider old new w.more w.joined k d as' h }

  -- by one branch, or by both
  pub gone_by : (t x : Tree) (new : List Packet) (as' : List ℕ) → (Leads x d new → Leads t d new) → AllLeadOn k x d old new as' → AllLeadOn k t d old new as'
  gone_by t x new as' f h = record { on = record { more = h.on.more; joined = h.on.joined; leads = f h.on.leads }; done = h.done }

  pub gone_both : (t x y : Tree) (mid new : List Packet) (as' bs : List ℕ) → (Leads x d new → Leads y d new → Leads t d new) → AllLeadOn k x d old mid as' → AllLeadOn k y d mid new bs → AllLeadOn k t d old new bs
  gone_both t x y mid new as' bs f g h = record {
    on = record {
      more = g.on.more ++ h.on.more;
      joined = h.on.joined ∙ ap (λ (ys : List Packet). ys ++ h.on.more) g.on.joined ∙ append_assoc old g.on.more h.on.more;
      leads = f (lead_wider mid new h.on.more h.on.joined x d g.on.leads) h.on.leads;
    };
    done = h.done;
  }

  -- and then it is done
  pub gone_done : (a : ℕ) (b : Bool) (new : List Packet) (as' bs : List ℕ) → PutsNumber a b as' bs → AllLeadOn k (tree_at k a) d old new as' → AllLeadOn k (tree_at k a) d old new bs
  gone_done a b new as' bs e g = record { on = g.on; done = lead_more k d as' bs a b new e g.done g.on.leads }
