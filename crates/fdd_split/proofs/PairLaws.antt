-- Where copies give one packet.
use Rattle.std.proofs.Common.{◌≡◌, ◌≢◌, ℕ, ◌+◌, ◌<◌, ◌≤◌, inl, inr, refl, ap, sym, ◌∙◌, subst, arith, List, [], ◌∷◌}
use Rattle.nk_values.specs.declared.field.Field.{Field}
use Rattle.nk_values.specs.declared.packet.Packet.{Packet}
use Rattle.nk_values.specs.declared.lit.Lit.{Lit}
use Rattle.nk_values.specs.Held.{Holds, put}
use Rattle.nk_values.specs.Lits.{lit_field, lit_value}
use Rattle.nk_values.specs.Members.{IsIn}
use Rattle.nk_values.specs.Packets.{get}
use Rattle.nk_values.specs.Ranges.{place}
use Rattle.nk_values.specs.Ranks.{rank}
use Rattle.nk_values.proofs.LitLaws.{lit_small}
use Rattle.nk_values.proofs.PacketLaws.{get-with_same, get-with_other, same_packet, field_cases}
use Rattle.fdd_nodes.specs.Trees.{apply}
use Rattle.fdd_nodes.specs.Cells.{whole_cell}
use Rattle.fdd_nodes.specs.Copies.{IsCopy, IsCopyFrom}
use Rattle.fdd_nodes.proofs.CellLaws.{lit_not_free, get-open}
use Rattle.fdd_split.specs.declared.bars.Bar.{Bar}
use Rattle.fdd_split.specs.declared.pairs.Meeting.{Meeting}
use Rattle.fdd_split.specs.declared.pairs.Meeting.TheVariants.{Never, Always, Where}
use Rattle.fdd_split.specs.Bars.{SomeBars}
use Rattle.fdd_split.specs.Pairs.{Meets, MeetsFirst, IsMeeting, IsStopped, IsAfterAlone}
use Rattle.fdd_split.specs.Threats.{IsAlone, IsClear, KeepsField}
use Rattle.fdd_split.proofs.CopyLaws.{behind_leaves, held, moved, sets_value, holds_other, held_other, one_put, leaves_more}

copy_weaken : (c : List Lit) (i j : ℕ) → j ≤ i → IsCopyFrom i c → IsCopyFrom j c
copy_weaken [] i j h o = tt
copy_weaken (l ∷ c) i j h o = (omega (arith, h, o.0), o.1)

places_from : (c : List Lit) (i : ℕ) (y : Lit) → IsCopyFrom i c → IsIn c y → i ≤ place (lit_field y)
places_from [] i y o h = absurd h
places_from (l ∷ c) i y o (inl e) = subst (λ (x : Lit). i ≤ place (lit_field x)) e o.0
places_from (l ∷ c) i y o (inr h) = let a = places_from c (place (lit_field l) + 1) y o.1 h in omega (arith, a, o.0)

put_held : (p : Packet) (l : Lit) → Holds p l → put l p ≡ p
put_held p l h = same_packet _ _ (λ f. elim (field_cases (lit_field l) f) [
  | inl e ↦ subst (λ (g : Field). get (put l p) g ≡ get p g) e (get-with_same p (lit_field l) (lit_value l) ∙ sym h)
  | inr d ↦ get-with_other p (lit_field l) f (lit_value l) d
])

put_again : (p : Packet) (l : Lit) → put l (put l p) ≡ put l p
put_again p l = put_held (put l p) l (get-with_same p (lit_field l) (lit_value l))

open_clear : (k : List Bar) → IsClear k whole_cell
open_clear k y b h = lit_not_free y (sym h ∙ get-open (lit_field y))

-- a literal of the ends of copies after the literal l is of another field
alone_behind : (c d : List Lit) (l y : Lit) → IsCopyFrom (place (lit_field l) + 1) c → IsCopyFrom (place (lit_field l) + 1) d → IsAlone c d y → place (lit_field l) < place (lit_field y)
alone_behind c d l y hc hd (inl a) = let z = places_from c _ y hc a.0 in omega (arith, z)
alone_behind c d l y hc hd (inr a) = let z = places_from d _ y hd a.0 in omega (arith, z)

apart_of : (l y : Lit) → place (lit_field l) < place (lit_field y) → lit_field l ≢ lit_field y
apart_of l y h e = let k : place (lit_field l) ≡ place (lit_field y) = ap place e in omega (arith, h, k)

rank_before : (l y : Lit) → place (lit_field l) < place (lit_field y) → rank l ≤ rank y
rank_before l y h = omega (arith, h, lit_small l)

-- a literal of one copy alone, before all others
module _ (k : List Bar) (l : Lit) (cs d : List Lit) (hc : IsCopyFrom (place (lit_field l) + 1) cs) (hd : IsCopyFrom (place (lit_field l) + 1) d) where
  whole : IsCopy (l ∷ cs)
  whole = (omega arith, hc)

  other : IsCopy d
  other = copy_weaken d _ 0 (omega arith) hd

  rest : IsCopy cs
  rest = copy_weaken cs _ 0 (omega arith) hc

  here : IsAlone (l ∷ cs) d l
  here = inl (inl refl, behind_leaves l d (place (lit_field l) + 1) (omega arith) hd)

  holds_here : (p : Packet) → apply (l ∷ cs) p ≡ apply d p → Holds p l
  holds_here p e = held (l ∷ cs) d p l whole other e here

  rest_meets : Meets k (l ∷ cs) d → Meets k cs d
  rest_meets m = record {
    packet = m.packet;
    clear = m.clear;
    same = subst (λ (x : Packet). apply cs x ≡ apply d m.packet) (put_held m.packet l (holds_here m.packet m.same)) m.same;
  }

  meets_rest : ¬ SomeBars k l → Meets k cs d → Meets k (l ∷ cs) d
  meets_rest n m = record {
    packet = put l m.packet;
    clear = λ y b h. elim (field_cases (lit_field l) (lit_field y)) [
      | inl e ↦ n (subst (λ (x : Lit). SomeBars k x) (sym (one_put m.packet l y e h)) b)
      | inr z ↦ m.clear y b (held_other m.packet (lit_field l) (lit_value l) y z h)
    ];
    same = ap (λ (x : Packet). apply cs x) (put_again m.packet l) ∙ moved cs d m.packet (put l m.packet) rest other m.same
        (λ y a h. holds_other m.packet (lit_field l) (lit_value l) y (apart_of l y (alone_behind cs d l y hc hd a)) h);
  }

  first_alone : (x : Lit) → IsAlone (l ∷ cs) d x → rank l ≤ rank x
  first_alone x (inl (inl e, v)) = subst (λ (y : Lit). rank l ≤ rank y) e (omega arith)
  first_alone x (inl (inr h, v)) = let z = places_from cs _ x hc h in rank_before l x (omega (arith, z))
  first_alone x (inr (h, v)) = let z = places_from d _ x hd h in rank_before l x (omega (arith, z))

  stopped : (m : Meeting) → Meets k cs d → IsStopped k l m → IsMeeting k (l ∷ cs) d m
  stopped Never w s = λ z. z.clear l s (holds_here z.packet z.same)
  stopped Always w s = absurd s
  stopped (Where x) w s =
      subst (λ (y : Lit). MeetsFirst k (l ∷ cs) d y) (sym s.1) (record { meets = meets_rest s.0 w; alone = here; first = first_alone })

  pub alone_meeting : (r m : Meeting) → IsMeeting k cs d r → IsAfterAlone k l r m → IsMeeting k (l ∷ cs) d m
  alone_meeting Never m w s = subst (λ (x : Meeting). IsMeeting k (l ∷ cs) d x) (sym s) (λ z. w (rest_meets z))
  alone_meeting Always m w s =
      stopped m (record { packet = whole_cell; clear = open_clear k; same = ap (λ (x : List Lit). apply x whole_cell) w }) s
  alone_meeting (Where x) m w s = stopped m w.meets s

swap_alone : (c d : List Lit) (x : Lit) → IsAlone c d x → IsAlone d c x
swap_alone c d x (inl a) = inr a
swap_alone c d x (inr a) = inl a

swap_meets : (k : List Bar) (c d : List Lit) → Meets k c d → Meets k d c
swap_meets k c d m = record { packet = m.packet; clear = m.clear; same = sym m.same }

pub swap_meeting : (k : List Bar) (c d : List Lit) (m : Meeting) → IsMeeting k c d m → IsMeeting k d c m
swap_meeting k c d Never h = λ z. h (swap_meets k d c z)
swap_meeting k c d Always h = sym h
swap_meeting k c d (Where l) h = record {
  meets = swap_meets k c d h.meets;
  alone = swap_alone c d l h.alone;
  first = λ x a. h.first x (swap_alone d c x a);
}

-- a literal of both
module _ (k : List Bar) (l : Lit) (cs ds : List Lit) (hc : IsCopyFrom (place (lit_field l) + 1) cs) (hd : IsCopyFrom (place (lit_field l) + 1) ds) where
  ends_meet : Meets k (l ∷ cs) (l ∷ ds) → Meets k cs ds
  ends_meet m = record {
    packet = m.packet;
    clear = m.clear;
    same = moved cs ds (put l m.packet) m.packet (copy_weaken cs _ 0 (omega arith) hc) (copy_weaken ds _ 0 (omega arith) hd) m.same
        (λ y a h. held_other m.packet (lit_field l) (lit_value l) y (apart_of l y (alone_behind cs ds l y hc hd a)) h);
  }

  meet_ends : Meets k cs ds → Meets k (l ∷ cs) (l ∷ ds)
  meet_ends m = record {
    packet = m.packet;
    clear = m.clear;
    same = moved cs ds m.packet (put l m.packet) (copy_weaken cs _ 0 (omega arith) hc) (copy_weaken ds _ 0 (omega arith) hd) m.same
        (λ y a h. holds_other m.packet (lit_field l) (lit_value l) y (apart_of l y (alone_behind cs ds l y hc hd a)) h);
  }

  more : (y : Lit) (es : List Lit) → lit_field l ≢ lit_field y → KeepsField es (lit_field y) → KeepsField (l ∷ es) (lit_field y)
  more y es n h = leaves_more l es (lit_field y) n h

  alone_more : (y : Lit) → IsAlone cs ds y → IsAlone (l ∷ cs) (l ∷ ds) y
  alone_more y (inl a) = inl (inr a.0, more y ds (apart_of l y (alone_behind cs ds l y hc hd (inl a))) a.1)
  alone_more y (inr a) = inr (inr a.0, more y cs (apart_of l y (alone_behind cs ds l y hc hd (inr a))) a.1)

  alone_less : (y : Lit) → IsAlone (l ∷ cs) (l ∷ ds) y → IsAlone cs ds y
  alone_less y (inl (inl e, v)) = absurd (v l (inl refl) (ap (λ (x : Lit). lit_field x) e))
  alone_less y (inl (inr h, v)) = inl (h, λ m z. v m (inr z))
  alone_less y (inr (inl e, v)) = absurd (v l (inl refl) (ap (λ (x : Lit). lit_field x) e))
  alone_less y (inr (inr h, v)) = inr (h, λ m z. v m (inr z))

  pub both_meeting : (m : Meeting) → IsMeeting k cs ds m → IsMeeting k (l ∷ cs) (l ∷ ds) m
  both_meeting Never h = λ z. h (ends_meet z)
  both_meeting Always h = ap (λ (x : List Lit). l ∷ x) h
  both_meeting (Where x) h = record { meets = meet_ends h.meets; alone = alone_more x h.alone; first = λ y a. h.first y (alone_less y a) }

-- two literals of one field
pub clash : (k : List Bar) (l m : Lit) (cs ds : List Lit) (i j : ℕ) → lit_field l ≡ lit_field m → lit_value l ≢ lit_value m → IsCopyFrom i (l ∷ cs) → IsCopyFrom j (m ∷ ds) → ¬ Meets k (l ∷ cs) (m ∷ ds)
clash k l m cs ds i j e n hc hd w =
    let p : Packet = w.packet in
    n (sym (sets_value (l ∷ cs) i l p hc (inl refl)) ∙ ap (λ (x : Packet). get x (lit_field l)) w.same ∙ ap (λ (f : Field). get (apply (m ∷ ds) p) f) e ∙ sets_value (m ∷ ds) j m p hd (inl refl))
