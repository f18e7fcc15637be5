-- Where copies give one packet, as they are walked literal by literal.
use Rattle.std.proofs.Common.{◌≡◌, ◌≢◌, ℕ, ◌+◌, ◌<◌, ◌≤◌, refl, ap, sym, ◌∙◌, subst, arith, List, [], ◌∷◌, length, drop, take, get_or, ◌-◌}
use Rattle.std.proofs.Math.Seq.{take-length}
use Rattle.nk_values.specs.declared.lit.Lit.{Lit}
use Rattle.nk_values.specs.Lits.{lit_field, lit_value}
use Rattle.nk_values.specs.Ranges.{place}
use Rattle.nk_values.proofs.LitLaws.{same_lit}
use Rattle.nk_values.proofs.PacketLaws.{same_field}
use Rattle.fdd_nodes.specs.Copies.{IsCopyFrom}
use Rattle.fdd_split.specs.declared.bars.Bar.{Bar}
use Rattle.fdd_split.specs.declared.pairs.Meeting.{Meeting}
use Rattle.fdd_split.specs.Pairs.{Meets, IsMeeting, TellsMeeting, IsAfterAlone}
use Rattle.fdd_split.proofs.PairLaws.{alone_meeting, swap_meeting, both_meeting, clash}

take_whole : (xs : List Lit) (n : ℕ) → n ≡ length xs → take n xs ≡ xs
take_whole xs n e = subst (λ (m : ℕ). take m xs ≡ xs) (sym e) (take-length xs)

pub headed : (xs : List Lit) (x : Lit) → 1 ≤ length xs → x ≡ get_or xs 0 x → xs ≡ x ∷ take (length xs - 1) (drop 1 xs)
headed [] x h e = absurd (omega (arith, h))
headed (y ∷ ys) x h e =
    ap (λ (z : Lit). z ∷ ys) (sym e) ∙ ap (λ (zs : List Lit). x ∷ zs) (sym (take_whole ys (length (y ∷ ys) - 1) (omega arith)))

pub is_empty : (xs : List Lit) → length xs < 1 → xs ≡ []
is_empty [] h = refl
is_empty (y ∷ ys) h = absurd (omega (arith, h))

pub behind_none : (n j : ℕ) (d : List Lit) → d ≡ [] → IsCopyFrom j d → IsCopyFrom n d
behind_none n j d e o = subst (λ (x : List Lit). IsCopyFrom n x) (sym e) tt

pub behind_more : (l m : Lit) (ds : List Lit) (j : ℕ) (d : List Lit) → d ≡ m ∷ ds → place (lit_field l) < place (lit_field m) → IsCopyFrom j d → IsCopyFrom (place (lit_field l) + 1) d
behind_more l m ds j d e h o =
    let o' : IsCopyFrom j (m ∷ ds) = subst (λ (x : List Lit). IsCopyFrom j x) e o in
    subst (λ (x : List Lit). IsCopyFrom (place (lit_field l) + 1) x) (sym e) (omega (arith, h), o'.1)

pub alone_left : (k : List Bar) (c d cs : List Lit) (l : Lit) (i j : ℕ) (r m : Meeting) → c ≡ l ∷ cs → TellsMeeting k cs d r → IsAfterAlone k l r m → IsCopyFrom (place (lit_field l) + 1) d → IsCopyFrom i c → IsMeeting k c d m
alone_left k c d cs l i j r m e tells after hd oc =
    let o : IsCopyFrom i (l ∷ cs) = subst (λ (x : List Lit). IsCopyFrom i x) e oc in
    subst (λ (x : List Lit). IsMeeting k x d m) (sym e) (alone_meeting k l cs d o.1 hd r m (tells _ _ o.1 hd) after)

pub alone_right : (k : List Bar) (c d ds : List Lit) (l : Lit) (i j : ℕ) (r m : Meeting) → d ≡ l ∷ ds → TellsMeeting k c ds r → IsAfterAlone k l r m → IsCopyFrom (place (lit_field l) + 1) c → IsCopyFrom j d → IsMeeting k c d m
alone_right k c d ds l i j r m e tells after hc od =
    let o : IsCopyFrom j (l ∷ ds) = subst (λ (x : List Lit). IsCopyFrom j x) e od in
    subst (λ (x : List Lit). IsMeeting k c x m) (sym e)
    (swap_meeting k (l ∷ ds) c m (alone_meeting k l ds c o.1 hc r m (swap_meeting k c ds r (tells _ _ hc o.1)) after))

pub both_walked : (k : List Bar) (c d cs ds : List Lit) (l m : Lit) (i j : ℕ) (r : Meeting) → c ≡ l ∷ cs → d ≡ m ∷ ds → place (lit_field l) ≡ place (lit_field m) → lit_value l ≡ lit_value m → TellsMeeting k cs ds r → IsCopyFrom i c → IsCopyFrom j d → IsMeeting k c d r
both_walked k c d cs ds l m i j r e g p v tells oc od =
    let o1 : IsCopyFrom i (l ∷ cs) = subst (λ (x : List Lit). IsCopyFrom i x) e oc in
    let o2 : IsCopyFrom j (m ∷ ds) = subst (λ (x : List Lit). IsCopyFrom j x) g od in
    let s : l ≡ m = same_lit l m (same_field _ _ p) v in
    let o3 : IsCopyFrom (place (lit_field l) + 1) ds = subst (λ (x : Lit). IsCopyFrom (place (lit_field x) + 1) ds) (sym s) o2.1 in
    let g' : d ≡ l ∷ ds = g ∙ ap (λ (x : Lit). x ∷ ds) (sym s) in
    subst (λ (x : List Lit). IsMeeting k x d r) (sym e)
    (subst (λ (x : List Lit). IsMeeting k (l ∷ cs) x r) (sym g') (both_meeting k l cs ds o1.1 o3 r (tells _ _ o1.1 o3)))

pub clash_walked : (k : List Bar) (c d cs ds : List Lit) (l m : Lit) (i j : ℕ) → c ≡ l ∷ cs → d ≡ m ∷ ds → place (lit_field l) ≡ place (lit_field m) → lit_value l ≢ lit_value m → IsCopyFrom i c → IsCopyFrom j d → ¬ Meets k c d
clash_walked k c d cs ds l m i j e g p v oc od =
    let o1 : IsCopyFrom i (l ∷ cs) = subst (λ (x : List Lit). IsCopyFrom i x) e oc in
    let o2 : IsCopyFrom j (m ∷ ds) = subst (λ (x : List Lit). IsCopyFrom j x) g od in
    subst (λ (x : List Lit). ¬ Meets k x d) (sym e)
    (subst (λ (x : List Lit). ¬ Meets k (l ∷ cs) x) (sym g) (clash k l m cs ds i j (same_field _ _ p) v o1 o2))
