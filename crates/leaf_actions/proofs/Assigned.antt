-- Where a copy leaves: the number that it assigns, or else its packet's own.
use Rattle.std.proofs.Common.{◌≡◌, ◌≢◌, ◌<◌, ℕ, ◌+◌, refl, ap, sym, ◌∙◌, subst, arith, cond, Bool, true, false, ◌==◌, List, [], ◌∷◌, Some, None}
use Rattle.std.proofs.lemmas.Bool.{eqb-true, eqb-false}
use Rattle.nk_values.specs.declared.field.Field.{Field}
use Rattle.nk_values.specs.declared.field.Field.TheVariants.{Pt}
use Rattle.nk_values.specs.declared.packet.Packet.{Packet}
use Rattle.nk_values.specs.declared.lit.Lit.{Lit}
use Rattle.nk_values.specs.Held.{put}
use Rattle.nk_values.specs.Lits.{lit_field, lit_value}
use Rattle.nk_values.specs.Packets.{get, with_value}
use Rattle.nk_values.specs.Ranges.{place}
use Rattle.nk_values.proofs.PacketLaws.{get-with_same, get-with_other, same_field}
use Rattle.fdd_nodes.specs.Cells.{whole_cell}
use Rattle.fdd_nodes.specs.Copies.{IsCopyFrom, IsCopy, assigned}
use Rattle.fdd_nodes.specs.Trees.{apply}
use Rattle.leaf_actions.specs.declared.view.PortView.{PortView}
use Rattle.leaf_actions.specs.Routes.{out_of}

-- a field before those of the copy
untouched : (c : List Lit) (k : ℕ) (f : Field) (p : Packet) → IsCopyFrom k c → place f < k → get (apply c p) f ≡ get p f
untouched [] k f p h n = refl
untouched (l ∷ c) k f p h n =
    let low = h.0 in
    let other : lit_field l ≢ f = λ (e : lit_field l ≡ f). let same : place (lit_field l) ≡ place f = ap place e in omega (arith, same, low, n) in
    untouched c (place (lit_field l) + 1) f (put l p) h.1 (omega (arith, low, n)) ∙ get-with_other p (lit_field l) f (lit_value l) other

assigns : (c : List Lit) (k : ℕ) (f : Field) (p : Packet) (n : ℕ) → IsCopyFrom k c → assigned c f ≡ Some n → get (apply c p) f ≡ n
assigns [] k f p n h e = absurd (cc)
assigns (l ∷ c) k f p n h e = split (place (lit_field l) == place f) refl (assigns c (place (lit_field l) + 1) f (put l p) n h.1)
  where
    split : (b : Bool) → (place (lit_field l) == place f) ≡ b → (assigned c f ≡ Some n → get (apply c (put l p)) f ≡ n) → get (apply c (put l p)) f ≡ n
    split true t r =
        let same : lit_field l ≡ f = same_field (lit_field l) f (eqb-true _ _ t) in
        let s : Some (lit_value l) ≡ Some n = sym (ap (λ b. cond b (Some (lit_value l)) (assigned c f)) t) ∙ e in
        let value : lit_value l ≡ n = cc in
        let low : place f < place (lit_field l) + 1 = let d = ap place same in omega (arith, d) in
        untouched c (place (lit_field l) + 1) f (put l p) h.1 low ∙ subst (λ (g : Field). get (put l p) g ≡ lit_value l) same (get-with_same p (lit_field l) (lit_value l)) ∙ value
    split false t r = r (sym (ap (λ b. cond b (Some (lit_value l)) (assigned c f)) t) ∙ e)

leaves : (c : List Lit) (f : Field) (p : Packet) → assigned c f ≡ None → get (apply c p) f ≡ get p f
leaves [] f p e = refl
leaves (l ∷ c) f p e = split (place (lit_field l) == place f) refl (leaves c f (put l p))
  where
    split : (b : Bool) → (place (lit_field l) == place f) ≡ b → (assigned c f ≡ None → get (apply c (put l p)) f ≡ get (put l p) f) → get (apply c (put l p)) f ≡ get p f
    split true t r = let n : Some (lit_value l) ≡ None = sym (ap (λ b. cond b (Some (lit_value l)) (assigned c f)) t) ∙ e in absurd (cc)
    split false t r =
        let other : lit_field l ≢ f = λ (d : lit_field l ≡ f). eqb-false _ _ t (ap place d) in
        r (sym (ap (λ b. cond b (Some (lit_value l)) (assigned c f)) t) ∙ e) ∙ get-with_other p (lit_field l) f (lit_value l) other

pub out_assigned : (v : PortView) (c : List Lit) (n : ℕ) → IsCopy c → assigned c Pt ≡ Some n → n ≡ out_of v c
out_assigned v c n h e = sym (assigns c 0 Pt (with_value whole_cell Pt v.pt) n h e)

pub out_own : (v : PortView) (c : List Lit) → assigned c Pt ≡ None → v.pt ≡ out_of v c
out_own v c e = sym (leaves c Pt (with_value whole_cell Pt v.pt) e)
