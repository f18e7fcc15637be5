-- The texts of fields are told apart, one by one and in braces.
use Rattle.std.proofs.Common.{◌≡◌, ℕ, Bool, true, false, ◌==◌, ◌&&◌, not, inl, inr, List, [], ◌∷◌, ◌++◌, refl, sym, ◌∙◌, ap, subst, Option, Some, None, if◌then◌else◌}
use Rattle.std.proofs.lemmas.Bool.{false≢true}
use Rattle.std.proofs.lemmas.Bool.Decides.{Decides-eqb}
use Rattle.std.proofs.lemmas.List.{append_assoc}
use Rattle.nk_values.specs.declared.field.Field.{Field}
use Rattle.nk_values.specs.declared.field.Field.TheVariants.{Sw, Pt, EthTyp, IpProto, EthSrc, EthDst, Ip4Src, Ip4Dst, TcpSrcPort, TcpDstPort}
use Rattle.nk_values.specs.declared.packet.Packet.{Packet}
use Rattle.nk_values.specs.Members.{IsIn}
use Rattle.nk_values.specs.Names.{name_of, all_fields}
use Rattle.nk_values.specs.Packets.{IsInRange, get}
use Rattle.nk_values.specs.Ranges.{IsValue}
use Rattle.value_text.specs.Histories.{more_fields, braced}
use Rattle.value_text.specs.Values.{value_text, field_text}
use Rattle.line_laws.proofs.Cut.{every, stops, and-left, and-right, cut, rest, every-append, every-weaker}
use Rattle.line_laws.proofs.Values.{digit, in_list, in_braces, inner, value-inner, value-same}

-- no `=`, and no `>`
abbrev in_name : ℕ → Bool
in_name c = not (c == 61)

abbrev pub in_step : ℕ → Bool
in_step c = not (c == 62)

-- ---- names

same_text : List ℕ → List ℕ → Bool
same_text [] [] = true
same_text [] (d ∷ ds) = false
same_text (c ∷ cs) [] = false
same_text (c ∷ cs) (d ∷ ds) = (c == d) && same_text cs ds

pick : List ℕ → List Field → Option Field
unfolding same_text
pick w [] = None
pick w (f ∷ fs) = if same_text w (name_of f) then Some f else pick w fs

picked : (f : Field) → pick (name_of f) all_fields ≡ Some f
unfolding pick
picked Sw = refl
picked Pt = refl
picked EthTyp = refl
picked IpProto = refl
picked EthSrc = refl
picked EthDst = refl
picked Ip4Src = refl
picked Ip4Dst = refl
picked TcpSrcPort = refl
picked TcpDstPort = refl

name-same : (f g : Field) → name_of f ≡ name_of g → f ≡ g
name-same f g e = let s : Some f ≡ Some g = sym (picked f) ∙ ap (λ (w : List ℕ). pick w all_fields) e ∙ picked g in cc

name-inner : (f : Field) → every inner (name_of f) ≡ true
name-inner Sw = refl
name-inner Pt = refl
name-inner EthTyp = refl
name-inner IpProto = refl
name-inner EthSrc = refl
name-inner EthDst = refl
name-inner Ip4Src = refl
name-inner Ip4Dst = refl
name-inner TcpSrcPort = refl
name-inner TcpDstPort = refl

name-plain : (f : Field) → every in_name (name_of f) ≡ true
name-plain Sw = refl
name-plain Pt = refl
name-plain EthTyp = refl
name-plain IpProto = refl
name-plain EthSrc = refl
name-plain EthDst = refl
name-plain Ip4Src = refl
name-plain Ip4Dst = refl
name-plain TcpSrcPort = refl
name-plain TcpDstPort = refl

-- ---- one field

field-inner : (f : Field) (n : ℕ) → IsValue f n → every inner (field_text f n) ≡ true
field-inner f n v = every-append inner (name_of f) (61 ∷ value_text f n) (name-inner f) (value-inner f n v)

-- the same field with the same number
record SameField (f g : Field) (m n : ℕ) : Type 0 where
  field : f ≡ g
  number : m ≡ n

field-same : (f g : Field) (m n : ℕ) → IsValue f m → IsValue g n → field_text f m ≡ field_text g n → SameField f g m n
field-same f g m n v w e =
    let r = cut in_name (name_of f) (name_of g) (61 ∷ value_text f m) (61 ∷ value_text g n) (name-plain f) (name-plain g) refl refl e in
    let field = name-same f g r.0 in
    let values = rest 61 61 (value_text f m) (value_text g n) r.1 in
    record { field = field; number = value-same f m n v (subst (λ (h : Field). IsValue h n) (sym field) w) (values ∙ ap (λ (h : Field). value_text h n) (sym field)) }

-- ---- lists of fields

-- the same fields, with the same numbers
pub record Agree (q r : Packet) (fs gs : List Field) : Type 0 where
  pub fields : fs ≡ gs
  pub numbers : (f : Field) → IsIn fs f → get q f ≡ get r f

inner-list : (c : ℕ) → inner c ≡ true → in_list c ≡ true
inner-list c h = and-left (in_list c) (in_braces c) h

inner-braces : (c : ℕ) → inner c ≡ true → in_braces c ≡ true
inner-braces c h = and-right (in_list c) (in_braces c) h

more-stops : (q : Packet) (fs : List Field) → stops in_list (more_fields q fs) ≡ true
more-stops q [] = refl
more-stops q (f ∷ fs) = refl

more-braces : (q : Packet) (fs : List Field) → IsInRange q → every in_braces (more_fields q fs) ≡ true
more-braces q [] k = refl
more-braces q (f ∷ fs) k = every-append in_braces (field_text f (get q f)) (more_fields q fs) (every-weaker inner in_braces inner-braces (field_text f (get q f)) (field-inner f (get q f) (k f))) (more-braces q fs k)

agree-more : (q r : Packet) (f g : Field) (fs gs : List Field) → f ≡ g → get q f ≡ get r g → Agree q r fs gs → Agree q r (f ∷ fs) (g ∷ gs)
agree-more q r f g fs gs d e a = record {
  fields = λ i. d i ∷ a.fields i;
  numbers = λ h m. elim m [ inl k ↦ subst (λ (x : Field). get q x ≡ get r x) k (e ∙ ap (get r) (sym d)) | inr k ↦ a.numbers h k ];
}

-- a field and more
row-parts : (q r : Packet) → IsInRange q → IsInRange r → (f g : Field) (fs gs : List Field) → field_text f (get q f) ++ more_fields q fs ≡ field_text g (get r g) ++ more_fields r gs → SameField f g (get q f) (get r g) × (more_fields q fs ≡ more_fields r gs)
row-parts q r k l f g fs gs e =
    let a = cut in_list (field_text f (get q f)) (field_text g (get r g)) (more_fields q fs) (more_fields r gs)
    (every-weaker inner in_list inner-list (field_text f (get q f)) (field-inner f (get q f) (k f)))
    (every-weaker inner in_list inner-list (field_text g (get r g)) (field-inner g (get r g) (l g))) (more-stops q fs) (more-stops r gs) e in
    (field-same f g (get q f) (get r g) (k f) (l g) a.0, a.1)

more-same : (q r : Packet) → IsInRange q → IsInRange r → (fs gs : List Field) → more_fields q fs ≡ more_fields r gs → Agree q r fs gs
more-same q r k l [] [] e = record { fields = refl; numbers = λ f m. absurd m }
more-same q r k l [] (g ∷ gs) e = absurd (cc)
more-same q r k l (f ∷ fs) [] e = absurd (cc)
more-same q r k l (f ∷ fs) (g ∷ gs) e =
    let a = row-parts q r k l f g fs gs (rest 44 44 _ _ e) in
    agree-more q r f g fs gs a.0.field a.0.number (more-same q r k l fs gs a.1)

row-same : (q r : Packet) → IsInRange q → IsInRange r → (f g : Field) (fs gs : List Field) → field_text f (get q f) ++ more_fields q fs ≡ field_text g (get r g) ++ more_fields r gs → Agree q r (f ∷ fs) (g ∷ gs)
row-same q r k l f g fs gs e =
    let a = row-parts q r k l f g fs gs e in
    agree-more q r f g fs gs a.0.field a.0.number (more-same q r k l fs gs a.1)

-- ---- in braces

row-braces : (q : Packet) (f : Field) (fs : List Field) → IsInRange q → every in_braces (field_text f (get q f) ++ more_fields q fs) ≡ true
row-braces q f fs k = every-append in_braces (field_text f (get q f)) (more_fields q fs) (every-weaker inner in_braces inner-braces (field_text f (get q f)) (field-inner f (get q f) (k f))) (more-braces q fs k)

braced-is : (q : Packet) (f : Field) (fs : List Field) (u : List ℕ) → braced q (f ∷ fs) ++ u ≡ 123 ∷ ((field_text f (get q f) ++ more_fields q fs) ++ (125 ∷ u))
braced-is q f fs u =
    ap (λ (xs : List ℕ). 123 ∷ (xs ++ u)) (sym (append_assoc (field_text f (get q f)) (more_fields q fs) (125 ∷ [])))
    ∙ ap (λ (xs : List ℕ). 123 ∷ xs) (append_assoc (field_text f (get q f) ++ more_fields q fs) (125 ∷ []) u)

-- what comes after a step does not begin with a brace
no-brace : (u v : List ℕ) → stops in_step u ≡ true → u ≡ 123 ∷ v → ⊥
no-brace u v t e = let s : false ≡ true = subst (λ (xs : List ℕ). stops in_step xs ≡ true) e t in false≢true s

pub braces-same : (q r : Packet) → IsInRange q → IsInRange r → (fs gs : List Field) (u v : List ℕ) → stops in_step u ≡ true → stops in_step v ≡ true → braced q fs ++ u ≡ braced r gs ++ v → Agree q r fs gs × (u ≡ v)
braces-same q r k l [] [] u v s t e = (record { fields = refl; numbers = λ f m. absurd m }, e)
braces-same q r k l [] (g ∷ gs) u v s t e = absurd (no-brace u _ s (e ∙ braced-is r g gs v))
braces-same q r k l (f ∷ fs) [] u v s t e = absurd (no-brace v _ t (sym e ∙ braced-is q f fs u))
braces-same q r k l (f ∷ fs) (g ∷ gs) u v s t e =
    let a = cut in_braces (field_text f (get q f) ++ more_fields q fs) (field_text g (get r g) ++ more_fields r gs) (125 ∷ u) (125 ∷ v) (row-braces q f fs k) (row-braces r g gs l) refl refl
    (rest 123 123 _ _ (sym (braced-is q f fs u) ∙ e ∙ braced-is r g gs v)) in
    (row-same q r k l f g fs gs a.0, rest 125 125 u v a.1)

-- and neither with a digit
pub braces-stop : (q : Packet) (fs : List Field) (u : List ℕ) → stops in_step u ≡ true → stops digit (braced q fs ++ u) ≡ true
braces-stop q [] u s = step-stops u s
  where
    step-stops : (u : List ℕ) → stops in_step u ≡ true → stops digit u ≡ true
    step-stops [] s = refl
    step-stops (c ∷ cs) s = split (c == 62) refl s
      where
        split : (b : Bool) → (c == 62) ≡ b → not (not b) ≡ true → not (digit c) ≡ true
        split true e s = subst (λ (d : ℕ). not (digit d) ≡ true) (sym ((Decides-eqb c 62).0 e)) refl
        split false e s = absurd (false≢true s)
braces-stop q (f ∷ fs) u s = refl
