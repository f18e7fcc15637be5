-- The words of a packet line, one after another.
use Rattle.std.proofs.Common.{◌≡◌, ℕ, Bool, true, false, cond, List, [], ◌∷◌, ◌++◌, Some, None, refl, ap, ◌∙◌}
use Rattle.std.proofs.lemmas.List.{map-append}
use Rattle.std.specs.Borrow.{Bor}
use Rattle.std.specs.List.{list_any}
use Rattle.std.specs.Str.{bytes_eq}
use Rattle.indexmap.specs.IndexSet.{insert_key}
use Rattle.document_text.specs.Packets.{GivenFields, pair_of, with_word, with_named}
use Rattle.document_text.specs.Answers.{texts}

abbrev Names : Type 0
Names = List (Bor (List ℕ))

abbrev same : Bor (List ℕ) → Bor (List ℕ) → Bool
same a b = bytes_eq a.now b.now

pub any-names : (n : Bor (List ℕ)) (ks : Names) → list_any (same n) ks ≡ list_any (bytes_eq n.now) (texts ks)
any-names n [] = refl
any-names n (k ∷ ks) = rw (any-names n ks) refl

inserted : (ks : Names) (n : Bor (List ℕ)) (b : Bool) → b ≡ false → cond b ks (ks ++ n ∷ []) ≡ ks ++ n ∷ []
inserted ks n b e = rw e refl

-- a new name goes last
pub names-insert : (n : Bor (List ℕ)) (ks ks' : Names) → ks' ≡ insert_key same ks n → list_any (same n) ks ≡ false → texts ks' ≡ texts ks ++ n.now ∷ []
names-insert n ks ks' e new = ap texts (e ∙ inserted ks n (list_any (same n) ks) new) ∙ map-append (λ (w : Bor (List ℕ)). w.now) ks (n ∷ [])

-- a name that was there before
pub word-again : (g : GivenFields) (w : List ℕ) (p : List ℕ × List ℕ) → pair_of w ≡ Some p → list_any (bytes_eq p.0) g.names ≡ true → with_word g w ≡ None
word-again g w p e h = rw (e, h) refl

pub word-new : (g : GivenFields) (w : List ℕ) (p : List ℕ × List ℕ) (ks : List (List ℕ)) → pair_of w ≡ Some p → list_any (bytes_eq p.0) g.names ≡ false → ks ≡ g.names ++ p.0 ∷ []
    → with_word g w ≡ with_named (record g { names = ks }) p.0 p.1
word-new g w p ks e h k = rw (e, h, k) refl
