-- Chains of copies, and first pairs that are apart.
use Rattle.std.proofs.Common.{◌≡◌, ◌⊎◌, inl, inr, refl, ap, sym, ◌∙◌, Bool, true, false, List, [], ◌∷◌, Option, Some, None}
use Rattle.std.specs.Prelude.{◌&&◌, not, if◌then◌else◌}
use Rattle.nk_values.specs.declared.field.Field.{Field}
use Rattle.nk_values.specs.declared.lit.Lit.{Lit}
use Rattle.nk_values.specs.declared.packet.Packet.{Packet}
use Rattle.nk_values.specs.Members.{IsIn}
use Rattle.leaf_actions.specs.declared.fault.ActionsFault.{ActionsFault}
use Rattle.leaf_actions.specs.declared.route.Route.{Route}
use Rattle.leaf_actions.specs.Changes.{changes, Includes, first_of_fields, goes_beyond, first_beyond}
use Rattle.leaf_actions.specs.Laws.{ChainsHaveNoFirstPair, ListsExcludeFaults}
use Rattle.leaf_actions.specs.Listing.{IsChain, told_apart, apart, or_else, first_from, first_apart}
use Rattle.leaf_actions.specs.Routes.{routes_of}
use Rattle.leaf_actions.specs.Settable.{settable}
use Rattle.leaf_actions.proofs.Chained.{chain_of, climbs_of}
use Rattle.leaf_actions.proofs.Routed.{listing_rises, in_permuted, in_original}

-- a copy that another includes goes beyond it in no field
none_beyond : (p : Field → Bool) (fs : List Field) → ((f : Field) → IsIn fs f → p f ≡ false) → first_of_fields p fs ≡ None
none_beyond p [] h = refl
none_beyond p (f ∷ fs) h = ap (λ (b : Bool). if b then Some f else first_of_fields p fs) (h f (inl refl)) ∙ none_beyond p fs (λ g i. h g (inr i))

within : (a b : Bool) → (a ≡ true → b ≡ true) → a && not b ≡ false
within true true h = refl
within true false h = absurd (let e : false ≡ true = h refl in cc)
within false b h = refl

included : (x : Packet) (a b : List Lit) → Includes x a b → first_beyond x a b ≡ None
included x a b h = none_beyond (goes_beyond x a b) settable (λ f i. within (changes x a f) (changes x b f) (h.each f i))

no_second : (a b : Route) (o : Option Field) → told_apart a b o None ≡ None
no_second a b None = refl
no_second a b (Some f) = refl

together : (x : Packet) (a b : Route) → Includes x a.copy b.copy ⊎ Includes x b.copy a.copy → apart x a b ≡ None
together x a b (inl h) = ap (λ (o : Option Field). told_apart a b o (first_beyond x b.copy a.copy)) (included x a.copy b.copy h)
together x a b (inr h) = ap (λ (o : Option Field). told_apart a b (first_beyond x a.copy b.copy) o) (included x b.copy a.copy h) ∙ no_second a b (first_beyond x a.copy b.copy)

none_from : (x : Packet) (a : Route) (rs : List Route) → ((b : Route) → IsIn rs b → apart x a b ≡ None) → first_from x a rs ≡ None
none_from x a [] h = refl
none_from x a (b ∷ rs) h = ap (λ (o : Option ActionsFault). or_else o (first_from x a rs)) (h b (inl refl)) ∙ none_from x a rs (λ c i. h c (inr i))

none_apart : (x : Packet) (rs : List Route) → ((a b : Route) → IsIn rs a → IsIn rs b → apart x a b ≡ None) → first_apart x rs ≡ None
none_apart x [] h = refl
none_apart x (a ∷ rs) h = ap (λ (o : Option ActionsFault). or_else o (first_apart x rs)) (none_from x a rs (λ b i. h a b (inl refl) (inr i))) ∙ none_apart x rs (λ b c i j. h b c (inr i) (inr j))

pub chain_none : (x : Packet) (rs : List Route) → IsChain x rs → first_apart x rs ≡ None
chain_none x rs c = none_apart x rs (λ a b i j. together x a b (c.ordered a b i j))

pub exact : ChainsHaveNoFirstPair
exact v x cs rs l = (chain_none x rs, λ e. chain_of x x rs (climbs_of x rs (listing_rises v x cs rs l) e))

pub exclude : ListsExcludeFaults
exclude x v cs as' u list fault =
    let all = routes_of v x cs in
    let among : (r : Route) → IsIn fault.routes r → IsIn list.routes r = λ r i. in_permuted all list.routes r list.listing.all (in_original all fault.routes r fault.listing.all i) in
    let chain : IsChain x fault.routes = record { ordered = λ a b i j. list.chain.ordered a b (among a i) (among b j) } in
    let none = chain_none x fault.routes chain in
    let clash : Some u ≡ None = sym fault.first ∙ none in
    cc
