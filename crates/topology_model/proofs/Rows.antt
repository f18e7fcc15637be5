-- The terms of policies in a row.
use Rattle.std.proofs.Common.{◌≡◌, ℕ, ◌≤◌, List, length, take, map, ap, ◌∙◌, rules}
use Rattle.std.specs.declared.vec.Vec.{Vec}
use Rattle.std.specs.declared.alloc.Global.{Global}
use Rattle.std.specs.List.{flat_map}
use Rattle.std.proofs.lemmas.List.{take_all}
use Rattle.history_meaning.specs.Network.{at, along, edge_term, link_term}
use Rattle.topology_model.specs.Layouts.{Layout, location_of, both_ways, edges_of, wiring}
use Rattle.nk_syntax.specs.Terms as to
use Rattle.nk_syntax.specs.Views.{term_of, terms_of, term_row}
use Rattle.nk_syntax.specs.declared.pol.Pol.{Pol}
use Rattle.nk_syntax.specs.declared.pol.Pols.{roll-Pols}
use Rattle.nk_syntax.specs.declared.pol.Pol.TheVariants as pol
use Rattle.nk_syntax.proofs.Equations.{term_of-sum, term_of-seq}

row_of : (v : Vec Pol Global) → terms_of (roll-Pols (record { items = v })) ≡ term_row (map term_of v.items)
row_of v = search rules

-- of a sum
pub sum_of-row : (v : Vec Pol Global) → term_of (pol.Sum (roll-Pols (record { items = v }))) ≡ to.Sum (term_row (map term_of v.items))
sum_of-row v = term_of-sum (roll-Pols (record { items = v })) ∙ ap to.Sum (row_of v)

-- of a sequence
pub seq_of-row : (v : Vec Pol Global) → term_of (pol.Seq (roll-Pols (record { items = v }))) ≡ to.Seq (term_row (map term_of v.items))
seq_of-row v = term_of-seq (roll-Pols (record { items = v })) ∙ ap to.Seq (row_of v)

-- of all edge ports, and of all links
pub edge_sum : (v : Vec Pol Global) (t : Layout) (es : List (ℕ × ℕ)) (i : ℕ) → map term_of v.items ≡ map at (map location_of (take i es)) → length es ≤ i → map location_of es ≡ edges_of t →
    term_of (pol.Sum (roll-Pols (record { items = v }))) ≡ edge_term (wiring t)
edge_sum v t es i h le e =
    sum_of-row v ∙ ap (λ (ts : List to.Term). to.Sum (term_row ts)) (h ∙ ap (λ (xs : List (ℕ × ℕ)). map at (map location_of xs)) (take_all i es le) ∙ ap (map at) e)

pub link_sum : (v : Vec Pol Global) (t : Layout) (ls : List ((ℕ × ℕ) × (ℕ × ℕ))) (i : ℕ) → map term_of v.items ≡ map along (flat_map both_ways (take i ls)) → length ls ≤ i →
    flat_map both_ways ls ≡ t.links → term_of (pol.Sum (roll-Pols (record { items = v }))) ≡ link_term (wiring t)
link_sum v t ls i h le e =
    sum_of-row v ∙ ap (λ (ts : List to.Term). to.Sum (term_row ts)) (h ∙ ap (λ (xs : List ((ℕ × ℕ) × (ℕ × ℕ))). map along (flat_map both_ways xs)) (take_all i ls le) ∙ ap (map along) e)

pub ruleset rows = (sum_of-row, seq_of-row)
