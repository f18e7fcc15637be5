-- A text is a policy or has a fault, never both, and its fault is one.
use Rattle.std.proofs.Common.{◌≡◌, ℕ, List, ◌++◌, false, sym, ap, ◌∙◌, subst}
use Rattle.std.proofs.lemmas.List.{append_cancel_right}
use Rattle.nk_syntax.specs.Terms.{Term}
use Rattle.nk_values.specs.declared.text_fault.TextFault.{TextFault}
use Rattle.netkat_parser.specs.declared.fault.Position.{Position}
use Rattle.netkat_parser.specs.declared.fault.ParseFault.{ParseFault}
use Rattle.netkat_parser.specs.declared.sign.Sign.TheVariants.{End}
use Rattle.netkat_parser.specs.Signs.{sign}
use Rattle.netkat_parser.specs.Grammar.{Spot, Got, Read, Bad, ended_by, first_spot, IsPolicy, IsText}
use Rattle.netkat_parser.specs.Places.{position_after, HasFault}
use Rattle.netkat_parser.proofs.Unique.{reading-one}

pub whole-text : (text : List ℕ) (p : Term) (s : Spot) → IsPolicy 0 false (first_spot text) (Read p s) → sign s.text ≡ End → IsText text p
whole-text text p s h e = (s, (Read p s, h, sym (ap (ended_by p s) e)))

pub no-both : (begin : Position) (text : List ℕ) (p : Term) (f : ParseFault) → IsText text p → HasFault begin text f → ⊥
no-both begin text p f h k = let e = reading-one text (Read p h.0) (Bad f.fault k.at) h.1 k.first in cc

faults : (f g : TextFault) (at at' : List ℕ) → ◌≡◌ {A = Got Term} (Bad f at) (Bad g at') → f ≡ g
faults f g at at' e = cc

ats : (f g : TextFault) (at at' : List ℕ) → ◌≡◌ {A = Got Term} (Bad f at) (Bad g at') → at ≡ at'
ats f g at at' e = cc

pub fault-one : (begin : Position) (text : List ℕ) (f g : ParseFault) → HasFault begin text f → HasFault begin text g → f ≡ g
fault-one begin text f g h k =
    let e = reading-one text (Bad f.fault h.at) (Bad g.fault k.at) h.first k.first in
    let at = ats f.fault g.fault h.at k.at e in
    let front = append_cancel_right h.front k.front k.at (subst (λ (x : List ℕ). h.front ++ x ≡ text) at (sym h.parts) ∙ k.parts) in
    let position = sym h.position ∙ ap (position_after begin) front ∙ k.position in
    λ i. record { fault = faults f.fault g.fault h.at k.at e i; line = (position i).line; column = (position i).column }
