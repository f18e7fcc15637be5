-- What is known of a line without a fault.
use Rattle.std.proofs.Common.{◌≡◌, ℕ, ◌<◌, ◌≤◌, Bool, true, false, cond, not, nat_le, nat_lt, ◌&&◌, ◌||◌, List, length, refl, Option, Some, None, is_some, arith}
use Rattle.std.proofs.lemmas.Bool.Decides.{nat_tests}
use Rattle.topology_model.specs.Layouts.{Layout, location_of, has_switch, has_port, same_location, far_end}
use Rattle.topology_model.specs.Lines.{line_fault, has_repeat}
use Rattle.topology_model.specs.declared.line.TopoLine.TheVariants.{Switch, Link}
use Rattle.nk_values.specs.declared.text_fault.TextFault.{TextFault}

passed : (b : Bool) (f : TextFault) (o : Option TextFault) → cond b (Some f) o ≡ None → (b ≡ false) × (o ≡ None)
passed true f o e = absurd (cc)
passed false f o e = (refl, e)

or-left : (a b : Bool) → (a || b) ≡ false → a ≡ false
or-left true b e = e
or-left false b e = refl

or-right : (a b : Bool) → (a || b) ≡ false → b ≡ false
or-right true b e = absurd (cc)
or-right false b e = e

both-left : (a b : Bool) → not (a && b) ≡ false → a ≡ true
both-left true b e = refl
both-left false b e = absurd (cc)

both-right : (a b : Bool) → not (a && b) ≡ false → b ≡ true
both-right true true e = refl
both-right true false e = absurd (cc)
both-right false b e = absurd (cc)

no_more : (n : ℕ) → nat_le 256 n ≡ false → n < 256
no_more n e = grind (arith, nat_tests)

at_most : (n : ℕ) → nat_lt 256 n ≡ false → n ≤ 256
at_most n e = grind (arith, nat_tests)

pub record IsNewSwitch (t : Layout) (sw : ℕ) (ports : List ℕ) : Type 0 where
  pub new : has_switch t.switches sw ≡ false
  pub room : length t.switches < 256
  pub few : length ports ≤ 256
  pub differ : has_repeat ports ≡ false

pub record IsNewLink (t : Layout) (a b : ℕ × ℕ) : Type 0 where
  pub from : has_port t.switches (location_of a) ≡ true
  pub to : has_port t.switches (location_of b) ≡ true
  pub free_from : is_some (far_end t.links (location_of a)) ≡ false
  pub free_to : is_some (far_end t.links (location_of b)) ≡ false
  pub apart : same_location (location_of a) (location_of b) ≡ false

pub new_switch : (t : Layout) (sw : ℕ) (ports : List ℕ) → line_fault t (Switch sw ports) ≡ None → IsNewSwitch t sw ports
new_switch t sw ports e =
    let p = passed _ _ _ e in
    let q = passed _ _ _ p.1 in
    let r = passed _ _ _ q.1 in
    record {
      new = p.0;
      room = no_more (length t.switches) (or-left (nat_le 256 (length t.switches)) (nat_lt 256 (length ports)) q.0);
      few = at_most (length ports) (or-right (nat_le 256 (length t.switches)) (nat_lt 256 (length ports)) q.0);
      differ = r.0;
    }

pub new_link : (t : Layout) (a b : ℕ × ℕ) → line_fault t (Link a b) ≡ None → IsNewLink t a b
new_link t a b e =
    let p = passed _ _ _ e in
    let q = passed _ _ _ p.1 in
    let r = passed _ _ _ q.1 in
    record {
      from = both-left _ _ q.0;
      to = both-right _ _ q.0;
      free_from = or-left _ _ (or-left _ _ r.0);
      free_to = or-right _ _ (or-left _ _ r.0);
      apart = or-right _ _ r.0;
    }
