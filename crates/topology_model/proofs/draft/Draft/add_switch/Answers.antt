use Rattle.std.proofs.Common.{◌≡◌, ℕ, nat_eq, ◌==◌, ◌&&◌, List, [], ◌∷◌, ◌++◌, length, sym, ap, ◌∙◌, subst, cond, Some, None, is_some, arith}
use Rattle.std.specs.HashMap.{get}
use Rattle.std.specs.List.{list_any}
use Rattle.topology_model.specs.Drafts.{layout}
use Rattle.topology_model.specs.Ends.{entry}
use Rattle.topology_model.specs.Layouts.{Layout, location_of, place_in, has_port}
use Rattle.topology_model.specs.Lines.{line_fault}
use Rattle.topology_model.specs.Wired.{IsSound}
use Rattle.topology_model.specs.declared.line.DeclaredSwitch.{DeclaredSwitch}
use Rattle.topology_model.specs.declared.line.TopoLine.TheVariants.{Switch}
use Rattle.topology_model.proofs.Refused.{new_switch}
use Rattle.topology_model.proofs.Switching.{placed, live, far, sound}
use Rattle.topology_model.proofs.draft.Draft.add_switch.Goals as goal

pub invariant_of-self-2 : goal.invariant_of-self-2
invariant_of-self-2 c =
    let sw = c.args.sw in
    let ports = c.args.ports.now in
    let t = layout c.self.inside in
    let old = c.self.invariant in
    let n = new_switch t sw ports (subst (λ (x : Layout). line_fault x (Switch sw ports) ≡ None) (sym c.self.view_is) c.requires.faultless) in
    let items : t.switches ++ record { sw = sw; ports = ports } ∷ [] ≡ c.push_reserved.new.self.items =
    sym (c.push_reserved.ensures.items ∙ ap (λ (ss : List DeclaredSwitch). ss ++ record { sw = sw; ports = c.in_ok-copied.field-0 } ∷ []) c.in_ok-make_room.ensures.switches ∙ ap (λ (p : List ℕ). t.switches ++ record { sw = sw; ports = p } ∷ []) c.in_ok-copied.ensures) in
    let len : c.len.result ≡ length t.switches = omega (arith, c.len.ensures, c.make_room.new.switches.ok.0, ap length c.in_ok-make_room.ensures.switches) in
    let put : (q : ℕ) → get nat_eq c.put_place.new.places q ≡ cond (nat_eq sw q) (Some (length t.switches)) (get nat_eq c.self.inside.places q) =
    λ q. c.put_place.ensures q ∙ ap (λ k. cond (nat_eq sw q) (Some k) (get nat_eq c.make_room.new.places q)) len ∙ ap (λ o. cond (nat_eq sw q) (Some (length t.switches)) o) (c.in_ok-make_room.ensures.places q) in
    let ends : (e : ℕ × ℕ) → entry c.put_edges.new.far_ends e ≡ cond (sw == e.0 && list_any (λ k. k == e.1) ports) (Some None) (entry c.self.inside.far_ends e) =
    λ e. c.put_edges.ensures e ∙ ap (λ (ps : List ℕ). cond (sw == e.0 && list_any (λ k. k == e.1) ps) (Some None) (entry c.make_room.new.far_ends e)) c.as_slice-2.ensures ∙ ap (λ o. cond (sw == e.0 && list_any (λ k. k == e.1) ports) (Some None) o) (c.in_ok-make_room.ensures.ends e) in
    record {
      places = subst (λ (s : List DeclaredSwitch). (q : ℕ) → get nat_eq c.put_place.new.places q ≡ place_in s q) items (placed t.switches sw ports (get nat_eq c.self.inside.places) (get nat_eq c.put_place.new.places) n.new old.places put);
      live = subst (λ (s : List DeclaredSwitch). (e : ℕ × ℕ) → is_some (entry c.put_edges.new.far_ends e) ≡ has_port s (location_of e)) items (live t.switches sw ports (entry c.self.inside.far_ends) (entry c.put_edges.new.far_ends) old.live ends);
      far = far t.switches sw ports t.links (entry c.self.inside.far_ends) (entry c.put_edges.new.far_ends) n.new old.live old.far ends;
      sound = subst (λ (s : List DeclaredSwitch). IsSound (record { switches = s; links = t.links })) items (sound t sw ports old.sound c.requires.in_range n);
    }
