use Rattle.std.proofs.Common.{◌≡◌, ℕ, List, [], ◌∷◌, ◌++◌, sym, ap, ◌∙◌, subst, cond, Some, None, option_map}
use Rattle.std.specs.List.{flat_map}
use Rattle.std.specs.Option.{option_flatten}
use Rattle.std.proofs.lemmas.List.Concat.{flat_map-append}
use Rattle.history_meaning.specs.Network.{Location}
use Rattle.topology_model.specs.Drafts.{layout}
use Rattle.topology_model.specs.Ends.{entry, same_end}
use Rattle.topology_model.specs.Layouts.{Layout, location_of, both_ways, far_end}
use Rattle.topology_model.specs.Lines.{line_fault}
use Rattle.topology_model.specs.Wired.{IsSound}
use Rattle.topology_model.specs.declared.line.TopoLine.TheVariants.{Link}
use Rattle.topology_model.proofs.Refused.{new_link}
use Rattle.topology_model.proofs.Linking.{live, far, sound}
use Rattle.topology_model.proofs.draft.Draft.add_link.Goals as goal

pub invariant_of-self-2 : goal.invariant_of-self-2
invariant_of-self-2 c =
    let a = c.args.a in
    let b = c.args.b in
    let t = layout c.self.inside in
    let old = c.self.invariant in
    let n = new_link t a b (subst (λ (x : Layout). line_fault x (Link a b) ≡ None) (sym c.self.view_is) c.requires.faultless) in
    let links : t.links ++ (location_of a, location_of b) ∷ (location_of b, location_of a) ∷ [] ≡ flat_map both_ways c.push_reserved.new.self.items =
    sym (ap (flat_map both_ways) (c.push_reserved.ensures.items ∙ ap (λ (ls : List ((ℕ × ℕ) × (ℕ × ℕ))). ls ++ (a, b) ∷ []) c.in_ok-reserve.ensures.items) ∙ flat_map-append both_ways c.self.inside.links.items ((a, b) ∷ [])) in
    let ends : (e : ℕ × ℕ) → entry c.join-2.new.far_ends e ≡ cond (same_end b e) (Some (Some a)) (cond (same_end a e) (Some (Some b)) (entry c.self.inside.far_ends e)) =
    λ e. c.join-2.ensures e ∙ ap (λ o. cond (same_end b e) (Some (Some a)) o) (c.join.ensures e) in
    record {
      places = old.places;
      live = live t.switches a b (entry c.self.inside.far_ends) (entry c.join-2.new.far_ends) n.from n.to old.live ends;
      far = subst (λ (ls : List (Location × Location)). (e : ℕ × ℕ) → option_map location_of (option_flatten (entry c.join-2.new.far_ends e)) ≡ far_end ls (location_of e)) links
          (far t a b (entry c.self.inside.far_ends) (entry c.join-2.new.far_ends) n old.far ends);
      sound = subst (λ (ls : List (Location × Location)). IsSound (record { switches = t.switches; links = ls })) links (sound t a b old.sound n);
    }
