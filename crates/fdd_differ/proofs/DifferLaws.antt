-- Where cells in which diagrams part are filled with unnamed values.
use Rattle.std.proofs.Common.{◌≡◌, sym, subst, ◌++◌}
use Rattle.nk_values.specs.declared.packet.Packet.{Packet}
use Rattle.nk_values.proofs.MemberLaws.{in-left, in-right}
use Rattle.fdd_nodes.specs.Cells.{whole_cell, Alike, IsFresh, fill, Parts}
use Rattle.fdd_nodes.specs.Names.{literals}
use Rattle.fdd_nodes.specs.Trees.{Tree, IsOrderedFrom}
use Rattle.fdd_nodes.proofs.CellLaws.{fill_in_range, open_valid, open_agrees}
use Rattle.fdd_nodes.proofs.NameLaws.{tests_literal, assigns_literal}
use Rattle.fdd_differ.specs.Differ.{AreAlike, Shows}
use Rattle.fdd_differ.specs.Unnamed.{IsFreshOf}

pub fresh_a : (a b : Tree) (g : Packet) → IsFreshOf (literals a ++ literals b) g → IsFresh g a
fresh_a a b g h = record {
  tested = λ m k. h.missing m (in-left (literals a) (literals b) m (tests_literal a m k));
  assigned = λ m k. h.missing m (in-left (literals a) (literals b) m (assigns_literal a m k));
}

pub fresh_b : (a b : Tree) (g : Packet) → IsFreshOf (literals a ++ literals b) g → IsFresh g b
fresh_b a b g h = record {
  tested = λ m k. h.missing m (in-right (literals a) (literals b) m (tests_literal b m k));
  assigned = λ m k. h.missing m (in-right (literals a) (literals b) m (assigns_literal b m k));
}

pub alike_all : (a b : Tree) → Alike whole_cell a b → AreAlike a b
alike_all a b h = record { same = λ p r. h.same p (open_agrees p) }

pub shows_of : (a b : Tree) (q g : Packet) → IsOrderedFrom 0 a → IsOrderedFrom 0 b → Parts whole_cell a b q → IsFreshOf (literals a ++ literals b) g → Shows a b (fill q g)
shows_of a b q g oa ob h f = record {
  in_range = fill_in_range q g (h.valid open_valid) f.shaped.in_range;
  apart = h.differs 0 oa ob g (fresh_a a b g f) (fresh_b a b g f);
}

-- the same under other names
pub alike_named : (a a' b b' : Tree) (o : Packet) → a' ≡ a → b' ≡ b → o ≡ whole_cell → Alike o a' b' → AreAlike a b
alike_named a a' b b' o ea eb eo h =
    alike_all a b (subst (λ (t : Tree). Alike whole_cell a t) eb (subst (λ (t : Tree). Alike whole_cell t b') ea (subst (λ (d : Packet). Alike d a' b') eo h)))

pub shows_named : (a a' b b' : Tree) (o q g r : Packet) → a' ≡ a → b' ≡ b → o ≡ whole_cell → r ≡ fill q g → IsOrderedFrom 0 a → IsOrderedFrom 0 b → Parts o a' b' q → IsFreshOf (literals a' ++ literals b') g → Shows a b r
shows_named a a' b b' o q g r ea eb eo er oa ob h f =
    subst (λ (p : Packet). Shows a b p) (sym er)
    (shows_of a b q g oa ob
    (subst (λ (t : Tree). Parts whole_cell a t q) eb (subst (λ (t : Tree). Parts whole_cell t b' q) ea (subst (λ (d : Packet). Parts d a' b' q) eo h)))
    (subst (λ (t : Tree). IsFreshOf (literals a ++ literals t) g) eb (subst (λ (t : Tree). IsFreshOf (literals t ++ literals b') g) ea f)))
