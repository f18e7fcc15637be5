-- Copies that actions can make, one by one and as a whole.
use Rattle.std.proofs.Common.{inl, inr, refl, subst, List, [], ◌∷◌}
use Rattle.nk_values.specs.declared.lit.Lit.{Lit}
use Rattle.nk_values.specs.Lits.{lit_field}
use Rattle.nk_values.specs.Members.{IsIn}
use Rattle.fdd_nodes.specs.Trees.{IsSetBy}
use Rattle.fdd_nodes.proofs.MakesLaws.{among_lists}
use Rattle.nk_values.specs.Acts.{IsSettable}
use Rattle.leaf_actions.specs.Settable.{AreSettable, CopyCanBeSet, CopiesCanBeSet}

copy_each : (c : List Lit) → CopyCanBeSet c → (m : Lit) → IsIn c m → IsSettable (lit_field m)
copy_each [] h m k = absurd k
copy_each (l ∷ c) h m (inl e) = subst (λ (x : Lit). IsSettable (lit_field x)) e h.0
copy_each (l ∷ c) h m (inr k) = copy_each c h.1 m k

copy_all : (c : List Lit) → ((m : Lit) → IsIn c m → IsSettable (lit_field m)) → CopyCanBeSet c
copy_all [] h = tt
copy_all (l ∷ c) h = (h l (inl refl), copy_all c (λ m k. h m (inr k)))

each : (cs : List (List Lit)) → CopiesCanBeSet cs → (m : Lit) → IsSetBy cs m → IsSettable (lit_field m)
each [] h m k = absurd k
each (c ∷ cs) h m (inl k) = copy_each c h.0 m k
each (c ∷ cs) h m (inr k) = each cs h.1 m k

pub settable_of : (cs : List (List Lit)) → CopiesCanBeSet cs → AreSettable cs
settable_of cs h = record { each = each cs h }

pub of_settable : (cs : List (List Lit)) → AreSettable cs → CopiesCanBeSet cs
of_settable [] h = tt
of_settable (c ∷ cs) h = (copy_all c (λ m k. h.each m (inl k)), of_settable cs (record { each = λ m k. h.each m (inr k) }))

-- each of the copies
pub one_settable : (cs : List (List Lit)) (c : List Lit) → AreSettable cs → IsIn cs c → CopyCanBeSet c
one_settable cs c h k = copy_all c (λ m i. h.each m (among_lists cs c m k i))
