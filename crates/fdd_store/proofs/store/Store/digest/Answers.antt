use Rattle.std.proofs.Common.{sym, ap, ◌∙◌, subst, slice_get}
use Rattle.fdd_store.specs.Digests.{IsDigest, AreDigests}
use Rattle.fdd_store.specs.Stores.{tree_at}
use Rattle.fdd_store.proofs.DigestLaws.{digest_read}
use Rattle.fdd_store.proofs.store.Store.digest.Goals as goal

pub returns-clause-digest : goal.returns-clause-digest
returns-clause-digest c =
    let at = subst (λ k. AreDigests k c.self.inside.digests.items) c.self.view_is c.self.invariant.1 c.args.a c.requires in
    let there = ap (λ z. slice_get z c.place.result) c.deref.ensures.value ∙ ap (λ j. slice_get c.self.inside.digests.items j) c.place.ensures ∙ at.there in
    subst (IsDigest c.args.self.now c.args.a (tree_at c.args.self.now c.args.a)) (sym (digest_read c.deref.result.now c.place.result at.digest c.in-Some.digest.now c.in-Some.digest.now there c.in-Some.ensures.lookup.1)) at.right
