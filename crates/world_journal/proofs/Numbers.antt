-- Names of pairs: the place of a switch, and the number of its session.
use Rattle.std.proofs.Common.{◌≡◌, ℕ, ◌+◌, ◌*◌, ◌/◌, ◌%◌, ◌<◌, sym, ap, ◌∙◌}
use Rattle.std.proofs.lemmas.Nat.{div-mul-add, mod-mul-add, div-add-mod'}
use Rattle.world_journal.specs.Journals.{name_of}

-- what a name tells
pub name-place : (n s number : ℕ) → s < n → name_of n s number % n ≡ s
name-place n s number l = mod-mul-add number n s l

pub name-number : (n s number : ℕ) → s < n → name_of n s number / n ≡ number
name-number n s number l = div-mul-add number n s l

-- it is told by both
pub name-is : (n s number name : ℕ) → name % n ≡ s → name / n ≡ number → name ≡ name_of n s number
name-is n s number name place is = sym (div-add-mod' name n) ∙ ap (λ k. k * n + name % n) is ∙ ap (λ r. number * n + r) place
