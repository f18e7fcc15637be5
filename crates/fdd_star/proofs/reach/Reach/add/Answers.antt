use Rattle.std.proofs.Common.{List, [], ◌∷◌, ◌++◌, ap, ◌∙◌, refl, subst, Bool}
use Rattle.nk_values.specs.declared.lit.Lit.{Lit}
use Rattle.fdd_star.specs.Marks.{PutsNumber}
use Rattle.fdd_star.specs.Reaches.{reached_copies}
use Rattle.fdd_star.proofs.NumberLaws.{noted_new, noted_old}
use Rattle.fdd_star.proofs.reach.Reach.add.Goals as goal

pub returns-in_ok-push : goal.returns-in_ok-push
returns-in_ok-push c =
    let copies = c.in_ok-push.ensures.items ∙ ap (λ (x : List Lit). reached_copies c.args.self.now ++ x ∷ []) c.in_ok-both.ensures.after in
    noted_new _ _ _ _ _ (subst (λ (b : Bool). PutsNumber c.args.next.now.number b c.args.self.now.numbers c.insert.new.self) c.if-branch.true c.in_ok-insert.ensures) copies c.in_ok-both.ensures.copy refl

pub returns-else-branch : goal.returns-else-branch
returns-else-branch c = noted_old _ _ _ _ _ (subst (λ (b : Bool). PutsNumber c.args.next.now.number b c.args.self.now.numbers c.insert.new.self) c.if-branch.false c.in_ok-insert.ensures) refl refl
