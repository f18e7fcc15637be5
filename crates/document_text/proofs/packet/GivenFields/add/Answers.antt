use Rattle.std.proofs.Common.{refl, sym, ◌∙◌, subst}
use Rattle.document_text.specs.Answers.{given_of, GivesValues}
use Rattle.document_text.proofs.Named.{any-names, names-insert, word-again, word-new}
use Rattle.document_text.proofs.packet.GivenFields.add.Goals as goal

pub returns-then-contains : goal.returns-then-contains
returns-then-contains c = (
  word-again (given_of c.args.self.now) c.args.word.now (c.in_ok-name.name.now, c.in_ok-name.run'.now) c.in_ok-name.ensures
      (sym (any-names c.in_ok-name.name c.args.self.now.names.keys) ∙ sym c.contains.ensures ∙ c.if-contains.true),
  refl,
)

pub returns : goal.returns
returns c =
    let new = sym c.contains.ensures ∙ c.if-contains.false in
    subst (λ o. GivesValues o (given_of c.put.new.self) c.put.result)
    (sym (word-new (given_of c.args.self.now) c.args.word.now (c.in_ok-name.name.now, c.in_ok-name.run'.now) _ c.in_ok-name.ensures
    (sym (any-names c.in_ok-name.name c.args.self.now.names.keys) ∙ new)
    (names-insert c.in_ok-name.name c.args.self.now.names.keys _ c.in_ok-insert.ensures.keys new)))
    c.put.ensures
