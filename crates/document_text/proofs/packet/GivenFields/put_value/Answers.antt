use Rattle.std.proofs.Common.{refl, sym, ◌∙◌}
use Rattle.netkat_parser.specs.Numbers.{number}
use Rattle.document_text.specs.Answers.{given_of}
use Rattle.document_text.proofs.Ranged.{great-outside, none-of}
use Rattle.document_text.proofs.packet.GivenFields.put_value.Goals as goal

pub returns-then-not-has_form : goal.returns-then-not-has_form
returns-then-not-has_form c =
    (rw (none-of (number c.args.field c.args.run.now) (sym c.has_form.ensures ∙ c.if-not-has_form.true)) refl, refl)

pub returns-else-not-has_form : goal.returns-else-not-has_form
returns-else-not-has_form c =
    great-outside (given_of c.args.self.now) c.args.field (number c.args.field c.args.run.now) c.in-None.ensures (sym c.has_form.ensures ∙ c.if-not-has_form.false)
