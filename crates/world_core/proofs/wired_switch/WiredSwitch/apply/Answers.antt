use Rattle.std.proofs.Common.{All, List, [], ◌∷◌, ◌++◌, Option, None, Some, IfSome, sym, ◌∙◌, ap, subst}
use Rattle.std.proofs.lemmas.List.Elements.{All-push}
use Rattle.openflow_wire.specs.declared.message.Message.{Message}
use Rattle.openflow_wire.specs.Writing.{Fits}
use Rattle.switch_model.specs.Switches.{IsApplied}
use Rattle.world_core.proofs.Sessions.{untold, dropped-told, sent-told}
use Rattle.world_core.proofs.wired_switch.WiredSwitch.apply.Goals as goal

pub returns-in-Ok-None-clause-ok : goal.returns-in-Ok-None-clause-ok
returns-in-Ok-None-clause-ok c = rw (← c.self.view_is) (record {
  switch = c.apply.new.self;
  answer = None;
  step = subst (λ (a : Option Message). IsApplied c.args.place c.self.inside.switch c.apply.new.self a) c.in-Ok-None.field-0-is c.in-Ok-None.ensures.ok;
  now = λ i. record { there = c.self.inside.there.items; back = (c.reserve.ensures.items ∙ sym (untold c.args.away c.self.inside.back.items)) i; switch = c.apply.new.self };
})

pub returns-then-away-clause-ok : goal.returns-then-away-clause-ok
returns-then-away-clause-ok c = rw (← c.self.view_is) (record {
  switch = c.apply.new.self;
  answer = Some c.in-Ok-Some.answer;
  step = subst (λ (a : Option Message). IsApplied c.args.place c.self.inside.switch c.apply.new.self a) c.in-Ok-Some.field-0-is c.in-Ok-Some.ensures.ok;
  now = λ i. record { there = c.self.inside.there.items; back = (c.reserve.ensures.items ∙ sym (dropped-told c.args.away c.in-Ok-Some.answer c.self.inside.back.items c.if-away.true)) i; switch = c.apply.new.self };
})

pub returns-else-away-clause-ok : goal.returns-else-away-clause-ok
returns-else-away-clause-ok c = rw (← c.self.view_is) (record {
  switch = c.apply.new.self;
  answer = Some c.in-Ok-Some.answer;
  step = subst (λ (a : Option Message). IsApplied c.args.place c.self.inside.switch c.apply.new.self a) c.in-Ok-Some.field-0-is c.in-Ok-Some.ensures.ok;
  now = λ i. record {
    there = c.self.inside.there.items;
    back = (c.push_back_reserved.ensures.items ∙ ap (λ (xs : List Message). xs ++ c.in-Ok-Some.answer ∷ []) c.reserve.ensures.items ∙ sym (sent-told c.args.away c.in-Ok-Some.answer c.self.inside.back.items c.if-away.false)) i;
    switch = c.apply.new.self;
  };
})

pub invariant_of-self-in-Ok-Some : goal.invariant_of-self-in-Ok-Some
invariant_of-self-in-Ok-Some c = (
  c.self.invariant.0,
  subst (All Fits) (sym c.push_back_reserved.ensures.items) (All-push Fits _ _ (subst (All Fits) (sym c.reserve.ensures.items) c.self.invariant.1)
      (subst (λ (a : Option Message). IfSome a Fits) c.in-Ok-Some.field-0-is c.in-Ok-Some.ensures.fits)),
)
