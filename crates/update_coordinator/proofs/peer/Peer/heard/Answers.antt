use Rattle.std.proofs.Common.{◌≡◌, ◌∙◌, true, false, sym, ap, subst}
use Rattle.session_core.specs.declared.session.SessionState.{SessionState}
use Rattle.session_core.specs.declared.session.SessionState.TheVariants as state
use Rattle.session_core.specs.Sessions.{Standing, state_after}
use Rattle.session_core.specs.declared.session.Move.{Move}
use Rattle.update_coordinator.specs.Controls.{Peer}
use Rattle.update_coordinator.specs.Peers.{IsQuiet}
use Rattle.update_coordinator.proofs.Moves.{greeted_from}
use Rattle.update_coordinator.proofs.Hears.{fresh_quiet, quiet_after, present_gone}
use Rattle.update_coordinator.proofs.peer.Peer.heard.Goals as goal

pub invariant_of-self : goal.invariant_of-self
invariant_of-self c =
    let s = c.self.inside in
    let inv = c.self.invariant in
    let fresh : s.session.state ≡ state.Fresh = greeted_from s.session.state s.session.datapath c.args.message.now (sym c.take-answer.ensures.answer ∙ c.in-Greeted.is) in
    let now : c.take-answer.new.self.state ≡ state.Greeted = ap (λ (t : Standing). t.state) c.take-answer.ensures.moved ∙ ap (λ (x : Move). state_after s.session.state x) c.in-Greeted.is in
    let q = fresh_quiet s.session.state s.asks s.sends fresh inv.0 in
    let there : s.away ≡ false = ap (λ (t : Peer). t.away) c.self.view_is ∙ c.requires in
    (subst (λ (z : SessionState). IsQuiet z true s.sends) (sym now) q.1, present_gone s.away c.take-answer.new.self.state s.greets there)

pub invariant_of-self-in-Barrier : goal.invariant_of-self-in-Barrier
invariant_of-self-in-Barrier c =
    let s = c.self.inside in
    let inv = c.self.invariant in
    let now : c.take-answer.new.self.state ≡ state_after s.session.state c.take-answer.result = ap (λ (t : Standing). t.state) c.take-answer.ensures.moved in
    let there : s.away ≡ false = ap (λ (t : Peer). t.away) c.self.view_is ∙ c.requires in (
      subst (λ (z : SessionState). IsQuiet z s.asks s.sends) (sym now) (quiet_after s.session.state c.take-answer.result s.asks s.sends c.in-Barrier.is inv.0),
      present_gone s.away c.take-answer.new.self.state s.greets there,
    )
