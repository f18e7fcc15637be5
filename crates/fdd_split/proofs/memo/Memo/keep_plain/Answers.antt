use Rattle.std.proofs.Common.{rules, ◌≡◌, Bool, List, Option, length, sym, subst}
use Rattle.fdd_split.specs.Memos.{ArePlainEntries}
use Rattle.fdd_split.proofs.KeptLaws.{known_added, known_set}
use Rattle.fdd_split.proofs.memo.Memo.keep_plain.Goals as goal

pub returns-in-Some : goal.returns-in-Some
returns-in-Some c = λ k h w.
    let kept = c.in_ok-reach.ensures.kept k h in
    record {
      plain = known_set k _ c.args.a c.place-place.result c.args.plain c.place-place.ensures kept.plain w;
      threats = kept.threats;
      parts = kept.parts;
      nodes = kept.nodes;
    }

pub returns-in_ok-push-in-None : goal.returns-in_ok-push-in-None
returns-in_ok-push-in-None c = λ k h w.
    let kept = c.in_ok-reach.ensures.kept k h in
    let reached = c.in_ok-reach.ensures.reached in
    let full : length c.reach.new.self.plain.items ≡ c.args.a = search rules in
    record {
      plain = subst (λ (known : List (Option Bool)). ArePlainEntries k known) (sym c.in_ok-push-in-None.ensures.items) (known_added k _ c.args.a c.args.plain full kept.plain w);
      threats = kept.threats;
      parts = kept.parts;
      nodes = kept.nodes;
    }
