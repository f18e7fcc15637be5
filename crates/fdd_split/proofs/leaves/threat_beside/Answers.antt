use Rattle.std.proofs.Common.{rules, ◌+◌, List, take, Option, sym, subst}
use Rattle.std.proofs.lemmas.List.{take_all}
use Rattle.nk_values.specs.declared.field.Field.{Field}
use Rattle.nk_values.specs.declared.lit.Lit.{Lit}
use Rattle.nk_values.specs.Lits.{lit_field}
use Rattle.nk_values.specs.Members.{IsIn}
use Rattle.fdd_split.specs.Pairs.{FieldThreat, MeetsSome, IsFirstWith}
use Rattle.fdd_split.specs.Threats.{KeepsField}
use Rattle.fdd_split.proofs.FieldLaws.{next_taken, denied, copy_stays, copy_moves, no_keepers, sets_none, is_no_candidate, meets_none}
use Rattle.fdd_split.proofs.leaves.threat_beside.Goals as goal
use Rattle.fdd_split.proofs.leaves.threat_beside.Goals.{in-Some+then-is_candidate+then-meets_some, in-Some+else-is_candidate, else-is_candidate-via-then-is_candidate+else-meets_some, else-is_candidate-via-else-is_candidate, in_default}

pub returns-then-is_empty : goal.returns-then-is_empty
returns-then-is_empty c = no_keepers _ _ _ _ _ (search rules)

pub loop-c-preserved : goal.loop-c-preserved
loop-c-preserved c =
    let more = next_taken _ _ _ c.loop-c-test.true c.c-item.is in
    let stays = copy_stays c.args.bars.now _ c.args.keepers.now _ c.c-item.result c.args.field c.args.found c.loop-c.first more in
    elim c.match-literal_of.branch [
      | in-Some+then-is_candidate+then-meets_some w ↦
          let l = w.in-Some.ensures.some in
          let has = subst (λ (z : List Lit). IsIn z w.in-Some.l) c.lits.ensures.list l.0 in
          let meets = subst (λ (z : List Lit). MeetsSome c.args.bars.now z c.args.keepers.now) w.lits-then-is_candidate.ensures.list (w.meets_some.ensures.some w.if-meets_some.true) in
          subst (λ (o : Option Lit). IsFirstWith c.args.found (FieldThreat c.args.bars.now (take (c.loop-c.c-index + 1) c.args.copies.now) c.args.keepers.now c.args.field) o) (sym w.first-is)
          (copy_moves c.args.bars.now _ c.args.keepers.now _ c.c-item.result c.args.field c.args.found c.loop-c.first w.in-Some.l more c.lits.ensures.copy has l.1 (w.is_candidate.ensures.0 w.if-is_candidate.true).0 (λ d i. (c.requires.keepers d i).1) meets c.loop-c.invariant)
      | in-Some+else-is_candidate w ↦
          let l = w.in-Some.ensures.some in
          let has = subst (λ (z : List Lit). IsIn z w.in-Some.l) c.lits.ensures.list l.0 in
          subst (λ (o : Option Lit). IsFirstWith c.args.found (FieldThreat c.args.bars.now (take (c.loop-c.c-index + 1) c.args.copies.now) c.args.keepers.now c.args.field) o) (sym w.first-is)
          (stays (elim w.else-is_candidate.branch [
            | else-is_candidate-via-then-is_candidate+else-meets_some v ↦
                let keep : (d : List Lit) → IsIn c.args.keepers.now d → KeepsField d (lit_field w.in-Some.l) = λ d i. subst (λ (f : Field). KeepsField d f) (sym l.1) (c.requires.keepers d i).1 in
                let none = v.meets_some.ensures.none w.in-Some.l (subst (λ (z : List Lit). IsIn z w.in-Some.l) (sym v.lits-then-is_candidate.ensures.list) has) keep v.if-meets_some.false in
                meets_none _ _ _ _ _ (λ m. none (subst (λ (z : List Lit). MeetsSome c.args.bars.now z c.args.keepers.now) (sym v.lits-then-is_candidate.ensures.list) m))
            | else-is_candidate-via-else-is_candidate v ↦
                is_no_candidate _ _ _ _ _ w.in-Some.l c.lits.ensures.copy has l.1 (λ d i. (c.requires.keepers d i).0) (denied _ w.is_candidate.ensures.1 v.if-is_candidate.false)
          ]) c.loop-c.invariant)
      | in_default w ↦
          let keeps : KeepsField c.lits.result.now c.args.field = search rules in
          subst (λ (o : Option Lit). IsFirstWith c.args.found (FieldThreat c.args.bars.now (take (c.loop-c.c-index + 1) c.args.copies.now) c.args.keepers.now c.args.field) o) (sym w.first-is)
          (stays (sets_none _ _ _ _ _ (subst (λ (z : List Lit). KeepsField z c.args.field) c.lits.ensures.list keeps)) c.loop-c.invariant)
    ]

pub returns : goal.returns
returns c = subst (λ (ys : List (List Lit)). IsFirstWith c.args.found (FieldThreat c.args.bars.now ys c.args.keepers.now c.args.field) c.loop-c.first) (take_all _ _ c.loop-c-test.false) c.loop-c.invariant
