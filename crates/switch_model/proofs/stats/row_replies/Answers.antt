use Rattle.std.proofs.Common.{List, ℕ, subst}
use Rattle.std.proofs.lemmas.Result.{IfOk-weaker}
use Rattle.nk_values.specs.declared.row.Row.{Row}
use Rattle.nk_values.specs.Members.{IsIn}
use Rattle.switch_model.specs.Stats.{AreReplies, AreTold, IsOfTable, deletion}
use Rattle.switch_model.proofs.StatsLaws.{told, told-few, picked-distinct}
use Rattle.switch_model.proofs.stats.row_replies.Goals as goal

pub replies-requires : goal.replies-requires
replies-requires c = λ r i.
    told-few c.args.rows.now c.in_ok-meant.meant.items c.rank.new.rows.items (deletion c.args.pattern.now c.args.out_port) c.in_ok-meant.ensures c.in_ok-rank.ensures.moved c.requires.few r
    (subst (λ (rs : List Row). IsIn rs r) c.deref.ensures.value i)

pub returns : goal.returns
returns c =
    let change = deletion c.args.pattern.now c.args.out_port in
    let ranked = c.rank.new.rows.items in
    let rising = c.in_ok-rank.ensures.rising (picked-distinct change c.args.rows.now c.in_ok-meant.meant.items c.in_ok-meant.ensures c.requires.distinct) in
    IfOk-weaker c.replies.result (λ v. AreReplies c.args.xid c.deref.result.now v.items)
    (λ v. (table : ℕ) → IsOfTable table → AreTold c.args.rows.now c.args.xid table change v.items)
    (λ v a table of_table.
    told c.args.rows.now c.in_ok-meant.meant.items ranked c.args.xid table change v.items of_table c.in_ok-meant.ensures c.in_ok-rank.ensures.moved rising
    (subst (λ (rs : List Row). AreReplies c.args.xid rs v.items) c.deref.ensures.value a)) c.replies.ensures
