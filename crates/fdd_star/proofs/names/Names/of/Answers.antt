use Rattle.std.proofs.Common.{subst, List}
use Rattle.nk_values.specs.declared.lit.Lit.{Lit}
use Rattle.fdd_nodes.specs.Trees.{Assigns}
use Rattle.fdd_star.specs.Named.{Gains, NamesLit}
use Rattle.fdd_star.proofs.NamedLaws.{named_first}
use Rattle.fdd_store.specs.Stores.{tree_at}
use Rattle.fdd_star.proofs.names.Names.of.Goals as goal

pub add-requires : goal.add-requires
add-requires c = record { has = c.requires; done = named_first _ _ c.new-3.ensures.empty }

pub returns : goal.returns
returns c =
    let t = tree_at c.args.store.now c.args.p in
    record {
      named = subst (λ (ls : List Lit). Gains (NamesLit t) ls c.add.new.self.named.keys) c.new.ensures.empty c.in_ok-add.ensures.named;
      assigned = subst (λ (ls : List Lit). Gains (Assigns t) ls c.add.new.self.assigned.keys) c.new-2.ensures.empty c.in_ok-add.ensures.assigned;
    }
