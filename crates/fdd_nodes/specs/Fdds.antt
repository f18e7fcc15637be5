-- Diagrams as callers see them.
use Rattle.fdd_nodes.specs.declared.fdd.Fdd.{Fdd}
use Rattle.fdd_nodes.specs.Trees.{Tree, tree}

abbrev pub tree_of : Fdd → Tree
tree_of d = tree d.root
