use Rattle.comp_trees.proofs.Knowing as lemmas
use Rattle.comp_trees.proofs.laws.trees_are_known.Goals as goal

pub returns : goal.returns
returns c = lemmas.trees_are_known
