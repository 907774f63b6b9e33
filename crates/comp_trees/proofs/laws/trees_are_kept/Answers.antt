use Rattle.comp_trees.proofs.Keeping as lemmas
use Rattle.comp_trees.proofs.laws.trees_are_kept.Goals as goal

pub returns : goal.returns
returns c = lemmas.trees_are_kept
