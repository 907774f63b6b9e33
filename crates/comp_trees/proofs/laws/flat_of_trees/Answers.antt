use Rattle.comp_trees.proofs.Flats as lemmas
use Rattle.comp_trees.proofs.laws.flat_of_trees.Goals as goal

pub returns : goal.returns
returns c = lemmas.flat_of_trees
