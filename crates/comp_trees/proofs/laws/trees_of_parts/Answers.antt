use Rattle.comp_trees.proofs.Flats as lemmas
use Rattle.comp_trees.proofs.laws.trees_of_parts.Goals as goal

pub returns : goal.returns
returns c = lemmas.trees_of_parts
