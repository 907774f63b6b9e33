use Rattle.comp_trees.proofs.Signing as lemmas
use Rattle.comp_trees.proofs.laws.signatures_of_trees.Goals as goal

pub returns : goal.returns
returns c = lemmas.signatures_of_trees
