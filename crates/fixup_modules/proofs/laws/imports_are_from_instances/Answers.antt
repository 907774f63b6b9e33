use Rattle.fixup_modules.proofs.Arguments as lemmas
use Rattle.fixup_modules.proofs.laws.imports_are_from_instances.Goals as goal

pub returns : goal.returns
returns c = lemmas.imports_are_from_instances
