use Rattle.fixup_modules.proofs.Building as lemmas
use Rattle.fixup_modules.proofs.laws.added_shims_are_filled.Goals as goal

pub returns : goal.returns
returns c = lemmas.added_shims_are_filled
