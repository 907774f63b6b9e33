use Rattle.fixup_modules.proofs.Filling as lemmas
use Rattle.fixup_modules.proofs.laws.fixups_call.Goals as goal

pub returns : goal.returns
returns c = lemmas.fixups_call
