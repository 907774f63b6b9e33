use Rattle.shim_modules.proofs.Parts as lemmas
use Rattle.shim_modules.proofs.laws.shim_modules_are_shims.Goals as goal

pub returns : goal.returns
returns c = lemmas.shim_modules_are_shims
