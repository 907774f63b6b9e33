use Rattle.core_bytes.proofs.OneModule as unique
use Rattle.core_bytes.proofs.laws.one_module.Goals as goal

pub returns : goal.returns
returns c = unique.one_module
