use Rattle.comp_options.proofs.Lowered.{lowering_adds_realloc_lem}
use Rattle.comp_options.proofs.laws.lowering_adds_realloc.Goals as goal

pub returns : goal.returns
returns c = lowering_adds_realloc_lem
