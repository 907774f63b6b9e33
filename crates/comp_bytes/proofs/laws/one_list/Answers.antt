use Rattle.comp_bytes.proofs.OneList as unique
use Rattle.comp_bytes.proofs.laws.one_list.Goals as goal

pub returns : goal.returns
returns c = unique.one_list
