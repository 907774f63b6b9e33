use Rattle.byte_encoding.proofs.Unique as unique
use Rattle.byte_encoding.proofs.laws.one_type_index.Goals as goal

pub returns : goal.returns
returns c = unique.one_type_index
