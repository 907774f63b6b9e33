use Rattle.byte_encoding.proofs.Unique as unique
use Rattle.byte_encoding.proofs.laws.one_number.Goals as goal

pub returns : goal.returns
returns c = unique.one_number
