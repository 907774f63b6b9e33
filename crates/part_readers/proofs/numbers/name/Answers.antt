use Rattle.std.proofs.Common.{rules}
use Rattle.std.proofs.lemmas.Str.{is_utf8-from_IsUtf8}
use Rattle.part_readers.specs.Reading.{name_at}
use Rattle.part_readers.proofs.Utf8.{is_utf8_not}
use Rattle.part_readers.proofs.numbers.name.Goals as goal

pub returns-in_default : goal.returns-in_default
unfolding name_at
returns-in_default c = let f = is_utf8_not _ c.in_default.ensures.cases.0 in search rules

pub returns : goal.returns
unfolding name_at
returns c = let f = is_utf8-from_IsUtf8 _ c.in-Ok.ensures.cases.1 in search rules
