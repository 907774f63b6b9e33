use Rattle.plain_lower.proofs.Records.{said_by_merging, said_apart}
use Rattle.plain_lower.proofs.decoding.read_said.Goals as goal

pub returns-clause-cause : goal.returns-clause-cause
returns-clause-cause c = said_by_merging _ c.in_ok-records.records c.bindgen_of.result c.in_ok-records.ensures c.bindgen_of.ensures.cause

pub returns-clause-apart : goal.returns-clause-apart
returns-clause-apart c = said_apart _ c.in_ok-records.records c.bindgen_of.result c.in_ok-records.ensures c.bindgen_of.ensures.refused
