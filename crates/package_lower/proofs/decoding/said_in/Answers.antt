use Rattle.package_lower.proofs.Causes.{said_by_merging, said_apart}
use Rattle.package_lower.proofs.decoding.said_in.Goals as goal

pub returns-in_err-bindgen_of-clause-cause : goal.returns-in_err-bindgen_of-clause-cause
returns-in_err-bindgen_of-clause-cause c =
    said_by_merging _ c.in_ok-records.records c.from_residual-in_err-bindgen_of.result c.in_err-bindgen_of.field-0.0 c.in_ok-records.ensures
    c.from_residual-in_err-bindgen_of.ensures.1 c.in_err-bindgen_of.ensures.cause

pub returns-clause-apart : goal.returns-clause-apart
returns-clause-apart c = λ ok. said_apart _ c.in_ok-records.records c.in_ok-records.ensures (c.in_ok-bindgen_of.ensures.refused ok)
