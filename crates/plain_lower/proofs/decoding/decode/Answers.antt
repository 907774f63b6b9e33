use Rattle.std.proofs.Common.{map, ap}
use Rattle.plain_lower.specs.Causes.{DecodeCause}
use Rattle.record_faults.specs.Faults.{of_section, of_record, flat}
use Rattle.plain_lower.proofs.Records.{sections_caused, decode_caused, decode_has_none}
use Rattle.gathered_worlds.proofs.Steps.{handed_out}
use Rattle.plain_lower.proofs.decoding.decode.Goals as goal

pub returns-in_err-prefix-clause-cause : goal.returns-in_err-prefix-clause-cause
returns-in_err-prefix-clause-cause c =
    handed_out (λ e. DecodeCause c.args.bytes.items (flat e)) c.from_residual.result (of_section c.in_err-prefix.field-0.0) c.from_residual.ensures.1
    (sections_caused c.args.bytes.items c.in_err-prefix.field-0.0 (rw c.deref.ensures.value at c.in_err-prefix.ensures.exact))

pub returns-in_err-said-clause-cause : goal.returns-in_err-said-clause-cause
returns-in_err-said-clause-cause c =
    handed_out (λ e. DecodeCause c.args.bytes.items (flat e)) c.from_residual-in_err-said.result (of_record c.in_err-said.field-0.0) c.from_residual-in_err-said.ensures.1
    (decode_caused c.args.bytes.items _ _ _ c.in_err-said.field-0.0 (rw c.deref.ensures.value at c.in_ok-prefix.ensures.exact) (ap (map (λ t. t.now)) c.as_slice.ensures.value) c.in_err-said.ensures.cause)

pub returns-clause-refused : goal.returns-clause-refused
returns-clause-refused c = λ ok f k. decode_has_none c.args.bytes.items _ _ _ (rw c.deref.ensures.value at c.in_ok-prefix.ensures.exact) (ap (map (λ t. t.now)) c.as_slice.ensures.value) c.in_ok-said.ensures.apart f k
