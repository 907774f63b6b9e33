use Rattle.std.proofs.Common.{map, ap}
use Rattle.package_lower.specs.Causes.{DecodeCause}
use Rattle.package_lower.specs.Faults.{flat}
use Rattle.package_lower.proofs.Causes.{handed_on, sections_caused, decode_caused, decode_refused}
use Rattle.package_lower.proofs.decoding.decode.Goals as goal

pub returns-in_err-prefix-clause-cause : goal.returns-in_err-prefix-clause-cause
returns-in_err-prefix-clause-cause c =
    handed_on (λ e. DecodeCause c.args.rejects_older c.args.bytes.items (flat e)) c.from_residual.result c.in_err-prefix.field-0.0 c.from_residual.ensures.1
    (λ other. sections_caused c.args.rejects_older c.args.bytes.items c.in_err-prefix.field-0.0 ((rw c.deref.ensures.value at c.in_err-prefix.ensures) other) other)

pub returns-in_err-said-clause-cause : goal.returns-in_err-said-clause-cause
returns-in_err-said-clause-cause c =
    handed_on (λ e. DecodeCause c.args.rejects_older c.args.bytes.items (flat e)) c.from_residual-in_err-said.result c.in_err-said.field-0.0 c.from_residual-in_err-said.ensures.1
    (decode_caused c.args.rejects_older c.args.bytes.items _ _ _ _ c.in_err-said.field-0.0 (rw c.deref.ensures.value at c.in_ok-prefix.ensures) c.deref-2.ensures.value (ap (map (λ x. x.now)) c.deref-3.ensures.value)
    c.in_err-said.ensures.cause)

pub returns-clause-refused : goal.returns-clause-refused
returns-clause-refused c = λ ok f k.
    decode_refused c.args.rejects_older c.args.bytes.items _ _ _ _ c.in_ok-said.said (rw c.deref.ensures.value at c.in_ok-prefix.ensures) c.deref-2.ensures.value (ap (map (λ x. x.now)) c.deref-3.ensures.value)
    c.in_ok-said.ensures.exact (c.in_ok-said.ensures.apart ok) f k
