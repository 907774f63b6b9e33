use Rattle.wit_types.proofs.Ordering.{result_encoded}
use Rattle.wit_types.proofs.functions.encode_payload.Goals as goal

pub returns-in_ok-encode_type-in-Some-clause-adds : goal.returns-in_ok-encode_type-in-Some-clause-adds
returns-in_ok-encode_type-in-Some-clause-adds g c =
    result_encoded (g.E.ValtypeEncoder.setting c.args.encoder.now) _ _ c.args.part c.in-Some.ty c.in-Some.is
    (record { adds = c.in_ok-encode_type-in-Some.ensures.adds; value = c.in_ok-encode_type-in-Some.field-0; denotes = c.in_ok-encode_type-in-Some.ensures.value })
