use Rattle.wit_types.proofs.functions.encode_param.Goals as goal

pub returns-clause-adds : goal.returns-clause-adds
returns-clause-adds g c = record { adds = c.in_ok-ty.ensures.adds; value = c.in_ok-ty.ty; denotes = c.in_ok-ty.ensures.value }
