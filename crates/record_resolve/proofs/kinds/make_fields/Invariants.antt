use Rattle.std.proofs.Common.{◌≡◌, [], drop}
use Rattle.record_resolve.specs.Kinds.{fields_from}
use Rattle.record_resolve.proofs.kinds.make_fields.Given as goal

abbrev pub invariant-loop-name : goal.invariant-loop-name
invariant-loop-name l = fields_from l.fields (drop l.name-index l.names) l.rest ≡ fields_from [] l.names l.parts
