use Rattle.std.proofs.Common.{◌≡◌, [], drop}
use Rattle.package_types.specs.Types.{fields_after}
use Rattle.package_types.proofs.nodes.fields_nodes.Given as goal

abbrev pub invariant-loop-field : goal.invariant-loop-field
invariant-loop-field l = fields_after l.scope (drop l.field-index l.fields) l.nodes ≡ fields_after l.scope l.fields []
