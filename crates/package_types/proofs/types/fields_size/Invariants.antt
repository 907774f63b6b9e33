use Rattle.std.proofs.Common.{◌≡◌, drop}
use Rattle.package_types.specs.Sizes.{nothing}
use Rattle.package_types.specs.Types.{fields_size}
use Rattle.package_types.proofs.types.fields_size.Given as goal

abbrev pub invariant-loop-field : goal.invariant-loop-field
invariant-loop-field l = fields_size l.scope (drop l.field-index l.fields) l.size ≡ fields_size l.scope l.fields nothing
