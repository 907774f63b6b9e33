use Rattle.std.proofs.Common.{◌≡◌, ◌++◌, drop, map}
use Rattle.package_types.specs.Functions.{param_of}
use Rattle.package_types.proofs.functions.params.Given as goal

abbrev pub invariant-loop-field : goal.invariant-loop-field
invariant-loop-field l = l.params ++ map (param_of l.scope) (drop l.field-index l.fields) ≡ map (param_of l.scope) l.fields
