use Rattle.std.proofs.Common.{◌≡◌, ◌++◌, drop, map}
use Rattle.package_types.proofs.nodes.field_names.Given as goal

abbrev pub invariant-loop-field : goal.invariant-loop-field
invariant-loop-field l = l.names ++ map (λ f. f.name) (drop l.field-index l.fields) ≡ map (λ f. f.name) l.fields
