use Rattle.std.proofs.Common.{◌≡◌, ◌++◌, drop, Some}
use Rattle.std.specs.List.{flat_map}
use Rattle.wit_data.specs.Flat.{flat}
use Rattle.wit_data.proofs.signatures.flat_params.Given as goal

abbrev pub invariant-loop-index : goal.invariant-loop-index
invariant-loop-index l = l.values.items ++ flat_map (λ p. flat l.types (Some p.ty)) (drop l.index l.params) ≡ flat_map (λ p. flat l.types (Some p.ty)) l.params
