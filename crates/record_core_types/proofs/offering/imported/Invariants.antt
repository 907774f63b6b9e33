use Rattle.std.proofs.Common.{◌≡◌, ◌++◌, drop}
use Rattle.std.specs.List.{flat_map}
use Rattle.std.specs.Option.{option_to_list}
use Rattle.record_core_types.specs.Offered.{import_type, imported}
use Rattle.record_core_types.proofs.offering.imported.Given as goal

abbrev pub invariant-loop-import : goal.invariant-loop-import
invariant-loop-import l = l.list ++ flat_map (λ i. option_to_list (import_type l.core i)) (drop l.import-index l.import-items) ≡ imported l.core
