use Rattle.std.proofs.Common.{◌≡◌, ◌++◌, take}
use Rattle.std.specs.List.{flat_map}
use Rattle.world_warnings.specs.Worlds.{typed_warnings}
use Rattle.world_warnings.proofs.worlds.add_types.Given as goal

abbrev pub invariant-loop-typed : goal.invariant-loop-typed
invariant-loop-typed l = l.warnings ≡ l.fn.warnings ++ flat_map (typed_warnings l.resources l.path) (take l.typed-index l.types)
