use Rattle.std.proofs.Common.{◌≡◌, ◌++◌, drop, map}
use Rattle.record_values.specs.Renaming.{renamed_typed}
use Rattle.record_values.proofs.renaming.rename_types.Given as goal

abbrev pub invariant-loop-typed : goal.invariant-loop-typed
invariant-loop-typed l = l.renamed ++ map (renamed_typed l.renames) (drop l.typed-index l.types) ≡ map (renamed_typed l.renames) l.types
