use Rattle.std.proofs.Common.{◌≡◌, ◌++◌, drop, map}
use Rattle.world_warnings.proofs.worlds.type_names.Given as goal

abbrev pub invariant-loop-typed : goal.invariant-loop-typed
invariant-loop-typed l = l.names ++ map (λ t. t.name) (drop l.typed-index l.types) ≡ map (λ t. t.name) l.types
