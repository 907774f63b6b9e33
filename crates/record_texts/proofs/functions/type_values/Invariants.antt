use Rattle.std.proofs.Common.{◌≡◌, ◌++◌, [], drop, map}
use Rattle.serde_json.specs.View.{view}
use Rattle.record_texts.specs.Worlds.{typed_data}
use Rattle.record_texts.proofs.functions.type_values.Given as goal

abbrev pub invariant-loop-typed : goal.invariant-loop-typed
invariant-loop-typed l = map view l.values.items ++ map (typed_data l.indices) (drop l.typed-index l.types) ≡ map (typed_data l.indices) l.types
