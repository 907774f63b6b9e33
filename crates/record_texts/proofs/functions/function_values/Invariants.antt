use Rattle.std.proofs.Common.{◌≡◌, ◌++◌, [], drop, map}
use Rattle.serde_json.specs.View.{view}
use Rattle.record_texts.specs.Worlds.{function_data}
use Rattle.record_texts.proofs.functions.function_values.Given as goal

abbrev pub invariant-loop-function : goal.invariant-loop-function
invariant-loop-function l = map view l.values.items ++ map (function_data l.indices) (drop l.function-index l.functions) ≡ map (function_data l.indices) l.functions
