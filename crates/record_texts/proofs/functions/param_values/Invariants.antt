use Rattle.std.proofs.Common.{◌≡◌, ◌++◌, [], drop, map}
use Rattle.serde_json.specs.View.{view}
use Rattle.record_texts.specs.Worlds.{param_data}
use Rattle.record_texts.proofs.functions.param_values.Given as goal

abbrev pub invariant-loop-param : goal.invariant-loop-param
invariant-loop-param l = map view l.values.items ++ map (param_data l.indices) (drop l.param-index l.params) ≡ map (param_data l.indices) l.params
