-- Functions: objects with a name, the parameters, the result, and whether the function is asynchronous. All but
-- the name may be left out.
use Rattle.std.specs.Prelude.{ℕ, ◌&&◌, nat_eq, List, [], ◌∷◌, codes, Bool, Option, Some, None, is_some, ok_or, option_and_then, Result, Ok, Err, if◌then◌else◌}
use Rattle.std.specs.List.{starts_with}
use Rattle.serde_json.specs.Data.{Data}
use Rattle.serde_json.specs.Find.{get, as_null, as_array}
use Rattle.json_paths.specs.declared.fault.Failure.{Failure}
use Rattle.json_paths.specs.Faults.{◌>>=◌}
use Rattle.json_paths.specs.Reading.{under, here, at_member, text_of, text_at, only, bool_if, pair_of, items_from}
use Rattle.record_values.specs.declared.types.Node.{Node}
use Rattle.record_values.specs.declared.types.Typed.{Typed}
use Rattle.record_values.specs.declared.types.Func.{Func}
use Rattle.record_types.specs.Scopes.{Names}
use Rattle.record_types.specs.Types.{nodes_of}
use Rattle.record_types.specs.Named.{typed}

-- a parameter: an array of its name and its type
unfoldable pub param_of : Names → Data → Result Typed Failure
param_of k d = do
  p ← ok_or (option_and_then pair_of (as_array d)) here
  name ← under (codes "0") (text_of p.0)
  ns ← under (codes "1") (nodes_of k p.1)
  Ok (typed name ns)

-- parameters
unfoldable pub params_of : Names → Data → Result (List Typed) Failure
params_of k d = do
  ds ← ok_or (as_array d) here
  items_from (param_of k) 0 ds

-- none where they are left out
abbrev pub params_if : Names → Option Data → Result (List Typed) Failure
params_if k None = Ok []
params_if k (Some d) = under (codes "params") (params_of k d)

abbrev pub some_result : Names → Data → Result (Option (List Node)) Failure
some_result k d = do
  ns ← nodes_of k d
  Ok (Some ns)

-- a type, or null
abbrev pub result_of : Names → Data → Result (Option (List Node)) Failure
result_of k d = if is_some (as_null d) then Ok None else some_result k d

abbrev pub result_if : Names → Option Data → Result (Option (List Node)) Failure
result_if k None = Ok None
result_if k (Some d) = under (codes "result") (result_of k d)

abbrev pub is_constructor : List ℕ → Bool
is_constructor name = starts_with nat_eq name (codes "[constructor]")

-- a constructor is not asynchronous
unfoldable pub async_of : List ℕ → Data → Result Bool Failure
async_of name d = do
  is_async ← bool_if (codes "async") (get (codes "async") d)
  if is_async && is_constructor name then Err (at_member (codes "async")) else Ok is_async

abbrev pub func : List ℕ → List Typed → Option (List Node) → Bool → Func
func name params result is_async = record { name = name; is_async = is_async; params = params; result = result }

unfoldable pub function_of : Names → Data → Result Func Failure
function_of k d = do
  _ ← only (codes "name" ∷ codes "params" ∷ codes "result" ∷ codes "async" ∷ []) d
  name ← text_at (codes "name") d
  params ← params_if k (get (codes "params") d)
  result ← result_if k (get (codes "result") d)
  is_async ← async_of name d
  Ok (func name params result is_async)
