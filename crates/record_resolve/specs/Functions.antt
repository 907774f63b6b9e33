-- Functions (component model, WIT: `func`): their kinds, which are written in their names, and the types of their
-- parameters and results.
use Rattle.std.specs.Prelude.{ℕ, List, [], ◌∷◌, ◌++◌, codes, Bool, false, Option, None, Some, Result, Ok, Err, if◌then◌else◌}
use Rattle.std.specs.Option.{option_map_or}
use Rattle.std.specs.Str.{bytes_eq}
use Rattle.json_paths.specs.declared.fault.Failure.{Failure}
use Rattle.json_paths.specs.Faults.{◌>>=◌}
use Rattle.wit_data.specs.declared.ids.TypeId.{TypeId}
use Rattle.wit_data.specs.declared.types.Type.{«Type» as Ty}
use Rattle.wit_data.specs.declared.functions.FunctionKind.{FunctionKind}
use Rattle.wit_data.specs.declared.functions.FunctionKind.TheVariants as kinds
use Rattle.wit_data.specs.declared.functions.Function.{Function}
use Rattle.wit_data.specs.declared.functions.Param.{Param}
use Rattle.record_values.specs.declared.names.Owner.{Owner}
use Rattle.record_values.specs.declared.types.Node.{Node}
use Rattle.record_values.specs.declared.types.Typed.{Typed}
use Rattle.record_values.specs.declared.types.Func.{Func}
use Rattle.record_resolve.specs.declared.making.Making.{Making}
use Rattle.record_resolve.specs.declared.making.Side.{Side}
use Rattle.record_resolve.specs.Steps.{nowhere}
use Rattle.comp_lists.specs.Splits.{split_once}
use Rattle.record_resolve.specs.Names.{type_named}
use Rattle.record_resolve.specs.Types.{type_of, type_name}

abbrev pub method : Bool → TypeId → FunctionKind
method is_async id = if is_async then kinds.AsyncMethod id else kinds.Method id

abbrev pub static : Bool → TypeId → FunctionKind
static is_async id = if is_async then kinds.AsyncStatic id else kinds.Static id

abbrev pub plain : Bool → FunctionKind
plain is_async = if is_async then kinds.AsyncFreestanding else kinds.Freestanding

-- a function of the type of this name, which is of the same owner; where the owner has no such type, of none
abbrev pub of_type : Making → Side → Owner → Bool → (TypeId → FunctionKind) → List ℕ → FunctionKind
of_type m side owner is_async make name = option_map_or make (type_named m side (type_name owner name)) (plain is_async)

-- a method or a static function has the name of its type before a dot
abbrev pub of_member : Making → Side → Owner → Bool → (TypeId → FunctionKind) → Option (List ℕ × List ℕ) → FunctionKind
of_member m side owner is_async make None = plain is_async
of_member m side owner is_async make (Some p) = of_type m side owner is_async make p.0

-- a constructor is not asynchronous
abbrev pub constructor_of : Making → Side → Owner → Bool → List ℕ → Result FunctionKind Failure
constructor_of m side owner is_async name = if is_async then Err nowhere else Ok (of_type m side owner false kinds.Constructor name)

abbrev pub kind_by_tag : Making → Side → Owner → Bool → Option (List ℕ × List ℕ) → Result FunctionKind Failure
kind_by_tag m side owner is_async None = Ok (plain is_async)
kind_by_tag m side owner is_async (Some p) =
    if bytes_eq p.0 (codes "[method") then Ok (of_member m side owner is_async (method is_async) (split_once 46 p.1))
    else if bytes_eq p.0 (codes "[static") then Ok (of_member m side owner is_async (static is_async) (split_once 46 p.1))
    else if bytes_eq p.0 (codes "[constructor") then constructor_of m side owner is_async p.1
    else Ok (plain is_async)

-- `[method]r.f`, `[static]r.f` and `[constructor]r` belong to the type r of those that are made,
-- where it is one of them; other functions are freestanding
unfoldable pub function_kind : Making → Side → Owner → Bool → List ℕ → Result FunctionKind Failure
function_kind m side owner is_async name = kind_by_tag m side owner is_async (split_once 93 name)

abbrev pub param : List ℕ → Ty → Param
param name t = record { name = name; ty = t }

-- one parameter after these
unfoldable pub with_param : Side → Typed → List Param × Making → Result (List Param × Making) Failure
with_param side p so_far = do
  made ← type_of side p.nodes so_far.1
  Ok (so_far.0 ++ param p.name made.0 ∷ [], made.1)

abbrev pub params_from : Side → List Typed → List Param × Making → Result (List Param × Making) Failure
params_from side [] so_far = Ok so_far
params_from side (p ∷ ps) so_far = do
  more ← with_param side p so_far
  params_from side ps more

unfoldable pub some_result : Side → List Node → Making → Result (Option Ty × Making) Failure
some_result side ns m = do
  made ← type_of side ns m
  Ok (Some made.0, made.1)

abbrev pub result_of : Side → Option (List Node) → Making → Result (Option Ty × Making) Failure
result_of side None m = Ok (None, m)
result_of side (Some ns) m = some_result side ns m

abbrev pub function : List ℕ → FunctionKind → List Param → Option Ty → Function
function name kind params result = record { name = name; kind = kind; params = params; result = result }

-- a function of this kind: its parameters first, then its result
unfoldable pub function_of : Side → FunctionKind → Func → Making → Result (Function × Making) Failure
function_of side kind f m = do
  params ← params_from side f.params ([], m)
  result ← result_of side f.result params.1
  Ok (function f.name kind params.0 result.0, result.1)
