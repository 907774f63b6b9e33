-- An interface that is made: its types in order, then its functions in order. It is a scope for unnamed types.
use Rattle.std.specs.Prelude.{ℕ, length, List, [], ◌∷◌, ◌++◌, Option, ok_or, Result, Ok}
use Rattle.std.specs.Map.{lookup}
use Rattle.std.specs.Str.{bytes_eq}
use Rattle.json_paths.specs.declared.fault.Failure.{Failure}
use Rattle.json_paths.specs.Faults.{◌>>=◌}
use Rattle.wit_data.specs.declared.ids.TypeId.{TypeId}
use Rattle.wit_data.specs.declared.ids.InterfaceId.{InterfaceId}
use Rattle.wit_data.specs.declared.types.TypeOwner.{TypeOwner}
use Rattle.wit_data.specs.declared.types.TypeOwner.TheVariants as type_owners
use Rattle.wit_data.specs.declared.functions.Function.{Function}
use Rattle.wit_data.specs.declared.resolve.Interface.{Interface as MadeInterface}
use Rattle.wit_data.specs.declared.names.IdName.{IdName}
use Rattle.record_values.specs.declared.names.InterfaceName.{InterfaceName}
use Rattle.record_values.specs.declared.names.Owner.{Owner}
use Rattle.record_values.specs.declared.names.Owner.TheVariants as owners
use Rattle.record_values.specs.declared.types.Typed.{Typed}
use Rattle.record_values.specs.declared.types.Func.{Func}
use Rattle.record_values.specs.declared.types.Interface.{Interface}
use Rattle.record_values.specs.Names.{is_same_interface}
use Rattle.record_resolve.specs.declared.making.Making.{Making}
use Rattle.record_resolve.specs.declared.making.Side.{Side}
use Rattle.record_resolve.specs.declared.interfaces.MadeInterfaces.{MadeInterfaces}
use Rattle.record_resolve.specs.Steps.{nowhere, with_new}
use Rattle.record_resolve.specs.Sharing.{scoped}
use Rattle.record_resolve.specs.Types.{new_type}
use Rattle.record_resolve.specs.Functions.{function_kind, function_of}
use Rattle.record_resolve.specs.Ids.{id_of}

-- the types of an interface by name
abbrev pub Types : Type 0
Types = List (List ℕ × TypeId)

unfoldable pub with_type_of : Side → Owner → TypeOwner → Typed → Types × Making → Result (Types × Making) Failure
with_type_of side owner type_owner t so_far = do
  made ← new_type side owner type_owner t.name t.nodes so_far.1
  types ← with_new bytes_eq so_far.0 t.name made.0
  Ok (types, made.1)

abbrev pub types_from : Side → Owner → TypeOwner → List Typed → Types × Making → Result (Types × Making) Failure
types_from side owner type_owner [] so_far = Ok so_far
types_from side owner type_owner (t ∷ ts) so_far = do
  more ← with_type_of side owner type_owner t so_far
  types_from side owner type_owner ts more

-- the functions of an interface by name
abbrev pub Functions : Type 0
Functions = List (List ℕ × Function)

-- all types of the interface are made before its functions
unfoldable pub with_function_of : Side → Owner → Func → Functions × Making → Result (Functions × Making) Failure
with_function_of side owner f so_far = do
  kind ← function_kind so_far.1 side owner f.is_async f.name
  made ← function_of side kind f so_far.1
  functions ← with_new bytes_eq so_far.0 f.name made.0
  Ok (functions, made.1)

abbrev pub functions_from : Side → Owner → List Func → Functions × Making → Result (Functions × Making) Failure
functions_from side owner [] so_far = Ok so_far
functions_from side owner (f ∷ fs) so_far = do
  more ← with_function_of side owner f so_far
  functions_from side owner fs more

-- types and functions of an interface
unfoldable pub items_of : Side → Owner → TypeOwner → Interface → Making → Result ((Types × Functions) × Making) Failure
items_of side owner type_owner i m = do
  types ← types_from side owner type_owner i.types ([], scoped [] m)
  functions ← functions_from side owner i.functions ([], types.1)
  Ok ((types.0, functions.0), scoped m.unnamed functions.1)

abbrev pub interface_id : ℕ → InterfaceId
interface_id n = record { index = n }

abbrev pub made : Option IdName → Types × Functions → MadeInterface
made id items = record { id = id; types = items.0; functions = items.1 }

-- one more interface that is made: its name, its number, its id, and its types and functions
abbrev pub with_made : InterfaceName → InterfaceId → Option IdName → Types × Functions → MadeInterfaces → Result MadeInterfaces Failure
with_made name number id items made_interfaces = do
  ids ← with_new is_same_interface made_interfaces.ids name number
  Ok (record { interfaces = made_interfaces.interfaces ++ made id items ∷ []; ids = ids })

-- the interface of this name, made as the next one
unfoldable pub with_interface : Side → InterfaceName → Interface → MadeInterfaces × Making → Result (MadeInterfaces × Making) Failure
with_interface side name i so_far = do
  id ← id_of name
  items ← items_of side (owners.Interface name) (type_owners.Interface (interface_id (length so_far.0.interfaces))) i so_far.1
  ids ← with_new is_same_interface so_far.0.ids name (interface_id (length so_far.0.interfaces))
  Ok (record { interfaces = so_far.0.interfaces ++ made id items.0 ∷ []; ids = ids }, items.1)

unfoldable pub with_named : Side → List (InterfaceName × Interface) → InterfaceName → MadeInterfaces × Making → Result (MadeInterfaces × Making) Failure
with_named side is name so_far = do
  i ← ok_or (lookup (is_same_interface name) is) nowhere
  with_interface side name i so_far
