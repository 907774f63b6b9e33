-- The type that a list of nodes makes, each of which takes its parts from the top of a stack of types.
use Rattle.std.specs.Prelude.{ℕ, ◌-◌, nat_lt, nat_eq, length, take, drop, List, [], ◌∷◌, ◌++◌, Option, None, Some, slice_get, Result, Ok, Err, if◌then◌else◌}
use Rattle.json_paths.specs.declared.fault.Failure.{Failure}
use Rattle.json_paths.specs.Faults.{◌>>=◌}
use Rattle.wit_data.specs.declared.ids.TypeId.{TypeId}
use Rattle.wit_data.specs.declared.types.Type.{«Type» as Ty}
use Rattle.wit_data.specs.declared.types.Type.TheVariants as types
use Rattle.wit_data.specs.declared.types.TypeOwner.{TypeOwner}
use Rattle.wit_data.specs.declared.types.TypeDefKind.{TypeDefKind}
use Rattle.record_values.specs.declared.names.Owner.{Owner}
use Rattle.record_values.specs.declared.names.TypeName.{TypeName}
use Rattle.record_values.specs.declared.types.Node.{Node}
use Rattle.record_values.specs.declared.types.Node.TheVariants as nodes
use Rattle.record_resolve.specs.declared.making.Making.{Making}
use Rattle.record_resolve.specs.declared.making.Side.{Side}
use Rattle.record_resolve.specs.Steps.{nowhere}
use Rattle.record_resolve.specs.Names.{found, with_name}
use Rattle.record_resolve.specs.Kinds.{arity, kind}
use Rattle.record_resolve.specs.Sharing.{type_id, with_type, shared}

-- the position in a stack at which the last so many begin
abbrev pub top_of : ℕ → List Ty → Result ℕ Failure
top_of n stack = if nat_lt (length stack) n then Err nowhere else Ok (length stack - n)

-- a node that is a type of its own takes its parts from the stack, and the type replaces them
unfoldable pub after_compound : Side → Node → List Ty → Making → Result (List Ty × Making) Failure
after_compound side node stack m = do
  at ← top_of (arity node) stack
  made ← kind m side node (drop at stack)
  Ok (take at stack ++ types.Id (shared made m).0 ∷ [], (shared made m).1)

abbrev pub after_name : TypeId → List Ty → Making → Result (List Ty × Making) Failure
after_name id stack m = Ok (stack ++ types.Id id ∷ [], m)

-- the stack after a node. A resource has a name, so it is no part of a type
abbrev pub after_node : Side → Node → List Ty → Making → Result (List Ty × Making) Failure
after_node side (nodes.Primitive p) stack m = Ok (stack ++ types.Primitive p ∷ [], m)
after_node side (nodes.Named t) stack m = found m side t >>= λ id. after_name id stack m
after_node side nodes.Resource stack m = Err nowhere
after_node side node stack m = after_compound side node stack m

unfoldable pub step : Side → Node → List Ty × Making → Result (List Ty × Making) Failure
step side node so_far = after_node side node so_far.0 so_far.1

abbrev pub after_nodes : Side → List Node → List Ty × Making → Result (List Ty × Making) Failure
after_nodes side [] so_far = Ok so_far
after_nodes side (n ∷ ns) so_far = do
  more ← step side n so_far
  after_nodes side ns more

abbrev pub only : List Ty → Result Ty Failure
only (t ∷ []) = Ok t
only stack = Err nowhere

-- the type that is a parameter, a result or a part
unfoldable pub type_of : Side → List Node → Making → Result (Ty × Making) Failure
type_of side ns m = do
  made ← after_nodes side ns ([], m)
  t ← only made.0
  Ok (t, made.1)

-- the type that the last node makes of the whole stack
abbrev pub last_kind : Side → Node → List Ty → Making → Result TypeDefKind Failure
last_kind side node stack m = if nat_eq (length stack) (arity node) then kind m side node stack else Err nowhere

unfoldable pub kind_before : Side → Node → List Node → Making → Result (TypeDefKind × Making) Failure
kind_before side last front m = do
  made ← after_nodes side front ([], m)
  k ← last_kind side last made.0 made.1
  Ok (k, made.1)

abbrev pub kind_by_last : Side → Option Node → List Node → Making → Result (TypeDefKind × Making) Failure
kind_by_last side None front m = Err nowhere
kind_by_last side (Some last) front m = kind_before side last front m

-- the kind of a named type
abbrev pub kind_of : Side → List Node → Making → Result (TypeDefKind × Making) Failure
kind_of side ns m = kind_by_last side (slice_get ns (length ns - 1)) (take (length ns - 1) ns) m

abbrev pub type_name : Owner → List ℕ → TypeName
type_name owner name = record { owner = owner; name = name }

-- a named type is always a new one
unfoldable pub new_type : Side → Owner → TypeOwner → List ℕ → List Node → Making → Result (TypeId × Making) Failure
new_type side owner at name ns m = do
  made ← kind_of side ns m
  named ← with_name side (type_name owner name) (type_id (length made.1.types)) (with_type (Some name) made.0 at made.1.unnamed made.1)
  Ok (type_id (length made.1.types), named)
