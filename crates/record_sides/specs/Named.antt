-- What a role names: an owner, which is an interface that a side of the world has or the world
-- itself, and a function or a resource of it.
use Rattle.std.specs.Prelude.{ℕ, ◌^◌, List, codes, Bool, Option, Some, None, Result, Ok, Err, is_some, if◌then◌else◌}
use Rattle.serde_json.specs.Data.{Data}
use Rattle.serde_json.specs.Find.{as_null}
use Rattle.json_paths.specs.declared.fault.Failure.{Failure}
use Rattle.json_paths.specs.Faults.{◌>>=◌}
use Rattle.json_paths.specs.Reading.{under, here, text_of, number_of}
use Rattle.record_values.specs.declared.names.Owner.{Owner}
use Rattle.record_values.specs.declared.names.Owner.TheVariants as owners
use Rattle.record_values.specs.declared.names.TypeName.{TypeName}
use Rattle.record_sides.specs.declared.indexed.RecordWorld.{RecordWorld}
use Rattle.record_sides.specs.declared.named.Called.{Called}
use Rattle.record_sides.specs.declared.named.Named.{Named}
use Rattle.record_sides.specs.declared.named.Named.TheVariants as named
use Rattle.record_sides.specs.declared.named.Owners.{Owners}
use Rattle.record_sides.specs.declared.named.Owners.TheVariants as owning
use Rattle.record_sides.specs.declared.sides.Side.{Side}
use Rattle.record_sides.specs.Arguments.{two_arguments, three_arguments, abi_of}
use Rattle.record_sides.specs.Sides.{is_present, owner_at, function_at, resource_at}

-- ---- owners, by the indices of interfaces in the record

unfoldable pub interface_of : RecordWorld → Side → Data → Result ℕ Failure
interface_of w side d = do
  index ← number_of (2 ^ 32) d
  if is_present w side index then Ok index else Err here

abbrev pub some_interface : RecordWorld → Side → Data → Result (Option ℕ) Failure
some_interface w side d = do
  index ← interface_of w side d
  Ok (Some index)

-- null is the world itself
unfoldable pub owner_of : RecordWorld → Side → Data → Result (Option ℕ) Failure
owner_of w side d = if is_some (as_null d) then Ok None else some_interface w side d

-- one of the owners that a role may name
abbrev pub owner_among : Owners → RecordWorld → Side → Data → Result (Option ℕ) Failure
owner_among owning.Interfaces w side d = some_interface w side d
owner_among owning.All w side d = owner_of w side d

-- ---- what an owner has

abbrev pub has_name : RecordWorld → Side → Named → Option ℕ → List ℕ → Bool
has_name w side named.Function index name = is_some (function_at w side index name)
has_name w side named.Resource index name = resource_at w side index name

-- the name of a function or a resource that the owner has
unfoldable pub name_of : RecordWorld → Side → Named → Option ℕ → Data → Result (List ℕ) Failure
name_of w side what index d = do
  name ← text_of d
  if has_name w side what index name then Ok name else Err here

-- owner, name
unfoldable pub named_of : RecordWorld → Side → Owners → Named → Data → Result (Owner × List ℕ) Failure
named_of w side among what d = do
  a ← two_arguments d
  index ← under (codes "1") (owner_among among w side a.0)
  name ← under (codes "2") (name_of w side what index a.1)
  Ok (owner_at w index, name)

-- owner, resource
abbrev pub resource_of : RecordWorld → Side → Owners → Data → Result TypeName Failure
resource_of w side among d = do
  n ← named_of w side among named.Resource d
  Ok (record { owner = n.0; name = n.1 })

-- ---- functions, and how they are called

-- name, abi
unfoldable pub world_function_of : RecordWorld → Side → Data → Result Called Failure
world_function_of w side d = do
  a ← two_arguments d
  name ← under (codes "1") (name_of w side named.Function None a.0)
  abi ← under (codes "2") (abi_of side a.1)
  Ok (record { owner = owners.World; name = name; abi = abi })

-- interface, name, abi
unfoldable pub interface_function_of : RecordWorld → Side → Data → Result Called Failure
interface_function_of w side d = do
  a ← three_arguments d
  index ← under (codes "1") (some_interface w side a.0)
  name ← under (codes "2") (name_of w side named.Function index a.1)
  abi ← under (codes "3") (abi_of side a.2)
  Ok (record { owner = owner_at w index; name = name; abi = abi })
