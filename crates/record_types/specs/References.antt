-- References to named types: arrays of the index of an interface, or null for the world, and a name.
use Rattle.std.specs.Prelude.{ℕ, ◌==◌, ◌&&◌, ◌^◌, nat_lt, length, List, codes, not, Option, Some, None, is_some, slice_get, ok_or, option_and_then, Result, Ok, Err, if◌then◌else◌}
use Rattle.std.specs.Map.{lookup}
use Rattle.std.specs.Str.{bytes_eq}
use Rattle.serde_json.specs.Data.{Data}
use Rattle.serde_json.specs.Find.{as_null, as_array, as_number, as_u64}
use Rattle.json_paths.specs.declared.fault.Failure.{Failure}
use Rattle.json_paths.specs.Faults.{◌>>=◌}
use Rattle.json_paths.specs.Reading.{under, here, at_member, text_of, pair_of}
use Rattle.record_values.specs.declared.names.InterfaceName.TheVariants as interfaces
use Rattle.record_values.specs.declared.names.Owner.{Owner}
use Rattle.record_values.specs.declared.names.Owner.TheVariants as owners
use Rattle.record_values.specs.declared.names.TypeName.{TypeName}
use Rattle.record_types.specs.declared.known.TypeFacts.{TypeFacts}
use Rattle.record_types.specs.declared.known.ReadInterface.{ReadInterface}
use Rattle.record_types.specs.Scopes.{Table, Names}

abbrev pub table_by : Names → ℕ → Option ReadInterface → Option Table
table_by k index (Some i) = Some i.known
table_by k index None = if (index == length k.done) && not k.is_world then Some k.current else None

-- the named types of the interface at an index; the one that is being read comes after those before
abbrev pub table_at : Names → ℕ → Option Table
table_at k index = table_by k index (slice_get k.done index)

abbrev pub interface_at : Names → ℕ → Result (Owner × Table) Failure
interface_at k index = do
  table ← ok_or (table_at k index) here
  Ok (owners.Interface (interfaces.Unused index), table)

abbrev pub interface_by : Names → Option ℕ → Result (Owner × Table) Failure
interface_by k None = Err here
interface_by k (Some n) = if nat_lt n (2 ^ 32) then interface_at k n else Err here

abbrev pub world_of : Names → Result (Owner × Table) Failure
world_of k = if k.is_world then Ok (owners.World, k.current) else Err here

-- whose types a reference speaks of, and these types
unfoldable pub owner_of : Names → Data → Result (Owner × Table) Failure
owner_of k d = if is_some (as_null d) then world_of k else interface_by k (option_and_then as_u64 (as_number d))

abbrev pub type_name : Owner → List ℕ → TypeName
type_name owner name = record { owner = owner; name = name }

unfoldable pub reference_of : Names → Data → Result (TypeName × TypeFacts) Failure
reference_of k d = do
  p ← ok_or (option_and_then pair_of (as_array d)) here
  owner ← under (codes "0") (owner_of k p.0)
  name ← under (codes "1") (text_of p.1)
  facts ← ok_or (lookup (bytes_eq name) owner.1) (at_member (codes "1"))
  Ok (type_name owner.0 name, facts)
