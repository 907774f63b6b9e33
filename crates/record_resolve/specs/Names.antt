-- The types to which names refer. An exported interface has a copy of its own: within exported copies, and in exported
-- functions, its types are those of the copy. Everywhere else a name refers to the imported type.
use Rattle.std.specs.Prelude.{Bool, false, List, Option, is_some, ok_or, Result, Ok, if◌then◌else◌}
use Rattle.std.specs.Map.{lookup}
use Rattle.json_paths.specs.declared.fault.Failure.{Failure}
use Rattle.json_paths.specs.Faults.{◌>>=◌}
use Rattle.wit_data.specs.declared.ids.TypeId.{TypeId}
use Rattle.record_values.specs.declared.names.Owner.{Owner}
use Rattle.record_values.specs.declared.names.Owner.TheVariants as owners
use Rattle.record_values.specs.declared.names.TypeName.{TypeName}
use Rattle.record_values.specs.Names.{is_same_interface, is_same_type}
use Rattle.record_resolve.specs.declared.making.Making.{Making}
use Rattle.record_resolve.specs.declared.making.Side.{Side}
use Rattle.record_resolve.specs.declared.making.Side.TheVariants as sides
use Rattle.record_resolve.specs.Steps.{nowhere, with_new}

abbrev pub has_copy : Making → Owner → Bool
has_copy m owners.World = false
has_copy m (owners.Interface name) = is_some (lookup (is_same_interface name) m.exported)

-- the side on which the types of an owner are looked up, from this side
abbrev pub side_of : Making → Side → Owner → Side
side_of m sides.Imported owner = sides.Imported
side_of m sides.Exported owner = if has_copy m owner then sides.Exported else sides.Imported

abbrev pub table_of : Making → Side → List (TypeName × TypeId)
table_of m sides.Imported = m.imported_types
table_of m sides.Exported = m.exported_types

-- the type of this name, if it is made
abbrev pub type_named : Making → Side → TypeName → Option TypeId
type_named m side t = lookup (is_same_type t) (table_of m (side_of m side t.owner))

-- the type to which a name refers; it is made earlier, else the name refers to nothing
abbrev pub found : Making → Side → TypeName → Result TypeId Failure
found m side t = ok_or (type_named m side t) nowhere

abbrev pub with_table : Making → Side → List (TypeName × TypeId) → Making
with_table m sides.Imported table =
    record { exported = m.exported; imported_types = table; exported_types = m.exported_types; types = m.types; unnamed = m.unnamed }
with_table m sides.Exported table =
    record { exported = m.exported; imported_types = m.imported_types; exported_types = table; types = m.types; unnamed = m.unnamed }

-- a new name of a type
abbrev pub with_name : Side → TypeName → TypeId → Making → Result Making Failure
with_name side t id m = do
  table ← with_new is_same_type (table_of m side) t id
  Ok (with_table m side table)
