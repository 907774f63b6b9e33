-- What a world has by name: the functions and the resources of its interfaces, and the interfaces
-- by the ids that compatible versions share (component model, explainer: `canonversion`).
use Rattle.std.specs.Prelude.{ℕ, List, [], ◌∷◌, ⊤, Option, Some, None}
use Rattle.std.specs.Map.{lookup}
use Rattle.std.specs.Str.{bytes_eq}
use Rattle.indexmap.specs.IndexMap.{insert_entry}
use Rattle.comp_lists.specs.Tables.{with_first}
use Rattle.record_values.specs.declared.names.InterfaceName.{InterfaceName}
use Rattle.record_values.specs.declared.names.Owner.{Owner}
use Rattle.record_values.specs.declared.names.Owner.TheVariants as owners
use Rattle.record_values.specs.declared.names.TypeName.{TypeName}
use Rattle.record_values.specs.declared.types.Func.{Func}
use Rattle.record_values.specs.declared.types.Interface.{Interface}
use Rattle.record_values.specs.declared.types.Node.{Node}
use Rattle.record_values.specs.declared.types.Node.TheVariants as nodes
use Rattle.record_values.specs.declared.types.Typed.{Typed}
use Rattle.record_values.specs.declared.world.Item.{Item}
use Rattle.record_values.specs.declared.world.Item.TheVariants as items
use Rattle.record_values.specs.declared.world.ItemKey.{ItemKey}
use Rattle.record_values.specs.declared.world.Wit.{Wit}
use Rattle.record_values.specs.Names.{is_same_type, key_text}
use Rattle.record_versions.specs.declared.compatible.Compatible.{Compatible}
use Rattle.record_versions.specs.Compatible.{compatible}
use Rattle.record_versions.specs.Groups.{candidates, greatest_after}
use Rattle.name_parts.specs.declared.reading.Reading.{Reading}
use Rattle.name_parts.specs.declared.reading.Reading.TheVariants as readings
use Rattle.name_parts.specs.declared.reading.Refusal.TheVariants as refusals
use Rattle.world_names.specs.declared.tables.Tables.{Tables}
use Rattle.world_names.specs.declared.tables.WorldNames.{WorldNames}

abbrev pub owned : Owner → List ℕ → TypeName
owned owner name = record { owner = owner; name = name }

-- ---- functions of interfaces, by the interface and the name

abbrev pub Functions : Type 0
Functions = List (TypeName × ⊤)

abbrev pub with_functions : Functions → InterfaceName → List Func → Functions
with_functions table name [] = table
with_functions table name (f ∷ fs) = with_functions (with_first is_same_type table (owned (owners.Interface name) f.name) tt) name fs

abbrev pub functions_after : Functions → List (InterfaceName × Interface) → Functions
functions_after table [] = table
functions_after table (e ∷ es) = functions_after (with_functions table e.0 e.1.functions) es

-- ---- resources by their names, each with the resource that it is: itself, or the one for which it is another name

abbrev pub Resources : Type 0
Resources = List (TypeName × TypeName)

abbrev pub with_alias : Resources → TypeName → Option TypeName → Resources
with_alias table name None = table
with_alias table name (Some resource) = with_first is_same_type table name resource

abbrev pub with_named : Resources → TypeName → Node → Resources
with_named table name nodes.Resource = with_first is_same_type table name name
with_named table name (nodes.Named other) = with_alias table name (lookup (is_same_type other) table)
with_named table name node = table

-- a type that is a resource, or another name for one before it
abbrev pub with_type : Resources → TypeName → List Node → Resources
with_type table name (node ∷ []) = with_named table name node
with_type table name ns = table

abbrev pub with_types : Resources → InterfaceName → List Typed → Resources
with_types table name [] = table
with_types table name (t ∷ ts) = with_types (with_type table (owned (owners.Interface name) t.name) t.nodes) name ts

abbrev pub of_interfaces : Resources → List (InterfaceName × Interface) → Resources
of_interfaces table [] = table
of_interfaces table (e ∷ es) = of_interfaces (with_types table e.0 e.1.types) es

abbrev pub with_item : Resources → ItemKey → Item → Resources
with_item table key (items.Type ns) = with_type table (owned owners.World (key_text key)) ns
with_item table key (items.Interface name) = table
with_item table key (items.Function f) = table

abbrev pub of_items : Resources → List (ItemKey × Item) → Resources
of_items table [] = table
of_items table (e ∷ es) = of_items (with_item table e.0 e.1) es

-- those of a world: of its interfaces, and among the types that it imports
abbrev pub resources_of : Wit → Resources
resources_of wit = of_items (of_interfaces [] wit.interfaces) wit.imports

-- ---- exported interfaces by the ids that compatible versions share; one that two of them share is refused

abbrev pub Exported : Type 0
Exported = List (List ℕ × Reading InterfaceName)

abbrev pub once_more : InterfaceName → Option (Reading InterfaceName) → Reading InterfaceName
once_more name None = readings.Means name
once_more name (Some earlier) = readings.Refused refusals.SeveralMeanings

abbrev pub with_compatible : Exported → InterfaceName → Option Compatible → Exported
with_compatible table name None = table
with_compatible table name (Some c) = insert_entry bytes_eq table c.canonical (once_more name (lookup (bytes_eq c.canonical) table))

abbrev pub with_exported : Exported → Item → Exported
with_exported table (items.Interface name) = with_compatible table name (compatible name)
with_exported table (items.Function f) = table
with_exported table (items.Type ns) = table

abbrev pub exported_after : Exported → List (ItemKey × Item) → Exported
exported_after table [] = table
exported_after table (e ∷ es) = exported_after (with_exported table e.1) es

-- ---- all of these

abbrev pub tables_of : Wit → Tables
tables_of wit = record {
  functions = functions_after [] wit.interfaces;
  resources = resources_of wit;
  imported_versions = greatest_after [] (candidates wit.imports);
  exported_versions = exported_after [] wit.exports;
}

abbrev pub with_tables : Wit → Tables → WorldNames
with_tables wit t = record { wit = wit; functions = t.functions; resources = t.resources; imported_versions = t.imported_versions; exported_versions = t.exported_versions }

-- a world with its tables
abbrev pub names_of : Wit → WorldNames
names_of wit = with_tables wit (tables_of wit)
