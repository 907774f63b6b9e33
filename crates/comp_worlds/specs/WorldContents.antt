-- What a validated world contains (component model: the imports and exports of a world; WIT: functions, types).
use Rattle.std.specs.Prelude.{ℕ, List, [], ◌∷◌, ◌++◌, Option, Some, None, get_or, slice_get}
use Rattle.std.specs.List.{flat_map}
use Rattle.std.specs.Map.{lookup}
use Rattle.std.specs.Option.{option_and_then}
use Rattle.wit_data.specs.Keys.{is_same_key}
use Rattle.wit_data.specs.declared.functions.Function.{Function}
use Rattle.wit_data.specs.declared.ids.InterfaceId.{InterfaceId}
use Rattle.wit_data.specs.declared.ids.TypeId.{TypeId}
use Rattle.wit_data.specs.declared.types.TypeDef.{TypeDef}
use Rattle.wit_data.specs.declared.types.TypeOwner.{TypeOwner}
use Rattle.wit_data.specs.declared.types.TypeOwner.TheVariants as owners
use Rattle.wit_data.specs.declared.worlds.WorldKey.{WorldKey}
use Rattle.wit_data.specs.declared.worlds.WorldKey.TheVariants as keys
use Rattle.wit_data.specs.declared.worlds.WorldItem.{WorldItem}
use Rattle.wit_data.specs.declared.worlds.WorldItem.TheVariants as items
use Rattle.wit_data.specs.declared.worlds.World.{World}
use Rattle.comp_roles.specs.declared.imports.Import.{Import}
use Rattle.comp_roles.specs.declared.imports.Import.TheVariants as imports
use Rattle.comp_roles.specs.declared.exports.Export.{Export}
use Rattle.comp_worlds.specs.declared.world.ComponentWorld.{ComponentWorld}
use Rattle.comp_roles.specs.Functions.{of_function}
use Rattle.world_values.specs.CoreExports.{implementations}
use Rattle.world_values.specs.Items.{no_items, function_of_item}

-- the imports and exports of the world
abbrev pub items_of : ComponentWorld → World
items_of w = get_or w.resolve.worlds w.world.index no_items

-- the name of an item that is a function at the root
abbrev pub root_function : WorldKey × WorldItem → List (List ℕ)
root_function (keys.Name text, items.Function f) = text ∷ []
root_function entry = []

-- the types that the world imports, each by its name, in order
abbrev pub world_type : WorldKey × WorldItem → List (List ℕ × TypeId)
world_type (keys.Name text, items.NamedType id) = (text, id) ∷ []
world_type entry = []

abbrev pub imported_types : ComponentWorld → List (List ℕ × TypeId)
imported_types w = flat_map world_type (items_of w).imports

-- the interface that a type belongs to, if it belongs to one, and the name of the type, if it has one
abbrev pub interface_of_owner : TypeOwner → Option InterfaceId
interface_of_owner (owners.Interface id) = Some id
interface_of_owner owner = None

abbrev pub interface_at : List TypeDef → ℕ → Option InterfaceId
interface_at types n = option_and_then (λ t. interface_of_owner t.owner) (slice_get types n)

abbrev pub name_at : List TypeDef → ℕ → Option (List ℕ)
name_at types n = option_and_then (λ t. t.name) (slice_get types n)

-- the root functions that the world imports, and that it exports, in order
abbrev pub imported_functions : ComponentWorld → List (List ℕ)
imported_functions w = flat_map root_function (items_of w).imports

abbrev pub exported_functions : ComponentWorld → List (List ℕ)
exported_functions w = flat_map root_function (items_of w).exports

-- the name of the root function that an import uses
abbrev pub imported_name : Import → Option (List ℕ)
imported_name (imports.WorldFunc (keys.Name text) function abi) = Some text
imported_name role = None

-- ---- exports

-- the keys that user modules have to export: those of main, then those of the adapters in order
abbrev pub keys_required : ComponentWorld → List WorldKey
keys_required w = w.main_exports ++ flat_map (λ a. a.1.required_exports) w.adapters

-- what the world exports at a key
abbrev pub exported_item : ComponentWorld → WorldKey → Option WorldItem
exported_item w key = lookup (is_same_key key) (items_of w).exports

-- the function of this name that the world exports at a key
abbrev pub function_exported : ComponentWorld → WorldKey → List ℕ → Option Function
function_exported w key name = function_of_item w.resolve name (exported_item w key)

-- the core export that implements the function of this name at a key, among those of a module
abbrev pub core_name_in : List (List ℕ × Export) → WorldKey → List ℕ → Option (List ℕ)
core_name_in exports key name = of_function key name (implementations exports)
