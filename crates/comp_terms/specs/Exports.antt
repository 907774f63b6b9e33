-- The instances of nested components, and what the component exports: functions, and such instances in the place of
-- interfaces (component model, explainer: instance definitions, export definitions).
use Rattle.std.specs.Prelude.{◌≡◌, ℕ, List, length, slice_get, Some}
use Rattle.std.specs.List.{AllByRecursion, IsDistinct, flat_map}
use Rattle.std.specs.Str.{bytes_eq}
use Rattle.comp_bytes.specs.ItemIndices.{IsAt}
use Rattle.comp_bytes.specs.ScopeNames.{def_export, item_import}
use Rattle.comp_bytes.specs.declared.space.Sort.TheVariants as sorts
use Rattle.comp_bytes.specs.declared.space.Space.TheVariants as spaces
use Rattle.comp_bytes.specs.declared.def.Argument.{Argument}
use Rattle.comp_bytes.specs.declared.def.Item.{Item}
use Rattle.comp_bytes.specs.declared.def.Item.TheVariants as items
use Rattle.comp_bytes.specs.declared.def.Def.{Def}
use Rattle.comp_bytes.specs.declared.def.Def.TheVariants as defs
use Rattle.wit_data.specs.Live.{named_types}
use Rattle.wit_data.specs.declared.functions.Function.{Function as WitFunction}
use Rattle.wit_data.specs.declared.ids.InterfaceId.{InterfaceId}
use Rattle.wit_data.specs.declared.worlds.WorldItem.TheVariants as world_items
use Rattle.wit_data.specs.declared.worlds.WorldKey.{WorldKey}
use Rattle.comp_inventories.specs.Inventories.{argument_named}
use Rattle.nested_terms.specs.Nested.{NestedFunction, NestedExport, type_import, empty_scope, function_named, type_named, exports_after}
use Rattle.comp_worlds.specs.WorldContents.{exported_item, function_exported}
use Rattle.comp_worlds.specs.declared.world.ComponentWorld.{ComponentWorld}
use Rattle.comp_links.specs.Links.{lift_of}
use Rattle.comp_links.specs.Lists.{RequiredKey, required_keys, RequiredFunction, functions_required, type_of_world, IsTypeImport}
use Rattle.comp_links.specs.Targets.{Target}
use Rattle.comp_terms.specs.Instances.{InstantiatesNested}
use Rattle.comp_terms.specs.Planned.{type_of_function, IsLiftFor}

-- A nested component is one of an exported interface: the types that it imports are named after
-- types of the interface or of others that it may use, and no two of its imports have one name.
pub record IsNestedFor (w : ComponentWorld) (definitions : List Item) : Type 0 where
  pub key : WorldKey
  pub id : InterfaceId
  pub item : exported_item w key ≡ Some (world_items.Interface id)
  pub types : AllByRecursion (IsTypeImport w id) (flat_map type_import definitions)
  pub apart : IsDistinct bytes_eq (flat_map item_import definitions)

-- ---- exports

-- the number of exports among these definitions
abbrev pub exports_in : List Def → ℕ
exports_in ds = length (flat_map def_export ds)

-- the function of this index is the lift that the link table names for a required function, with its type
pub record IsRequiredLift (w : ComponentWorld) (ds : List Def) (r : RequiredFunction) (index : ℕ) : Type 0 where
  pub target : Target
  pub wit : WitFunction
  pub said : lift_of w r ≡ Some target
  pub exported : function_exported w r.key r.function ≡ Some wit
  pub is : IsLiftFor w ds index target (type_of_function w wit)

-- the next required export is a function, and the function of this index is its lift
pub record ExportsFunction (w : ComponentWorld) (earlier : List Def) (index : ℕ) : Type 0 where
  pub required : RequiredKey
  pub function : WitFunction
  pub next : slice_get (required_keys w) (exports_in earlier) ≡ Some required
  pub item : exported_item w required.key ≡ Some (world_items.Function function)
  pub lifted : IsRequiredLift w earlier (record { of = required.of; key = required.key; function = function.name }) index

-- an instance of a nested component that was given these arguments, and exports this, exports the
-- lift of a required function under the name of the function
pub record PassesOn (w : ComponentWorld) (ds : List Def) (arguments : List Argument) (exported : List NestedExport) (r : RequiredFunction) : Type 0 where
  pub function : NestedFunction
  pub argument : Argument
  pub found : function_named r.function exported ≡ Some function
  pub named : argument_named sorts.Func function.argument arguments ≡ Some argument
  pub lifted : IsRequiredLift w ds r argument.index

-- each type that an interface lists is exported under its name, and what is exported denotes what the type does
abbrev pub ExportsTypes : ComponentWorld → InterfaceId → List NestedExport → Type 0
ExportsTypes w id exported = AllByRecursion (λ t. type_named t.0 exported ≡ Some (type_of_world w t.1)) (named_types w.resolve id)

-- the next required export is an interface, and the instance of this index exports each of its
-- types, and the lift of each of its functions
pub record ExportsInterface (w : ComponentWorld) (earlier : List Def) (index : ℕ) : Type 0 where
  pub required : RequiredKey
  pub id : InterfaceId
  pub next : slice_get (required_keys w) (exports_in earlier) ≡ Some required
  pub item : exported_item w required.key ≡ Some (world_items.Interface id)
  pub component : ℕ
  pub arguments : List Argument
  pub instance : IsAt earlier spaces.Instance index (defs.Item (items.Instantiate component arguments))
  pub nested : InstantiatesNested earlier component arguments
  pub types : ExportsTypes w id (exports_after nested.given empty_scope nested.definitions)
  pub each : AllByRecursion (PassesOn w earlier arguments (exports_after nested.given empty_scope nested.definitions)) (functions_required w required)
