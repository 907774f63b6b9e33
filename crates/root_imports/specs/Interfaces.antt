-- What is known of the interfaces that were imported, and of those that were exported. (The rules
-- are this project's own.)
use Rattle.std.specs.Prelude.{◌≡◌, ◌≢◌, ℕ, true, List, [], Some, slice_get, is_some}
use Rattle.std.specs.List.{AllByRecursion, list_any}
use Rattle.std.specs.Map.{lookup}
use Rattle.comp_lists.specs.Found.{found}
use Rattle.comp_bytes.specs.declared.space.Space.TheVariants as spaces
use Rattle.comp_bytes.specs.declared.types.Member.{Member}
use Rattle.comp_bytes.specs.declared.def.Def.{Def}
use Rattle.comp_trees.specs.Trees.{FunctionTree}
use Rattle.comp_trees.specs.DefinedTrees.{TypeTree, OfFunctions}
use Rattle.comp_trees.specs.Members.{Surroundings, member_trees, exports_name, function_exported}
use Rattle.comp_inventories.specs.Inventories.{ImportedInstance, NestedInstance, surroundings_of, inventory}
use Rattle.nested_terms.specs.Nested.{NestedExport, type_named}
use Rattle.comp_terms.specs.Exports.{ExportsTypes}
use Rattle.comp_worlds.specs.WorldContents.{name_at}
use Rattle.root_imports.specs.Met.{is_named_of}
use Rattle.wit_data.specs.contracts.ids.InterfaceIdPartialEq.TheImpl as same_id
use Rattle.wit_data.specs.declared.functions.Function.{Function}
use Rattle.wit_data.specs.declared.ids.InterfaceId.{InterfaceId}
use Rattle.wit_data.specs.declared.worlds.WorldKey.{WorldKey}
use Rattle.world_values.specs.Items.{functions_of}
use Rattle.comp_worlds.specs.declared.world.ComponentWorld.{ComponentWorld}
use Rattle.comp_links.specs.Lists.{ImportedInterface, import_entries, names_of_interface, needed_types, resource_of, type_of_world}
use Rattle.type_scopes.specs.Interfaces.{ExportsType}
use Rattle.type_scopes.specs.Titles.{is_one_of}
use Rattle.interface_needs.specs.Needs.{IsImported}
use Rattle.wit_data.specs.declared.ids.TypeId.{TypeId}
use Rattle.comp_links.specs.Roles.{is_used_of}
use Rattle.comp_terms.specs.Planned.{type_of_function}

-- an instance of a type with these members exports a function of this type under a name
pub record ExportsFunction (s : Surroundings) (members : List Member) (name : List ℕ) (type : FunctionTree) : Type 0 where
  pub there : list_any (exports_name spaces.Func name) members ≡ true
  pub typed : function_exported (member_trees s [] members) name members ≡ OfFunctions type

-- each function of the interface that core imports use is exported, with its type
pub record ExportsUsed (w : ComponentWorld) (id : InterfaceId) (s : Surroundings) (members : List Member) : Type 0 where
  pub each : (name : List ℕ) (f : Function) → found name (functions_of w.resolve id) ≡ Some f → is_used_of w id name ≡ true → ExportsFunction s members name (type_of_function w f)

-- each type of the interface that the component needs is exported, under its name
abbrev pub ExportsNeeded : ComponentWorld → InterfaceId → Surroundings → List Member → Type 0
ExportsNeeded w id s members = AllByRecursion (ExportsType s (resource_of w) w.resolve.types id members) (needed_types w id)

-- the instance is the world's interface, as it is imported
pub record IsInterfaceImport (w : ComponentWorld) (ds : List Def) (id : InterfaceId) (index : ℕ) : Type 0 where
  pub key : WorldKey
  pub number : ℕ
  pub outer : List TypeTree
  pub members : List Member
  pub stated : slice_get (import_entries w) number ≡ Some (ImportedInterface key id)
  pub imported : slice_get (inventory ds).instances index ≡ Some (ImportedInstance number outer members)
  pub functions : ExportsUsed w id (surroundings_of number outer) members
  pub types : ExportsNeeded w id (surroundings_of number outer) members

-- an interface of which something is needed is found
abbrev pub IsFoundInterface : ComponentWorld → List (InterfaceId × ℕ) → InterfaceId → Type 0
IsFoundInterface w instances id = names_of_interface w id ≢ [] → is_some (lookup (same_id.eq-value.it id) instances) ≡ true

-- each instance is the interface that it is found for
pub record FindsInterfaces (w : ComponentWorld) (ds : List Def) (instances : List (InterfaceId × ℕ)) : Type 0 where
  pub each : AllByRecursion (λ e. IsInterfaceImport w ds e.0 e.1) instances

-- each interface that the world imports is found, if something of it is needed
pub record FindsNeededInterfaces (w : ComponentWorld) (instances : List (InterfaceId × ℕ)) : Type 0 where
  pub each : (id : InterfaceId) → IsImported w id → IsFoundInterface w instances id

-- what is known of the instances of the interfaces, once all are imported
pub record AreInstancesKnown (w : ComponentWorld) (ds : List Def) (instances : List (InterfaceId × ℕ)) : Type 0 where
  pub finds : FindsInterfaces w ds instances
  pub needed : FindsNeededInterfaces w instances
  pub imported : (id : InterfaceId) (t : TypeId) → is_one_of (needed_types w id) t.index ≡ true → IsImported w id
  pub named : (id : InterfaceId) (t : TypeId) → is_one_of (needed_types w id) t.index ≡ true → is_named_of w.resolve.types id t.index ≡ true

-- ---- exported interfaces

-- the instance of a nested component, which exports each type of the interface under its name
pub record IsInterfaceExport (w : ComponentWorld) (ds : List Def) (id : InterfaceId) (index : ℕ) : Type 0 where
  pub exported : List NestedExport
  pub nested : slice_get (inventory ds).instances index ≡ Some (NestedInstance exported)
  pub types : (t : TypeId) (name : List ℕ) → is_named_of w.resolve.types id t.index ≡ true → name_at w.resolve.types t.index ≡ Some name → type_named name exported ≡ Some (type_of_world w t)

-- each instance is one of the interface that it is found for
pub record FindsExports (w : ComponentWorld) (ds : List Def) (exported : List (InterfaceId × ℕ)) : Type 0 where
  pub each : AllByRecursion (λ e. IsInterfaceExport w ds e.0 e.1) exported

-- what is known of the instances of all interfaces: those that were exported, and those that were imported
pub record AreInterfacesKnown (w : ComponentWorld) (ds : List Def) (exported instances : List (InterfaceId × ℕ)) : Type 0 where
  pub imports : AreInstancesKnown w ds instances
  pub exports : FindsExports w ds exported

-- the instance that was exported for an interface: it exports each type that the interface lists
pub record ExportsListed (w : ComponentWorld) (ds : List Def) (id : InterfaceId) (index : ℕ) : Type 0 where
  pub exported : List NestedExport
  pub nested : slice_get (inventory ds).instances index ≡ Some (NestedInstance exported)
  pub types : ExportsTypes w id exported
