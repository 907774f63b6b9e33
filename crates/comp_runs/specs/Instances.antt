-- What is made where a module is instantiated, or an instance is imported (core standard: instantiation;
-- component model, explainer: instance definitions, instance types).
use Rattle.std.specs.Prelude.{ℕ, List, [], ◌∷◌, ◌++◌, Option, Some, None, length, map, filter, slice_get, if◌then◌else◌}
use Rattle.std.specs.List.{flat_map}
use Rattle.std.specs.Option.{option_map, option_and_then}
use Rattle.comp_lists.specs.Found.{found}
use Rattle.comp_bytes.specs.Spaces.{kind_space, export_space, description_space}
use Rattle.comp_bytes.specs.declared.space.Space.{Space}
use Rattle.comp_bytes.specs.declared.space.Space.TheVariants as spaces
use Rattle.standard_kinds.specs.declared.kinds.ExportKind.{ExportKind}
use Rattle.comp_bytes.specs.declared.types.TypeDef.{TypeDef}
use Rattle.comp_bytes.specs.declared.types.TypeDef.TheVariants as types
use Rattle.comp_bytes.specs.declared.types.Alias.{Alias}
use Rattle.comp_bytes.specs.declared.types.Alias.TheVariants as aliases
use Rattle.comp_bytes.specs.declared.types.Description.{Description}
use Rattle.comp_bytes.specs.declared.types.Description.TheVariants as descriptions
use Rattle.comp_bytes.specs.declared.types.Member.{Member}
use Rattle.comp_bytes.specs.declared.types.Member.TheVariants as members
use Rattle.standard_kinds.specs.declared.kinds.ExportKind.TheVariants as kinds
use Rattle.core_types.specs.declared.types.FuncType.{FuncType}
use Rattle.core_bytes.specs.declared.entity.EntityType.{EntityType}
use Rattle.core_bytes.specs.declared.entity.EntityType.TheVariants as entities
use Rattle.core_bytes.specs.declared.entry.Import.{Import as CoreImport}
use Rattle.core_bytes.specs.declared.entry.Export.{Export as CoreExport}
use Rattle.core_bytes.specs.declared.section.Section.{Section}
use Rattle.core_bytes.specs.declared.section.Section.TheVariants as sections
use Rattle.core_runs.specs.Store.{Frame, Foreign, Instantiated}
use Rattle.core_runs.specs.Execution.{answered, seen}
use Rattle.core_runs.specs.Instances.{Given, FunctionAt, TableAt, MemoryAt, GlobalAt, Made, matches, empty_table, instance_of, started}
use Rattle.core_runs.specs.Sections.{parts_of}
use Rattle.comp_trees.specs.Trees.{Origin, is_known, is_known_function, FunctionTree}
use Rattle.comp_trees.specs.DefinedTrees.{TypeTree, OfValues, OfFunctions, function_tree, defined_tree}
use Rattle.comp_roles.specs.Matching.{kind_of}
use Rattle.comp_roles.specs.declared.offered.ExternType.{ExternType}
use Rattle.comp_roles.specs.declared.offered.ExternType.TheVariants as externs
use Rattle.comp_roles.specs.declared.offered.ImportType.{ImportType}
use Rattle.comp_runs.specs.Store.{Thing, Export, CoreItem, ExportedBy, Imported, TypeItem, TreeOf, ImportedResource, OwnResource, own_resources, InstanceTypeOf, tree_held, ModuleInstance}
use Rattle.comp_runs.specs.Machine.{Machine, Outcome, Stuck, Next, with_some, all_some, address_at, is_of, export_named, export_in, export_of, with_item, with_opaque, new_core_instance, new_function, new_type, new_instance, resumed}

-- the exports of a core module by their names, each with its type
abbrev pub ExportTypes : Type 0
ExportTypes = List (List ℕ × ExternType)

-- What a core module is: one of the user's, by the types of its imports and exports as validation finds them; or a
-- generated one, by its sections.
pub data ModuleMeaning : Type 0 where
  OfUser : (imports : List ImportType) (exports : ExportTypes) → ModuleMeaning
  OfGenerated : (sections : List Section) → ModuleMeaning

-- an argument by its name, with the exports of its core instance
abbrev pub Arguments : Type 0
Arguments = List (List ℕ × List Export)

-- the export of this name, where it is of the kind
abbrev pub of_kind : ExportKind → Export → Option Thing
of_kind kind e = if export_in (kind_space kind) e then Some (record { space = e.space; address = e.address }) else None

-- what an argument has for an import
abbrev pub argument_for : Arguments → ExportKind → List ℕ → List ℕ → Option Thing
argument_for arguments kind module_name field = option_and_then (of_kind kind) (option_and_then (export_named field) (found module_name arguments))

-- a core item as an external value
abbrev pub external_at : Space → ℕ → Option Given
external_at spaces.CoreFunc address = Some (FunctionAt address)
external_at spaces.CoreTable address = Some (TableAt address)
external_at spaces.CoreMemory address = Some (MemoryAt address)
external_at spaces.CoreGlobal address = Some (GlobalAt address)
external_at space address = None

abbrev pub external : Thing → Option Given
external t = external_at t.space t.address

-- a type as an entry of an import section has it, over a list of types
abbrev pub types_of : ExternType → List FuncType
types_of (externs.Func type) = type ∷ []
types_of _ = []

abbrev pub entity_of : ExternType → EntityType
entity_of (externs.Func type) = entities.Function 0
entity_of (externs.Table type) = entities.Table type
entity_of (externs.Memory type) = entities.Memory type
entity_of (externs.Global type) = entities.Global type

-- what an import is given, where it matches the import's type
abbrev pub matching : Machine → ExternType → Thing → Option Thing
matching m type t = option_and_then (λ given. if matches (types_of type) m.store.code m.now (entity_of type) given then Some t else None) (external t)

abbrev pub given_to : Machine → Arguments → ImportType → Option Thing
given_to m arguments i = option_and_then (matching m i.ty) (argument_for arguments (kind_of i.ty) i.module_name i.field)

-- the index space of an item of a type, and the address of the next one
abbrev pub type_space : ExternType → Space
type_space (externs.Func type) = spaces.CoreFunc
type_space (externs.Table type) = spaces.CoreTable
type_space (externs.Memory type) = spaces.CoreMemory
type_space (externs.Global type) = spaces.CoreGlobal

abbrev pub next_address : ExternType → Machine → ℕ
next_address (externs.Func type) m = length m.store.code.functions
next_address (externs.Table type) m = length m.store.code.tables
next_address (externs.Memory type) m = length m.store.code.memories
next_address (externs.Global type) m = length m.now.globals

-- One more export of a user instance. What a user's table holds is not modelled: no generated code calls through it.
abbrev pub with_export : CoreItem → ExternType → Machine → Machine
with_export item (externs.Func type) m = record m { store = with_opaque item type m.store }
with_export item (externs.Table type) m =
    record m { store = record m.store { code = record m.store.code { tables = m.store.code.tables ++ empty_table type.minimum ∷ [] } } }
with_export item (externs.Memory type) m = record m { store = record m.store { code = record m.store.code { memories = m.store.code.memories ++ type ∷ [] } } }
with_export item (externs.Global type) m =
    record m {
      store = record m.store { known = m.store.known ++ item ∷ [] };
      now = record m.now { globals = m.now.globals ++ Foreign (length m.store.known) type.val_type ∷ [] };
    }

-- the exports of a user instance, each at an address of its own, and the machine with them
abbrev pub exported_by : ℕ → ExportTypes → Machine → List Export
exported_by user [] m = []
exported_by user ((name, type) ∷ es) m =
    record { space = type_space type; name = name; address = next_address type m } ∷ exported_by user es (with_export (ExportedBy user name) type m)

abbrev pub with_exports : ℕ → ExportTypes → Machine → Machine
with_exports user [] m = m
with_exports user ((name, type) ∷ es) m = with_exports user es (with_export (ExportedBy user name) type m)

-- one more instance of a core module, which is a core instance too
abbrev pub with_module_instance : ModuleInstance → Machine → Machine
with_module_instance i m = new_core_instance i.exports (record m { store = record m.store { module_instances = m.store.module_instances ++ i ∷ [] } })

abbrev pub new_user : ℕ → ExportTypes → List Thing → Machine → Machine
new_user number exports given m =
    let user = length m.store.module_instances in
    with_module_instance (record { module_number = number; given = given; exports = exported_by user exports m }) (with_exports user exports m)

-- a user module is instantiated by the outside, which returns no value
abbrev pub instantiate_user : List ImportType → ExportTypes → ℕ → Arguments → Machine → Next → Outcome
instantiate_user imports exports number arguments m next =
    with_some (all_some (map (given_to m arguments) imports))
    (λ given. resumed (answered [] m.now.answers (seen m.now (Instantiated number))) m (λ values after. next (new_user number exports given after)))

-- the imports and exports of a generated module
abbrev pub section_imports : Section → List CoreImport
section_imports (sections.Imports entries) = entries
section_imports _ = []

abbrev pub section_exports : Section → List CoreExport
section_exports (sections.Exports entries) = entries
section_exports _ = []

abbrev pub entity_kind : EntityType → ExportKind
entity_kind (entities.Function type) = kinds.Func
entity_kind (entities.Table type) = kinds.Table
entity_kind (entities.Memory type) = kinds.Memory
entity_kind (entities.Global type) = kinds.Global

-- the address of an item of a generated instance, by its index
abbrev pub address_in : Frame → ExportKind → ℕ → Option ℕ
address_in f kinds.Func index = slice_get f.functions index
address_in f kinds.Table index = slice_get f.tables index
address_in f kinds.Memory index = slice_get f.memories index
address_in f kinds.Global index = slice_get f.globals index

abbrev pub export_at : Frame → CoreExport → Option Export
export_at f e = option_map (λ (a : ℕ). record { space = kind_space e.kind; name = e.name; address = a }) (address_in f e.kind e.index)

-- A generated module is instantiated as the core standard says: its segments are written, and its start function is
-- called.
abbrev pub instantiate_generated : List Section → ℕ → Arguments → Machine → Next → Outcome
instantiate_generated ss number arguments m next =
    with_some (all_some (map (λ (i : CoreImport). argument_for arguments (entity_kind i.entity) i.module_name i.field) (flat_map section_imports ss)))
    (λ given. with_some (option_and_then (λ externals. instance_of (parts_of ss) externals m.store.code m.now) (all_some (map external given)))
    (λ (made : Made). with_some (all_some (map (export_at made.frame) (flat_map section_exports ss)))
    (λ exports. resumed (started (parts_of ss) made) (record m { store = record m.store { code = made.store } })
    (λ values after. next (with_module_instance (record { module_number = number; given = given; exports = exports }) after)))))

abbrev pub instantiate_module : ModuleMeaning → ℕ → Arguments → Machine → Next → Outcome
instantiate_module (OfUser imports exports) = instantiate_user imports exports
instantiate_module (OfGenerated ss) = instantiate_generated ss

-- the item that an alias names
abbrev pub core_export_at : ExportKind → ℕ → List ℕ → Machine → Option Thing
core_export_at kind instance name m =
    option_and_then (of_kind kind)
    (option_and_then (export_named name) (option_and_then (slice_get m.store.core_instances) (address_at spaces.CoreInstance instance m.scope.items)))

abbrev pub aliased : Alias → Machine → Option Thing
aliased (aliases.Export kind instance name) m =
    option_map (λ (e : Export). record { space = e.space; address = e.address })
    (option_and_then (export_of (export_space kind) name) (option_and_then (slice_get m.store.instances) (address_at spaces.Instance instance m.scope.items)))
aliased (aliases.CoreExport kind instance name) m = core_export_at kind instance name m
aliased (aliases.Outer count index) m =
    option_map (λ (a : ℕ). record { space = spaces.Type; address = a }) (option_and_then (address_at spaces.Type index) (slice_get (m.scope.items ∷ m.scope.around) count))

-- what the type indices of the scope denote
abbrev pub type_scope : Machine → List TypeTree
type_scope m = map (λ (t : Thing). tree_held m.store.types t.address) (filter (is_of spaces.Type) m.scope.items)

-- the type of a function whose parts are all types of values
abbrev pub known_function : FunctionTree → Option TypeTree
known_function f = if is_known_function f then Some (OfFunctions f) else None

-- the type as a run holds it
abbrev pub type_item : TypeDef → Machine → Option TypeItem
type_item (types.Func f) m = option_map (λ tree. TreeOf tree) (known_function (function_tree (type_scope m) f))
type_item (types.Resource None) m = Some (OwnResource (own_resources m.store.types) None)
type_item (types.Resource (Some index)) m = option_map (λ (a : ℕ). OwnResource (own_resources m.store.types) (Some a)) (address_at spaces.CoreFunc index m.scope.items)
type_item (types.Defined t) m = if is_known (defined_tree (type_scope m) t) then Some (TreeOf (OfValues (defined_tree (type_scope m) t))) else None

-- continues with the type of functions, if the type item is one
abbrev pub continue_with_type_item : Option TypeItem → (FunctionTree → Outcome) → Outcome
continue_with_type_item (Some (TreeOf (OfFunctions f))) next = next f
continue_with_type_item type next = Stuck

abbrev pub type_at : ℕ → Machine → Option TypeItem
type_at index m = option_and_then (slice_get m.store.types) (address_at spaces.Type index m.scope.items)

abbrev pub with_function_type : ℕ → Machine → (FunctionTree → Outcome) → Outcome
with_function_type index m next = continue_with_type_item (type_at index m) next

-- one more export
abbrev pub announced : Space → List ℕ → ℕ → Machine → Machine
announced space name address m = record m { scope = record m.scope { exports = m.scope.exports ++ record { space = space; name = name; address = address } ∷ [] } }

-- An item that is described and not defined: an import, or an export of an instance type, with its origin. A type that
-- equals one is that one; a resource type is a new one.
module _ (instance_of : Origin → TypeItem → Machine → (ℕ → Next) → Outcome) where
  abbrev pub described : Origin → Description → Machine → (ℕ → Next) → Outcome
  described origin (descriptions.Func index) m next = with_function_type index m (λ f. next (length m.store.functions) (new_function (Imported origin f) m))
  described origin (descriptions.TypeEqual index) m next = with_some (address_at spaces.Type index m.scope.items) (λ a. next a (with_item spaces.Type a m))
  described origin descriptions.SubResource m next = next (length m.store.types) (new_type (ImportedResource origin) m)
  described origin (descriptions.Instance index) m next = with_some (type_at index m) (λ t. instance_of origin t m next)

-- an instance type exports no instance
abbrev pub no_instance : Origin → TypeItem → Machine → (ℕ → Next) → Outcome
no_instance origin type m next = Stuck

-- the members of an instance type, one after the other
abbrev pub each_member : ℕ → List Member → Machine → Next → Outcome
each_member number [] m next = next m
each_member number (members.Type t ∷ rest) m next = with_some (type_item t m) (λ item. each_member number rest (new_type item m) next)
each_member number (members.Alias a ∷ rest) m next = with_some (aliased a m) (λ thing. each_member number rest (with_item thing.space thing.address m) next)
each_member number (members.Export name description ∷ rest) m next =
    described no_instance (record { number = number; inner = Some name.name }) description m
    (λ address after. each_member number rest (announced (description_space description) name.name address after) next)

-- an instance of an instance type of an outer scope: it has the exports of the type, each a new item
abbrev pub instance_of_type : Origin → TypeItem → Machine → (ℕ → Next) → Outcome
instance_of_type origin (InstanceTypeOf all around) m next =
    each_member origin.number all (record m { scope = record { items = []; around = around; exports = []; imports = 0 } })
    (λ inner. next (length inner.store.instances) (new_instance inner.scope.exports (record inner { scope = m.scope })))
instance_of_type origin _ m next = Stuck
