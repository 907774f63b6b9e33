-- What the items of a run are, next to the definitions that made them.
use Rattle.std.proofs.Common.{true, false, cond, None, ◌≡◌, ◌<◌, ◌^◌, ◌+◌, ◌⊎◌, ℕ, suc, Option, Bool, List, [], ◌∷◌, length, map, filter, Some, is_some}
use Rattle.std.proofs.Math.Dec.{ltb}
use Rattle.std.specs.Prelude.{Contains, nat_eq}
use Rattle.std.specs.Fmt.{decimal}
use Rattle.std.specs.List.{slice_get, flat_map, AllZip, AllByRecursion}
use Rattle.comp_bytes.specs.Spaces.{kind_space, space_of, sort_space}
use Rattle.comp_bytes.specs.declared.space.Space.{Space}
use Rattle.comp_bytes.specs.declared.space.Space.TheVariants as spaces
use Rattle.standard_kinds.specs.declared.kinds.ExportKind.{ExportKind}
use Rattle.standard_kinds.specs.declared.kinds.StringEncoding.TheVariants as encodings
use Rattle.comp_bytes.specs.declared.canon.CanonicalOption.{CanonicalOption}
use Rattle.comp_bytes.specs.declared.canon.CanonicalOption.TheVariants as options
use Rattle.core_types.specs.declared.types.MemoryType.{MemoryType}
use Rattle.comp_lists.specs.Found.{found}
use Rattle.comp_roles.specs.Matching.{kind_of}
use Rattle.comp_bytes.specs.declared.types.Alias.TheVariants as aliases
use Rattle.comp_bytes.specs.declared.canon.Intrinsic.{Intrinsic}
use Rattle.comp_bytes.specs.declared.types.ComponentValType.{ComponentValType}
use Rattle.comp_bytes.specs.declared.types.ComponentValType.TheVariants as values
use Rattle.comp_bytes.specs.declared.def.CoreInlineExport.{CoreInlineExport}
use Rattle.comp_bytes.specs.declared.def.Item.{Item}
use Rattle.comp_bytes.specs.declared.def.Item.TheVariants as items
use Rattle.comp_bytes.specs.declared.def.Def.{Def}
use Rattle.comp_bytes.specs.declared.def.Def.TheVariants as defs
use Rattle.comp_bytes.specs.ScopeNames.{def_export}
use Rattle.comp_bytes.specs.ItemIndices.{IsAt}
use Rattle.comp_bytes.specs.Parts.{Parts, parts_of}
use Rattle.comp_bytes.specs.declared.def.Argument.{Argument}
use Rattle.core_types.specs.declared.types.FuncType.{FuncType}
use Rattle.core_types.specs.declared.types.ValType.{ValType}
use Rattle.core_types.specs.declared.types.ValType.TheVariants.{I32}
use Rattle.comp_trees.specs.Trees.{Tree, PrimitiveOf, Origin, Resource, ResourceAt, FunctionTree}
use Rattle.comp_trees.specs.DefinedTrees.{OfValues, OfFunctions, TypeTree}
use Rattle.comp_inventories.specs.Inventories.{TypeEntry, Denoting, OfInstances, FunctionEntry, InstanceEntry, entry_tree, inventory}
use Rattle.comp_roles.specs.CoreTypes.{function_type}
use Rattle.comp_roles.specs.declared.offered.ExternType.{ExternType}
use Rattle.comp_roles.specs.declared.offered.ExternType.TheVariants as externs
use Rattle.comp_roles.specs.declared.offered.ImportType.{ImportType}
use Rattle.comp_worlds.specs.Bases.{cell_type}
use Rattle.comp_worlds.specs.WorldContents.{exported_item, function_exported}
use Rattle.comp_worlds.specs.declared.world.ComponentWorld.{ComponentWorld}
use Rattle.comp_links.specs.Targets.{Main, ExportRef, WorldFunction, TargetOption, ResourceFunction, New, Rep, Drop, operand_tree, Target, Lowered, ExportOf, MainMemory, OfResource, BuiltIn, TlsGet, TlsSet}
use Rattle.comp_links.specs.Targets as targets
use Rattle.comp_links.specs.Modules.{WorldModule, user_modules, IsModule}
use Rattle.comp_links.specs.Lists.{IsOriginOf, resource_of, RequiredKey, required_keys, RequiredFunction, functions_required, RequiredType, types_required, type_of_world, ProvidedType, provided_resources}
use Rattle.comp_links.specs.Links.{core_name, lift_options, link_at, destructor_of}
use Rattle.shim_plan.specs.declared.shims.Shim.{Shim}
use Rattle.world_shims.specs.WorldShims.{shims_of}
use Rattle.shim_runs.specs.ShimRuns.{AreShimsFrom, AreOfCell, instance_exports}
use Rattle.comp_terms.specs.Generated.{has_shim_module, shims_number, fixup_number, Purpose, target_of, HasPurpose}
use Rattle.comp_terms.specs.Shimmed.{has_shim_at}
use Rattle.comp_worlds.specs.Offered.{shared_memory}
use Rattle.comp_terms.specs.Terms.{CoreExport, IsInstanceOf, intrinsic_of, imports_in}
use Rattle.comp_terms.specs.Planned.{main_memory, IsShimPlace, IsTypeOf, type_of_function}
use Rattle.core_runs.specs.Cells.{IsGetter, IsSetter}
use Rattle.core_runs.specs.Store.{Opaque, Event, Instantiated, Called}
use Rattle.core_runs.specs.Instances.{empty_table}
use Rattle.comp_runs.specs.Store.{Thing, Export, HeldOption, HeldEncoding, HeldMemory, HeldRealloc, HeldPostReturn, HeldAsync, HeldCallback, CoreItem, Lowering, IntrinsicOf, ExportedBy, Function, Imported, Lifting, TypeItem, TreeOf, OwnResource, item_tree, own_resources as resources_among, ModuleInstance, Store, ComponentItem}
use Rattle.comp_runs.specs.Instances.{type_space}
use Rattle.comp_runs.specs.Machine.{Scope, address_at, is_of, export_named, export_of}
use Rattle.comp_runs.specs.Signatures.{core_signature, intrinsic_signature}
use Rattle.instance_laws.specs.Instantiated.{IsHeldAs}
use Rattle.instance_laws.specs.InstanceEntries.{IsInstanceType, IsInstanceEntry}
use Rattle.nested_terms.specs.Nested.{empty_scope, imports_after, exports_after}
use Rattle.nested_laws.specs.NestedRuns.{AreGiven, AreNestedExports}
use Rattle.link_laws.specs.Composition.{at_root, item_instantiates}
use Rattle.link_laws.specs.Linking.{StartCall, start_calls}
use Rattle.wit_data.specs.declared.functions.Function.{Function as WitFunction}
use Rattle.wit_data.specs.declared.ids.TypeId.{TypeId}
use Rattle.wit_data.specs.declared.worlds.WorldKey.{WorldKey}
use Rattle.wit_data.specs.declared.worlds.WorldItem.{WorldItem}
use Rattle.wit_data.specs.declared.worlds.WorldItem.TheVariants as world_items

-- the core function at this address is opaque, of this core type, and is this item
pub record IsOpaqueOf (s : Store) (address : ℕ) (type : FuncType) (item : CoreItem) : Type 0 where
  pub what : ℕ
  pub present : slice_get s.code.functions address ≡ Some (Opaque what type)
  pub known : slice_get s.known what ≡ Some item

-- the table at this address has this many slots
pub record HasSlots (tables : List (List (Option ℕ))) (address size : ℕ) : Type 0 where
  pub slots : List (Option ℕ)
  pub present : slice_get tables address ≡ Some slots
  pub counted : length slots ≡ size

-- what is at the address of an item that is no function: a table has as many slots as its minimum,
-- and a memory has its type; which types globals have, the store doesn't say
abbrev pub IsItemTyped : Store → ℕ → ExternType → Type 0
IsItemTyped s address (externs.Table type) = HasSlots s.code.tables address type.minimum
IsItemTyped s address (externs.Memory type) = slice_get s.code.memories address ≡ Some type
IsItemTyped s address type = Unit {0}

-- what is at the address of an export of this user instance; a function is opaque
abbrev pub IsUserItem : Store → ℕ → Export → ExternType → Type 0
IsUserItem s user e (externs.Func type) = IsOpaqueOf s e.address type (ExportedBy user e.name)
IsUserItem s user e type = IsItemTyped s e.address type

-- an export of this user instance, which validation found with this name and type
pub record IsUserExport (s : Store) (user : ℕ) (e : Export) (found : List ℕ × ExternType) : Type 0 where
  pub named : e.name ≡ found.0
  pub space : e.space ≡ type_space found.1
  pub is : IsUserItem s user e found.1

-- the user instance of this number is an instance of this module
pub record IsInstance (s : Store) (user number : ℕ) : Type 0 where
  pub instance : ModuleInstance
  pub present : slice_get s.module_instances user ≡ Some instance
  pub of : instance.module_number ≡ number

-- the core instance is an instance of this user module, which has this number, with all that the module offers
pub record IsUserInstance (s : Store) (number : ℕ) (of : WorldModule) (address : ℕ) : Type 0 where
  pub exports : List Export
  pub user : ℕ
  pub present : slice_get s.core_instances address ≡ Some exports
  pub is : IsInstance s user number
  pub same : is.instance.exports ≡ exports
  pub each : AllZip (IsUserExport s user) exports of.found.offered

-- where the shims are: the address of the first, that of their table, and that of the memory which is made with them
pub record ShimsAt : Type 0 where
  pub address : ℕ
  pub table : ℕ
  pub memory : Option ℕ

-- what an instance of their module exports
abbrev pub exports_of_shims : ComponentWorld → ShimsAt → List Export
exports_of_shims w at = instance_exports (shims_of w) at.address at.table at.memory (cell_type w)

-- what an instance of a module exports: of a user module, of the shims, or of the fixup
pub record AreUserExports (w : ComponentWorld) (s : Store) (user number : ℕ) (exports : List Export) : Type 0 where
  pub of : WorldModule
  pub listed : slice_get (user_modules w) number ≡ Some of
  pub each : AllZip (IsUserExport s user) exports of.found.offered

abbrev pub AreShimExports : ComponentWorld → Option ShimsAt → ℕ → List Export → Type 0
AreShimExports w None number exports = ⊥
AreShimExports w (Some at) number exports = (number ≡ shims_number w) × (exports ≡ exports_of_shims w at)

abbrev pub AreModuleExports : ComponentWorld → Option ShimsAt → Store → ℕ → ℕ → List Export → Type 0
AreModuleExports w at s user number exports = AreUserExports w s user number exports ⊎ AreShimExports w at number exports ⊎ (number ≡ fixup_number w)

-- the core instance is an instance of the module of this number
pub record IsModuleInstance (w : ComponentWorld) (at : Option ShimsAt) (s : Store) (number address : ℕ) : Type 0 where
  pub exports : List Export
  pub user : ℕ
  pub present : slice_get s.core_instances address ≡ Some exports
  pub is : IsInstance s user number
  pub same : is.instance.exports ≡ exports
  pub each : AreModuleExports w at s user number exports

-- the export is the entry's item under its name
pub record IsNamedEntry (things : List Thing) (e : CoreInlineExport) (x : Export) : Type 0 where
  pub named : x.name ≡ e.name
  pub space : x.space ≡ kind_space e.kind
  pub at : address_at (kind_space e.kind) e.index things ≡ Some x.address

pub record IsInlineInstance (things : List Thing) (s : Store) (entries : List CoreInlineExport) (address : ℕ) : Type 0 where
  pub exports : List Export
  pub present : slice_get s.core_instances address ≡ Some exports
  pub each : AllZip (IsNamedEntry things) entries exports

-- the type at this index is this type of functions
pub record IsTypeAt (things : List Thing) (s : Store) (kind : ℕ) (type : FunctionTree) : Type 0 where
  pub address : ℕ
  pub at : address_at spaces.Type kind things ≡ Some address
  pub is : slice_get s.types address ≡ Some (TreeOf (OfFunctions type))

-- the core types of the functions of a resource's handles: a handle is a number, and so is a representation
abbrev pub drop_core : FuncType
drop_core = function_type (I32 ∷ []) []

abbrev pub resource_core : ResourceFunction → FuncType
resource_core New = function_type (I32 ∷ []) (I32 ∷ [])
resource_core Rep = function_type (I32 ∷ []) (I32 ∷ [])
resource_core Drop = drop_core

-- an option, with the address of what it names
abbrev pub IsHeldOption : List Thing → CanonicalOption → HeldOption → Type 0
IsHeldOption things options.Utf8 (HeldEncoding e) = e ≡ encodings.UTF8
IsHeldOption things options.Utf16 (HeldEncoding e) = e ≡ encodings.UTF16
IsHeldOption things options.CompactUtf16 (HeldEncoding e) = e ≡ encodings.CompactUTF16
IsHeldOption things (options.Memory index) (HeldMemory a) = address_at spaces.CoreMemory index things ≡ Some a
IsHeldOption things (options.Realloc index) (HeldRealloc a) = address_at spaces.CoreFunc index things ≡ Some a
IsHeldOption things (options.PostReturn index) (HeldPostReturn a) = address_at spaces.CoreFunc index things ≡ Some a
IsHeldOption things (options.Callback index) (HeldCallback a) = address_at spaces.CoreFunc index things ≡ Some a
IsHeldOption things options.Async HeldAsync = Unit {0}
IsHeldOption things option held = ⊥

-- the type at this index is this one of values, or this resource
pub record IsTypeHeld (things : List Thing) (s : Store) (index : ℕ) (tree : Tree) : Type 0 where
  pub address : ℕ
  pub at : address_at spaces.Type index things ≡ Some address
  pub is : IsHeldAs s.types (OfValues tree) address

-- the operand of an intrinsic is this, if it has one
abbrev pub IsHeldOperand : List Thing → Store → Option ComponentValType → Option Tree → Type 0
IsHeldOperand things s None None = Unit {0}
IsHeldOperand things s (Some (values.Primitive p)) (Some tree) = PrimitiveOf p ≡ tree
IsHeldOperand things s (Some (values.Defined index)) (Some tree) = IsTypeHeld things s index tree
IsHeldOperand things s written operand = ⊥

-- an intrinsic of these parts, with its core type
pub record IsIntrinsicItem (things : List Thing) (s : Store) (parts : Parts) (address : ℕ) : Type 0 where
  pub operand : Option Tree
  pub held : List HeldOption
  pub of : IsHeldOperand things s parts.operand operand
  pub with_options : AllZip (IsHeldOption things) parts.options held
  pub is : IsOpaqueOf s address (intrinsic_signature parts.name operand) (IntrinsicOf parts.name operand held)

-- a lowering of the import at this index, with these options, of the core type of its type
pub record IsLoweredItem (things : List Thing) (s : Store) (function : ℕ) (written : List CanonicalOption) (address : ℕ) : Type 0 where
  pub of : ℕ
  pub origin : Origin
  pub held : List HeldOption
  pub type : FunctionTree
  pub at : address_at spaces.Func function things ≡ Some of
  pub imported : slice_get s.functions of ≡ Some (Imported origin type)
  pub with_options : AllZip (IsHeldOption things) written held
  pub is : IsOpaqueOf s address (core_signature type held) (Lowering of held)

-- a lift of the core function at this index, with these options, of the type at this index
pub record IsLiftedItem (things : List Thing) (s : Store) (core : ℕ) (written : List CanonicalOption) (kind address : ℕ) : Type 0 where
  pub of : ℕ
  pub held : List HeldOption
  pub type : FunctionTree
  pub at : address_at spaces.CoreFunc core things ≡ Some of
  pub with_options : AllZip (IsHeldOption things) written held
  pub typed : IsTypeAt things s kind type
  pub is : slice_get s.functions address ≡ Some (Lifting of held type)

-- what an alias names of an instance of a module: an export of a user module, of a kind that
-- validation found, or what the module of shims exports
pub record NamesUser (w : ComponentWorld) (number : ℕ) (kind : ExportKind) (name : List ℕ) : Type 0 where
  pub of : WorldModule
  pub listed : slice_get (user_modules w) number ≡ Some of
  pub type : ExternType
  pub offered : found name of.found.offered ≡ Some type
  pub of_kind : kind_of type ≡ kind

-- an alias of an export of a module's instance
pub record IsAliasedItem (w : ComponentWorld) (ds : List Def) (things : List Thing) (s : Store) (kind : ExportKind) (instance : ℕ) (name : List ℕ) (address : ℕ) : Type 0 where
  pub number : ℕ
  pub of : IsInstanceOf ds instance number
  pub names : NamesUser w number kind name ⊎ (number ≡ shims_number w)
  pub from : ℕ
  pub exports : List Export
  pub export : Export
  pub at : address_at spaces.CoreInstance instance things ≡ Some from
  pub present : slice_get s.core_instances from ≡ Some exports
  pub found : export_named name exports ≡ Some export
  pub is : export.address ≡ address

-- a nested component with these definitions
pub record IsComponentHeld (s : Store) (definitions : List Item) (address : ℕ) : Type 0 where
  pub component : ComponentItem
  pub present : slice_get s.components address ≡ Some component
  pub same : component.definitions ≡ definitions

-- an argument of a nested component, with the address of what it names
pub record IsArgumentHeld (things : List Thing) (a : Argument) (x : Export) : Type 0 where
  pub named : x.name ≡ a.name
  pub space : x.space ≡ sort_space a.sort
  pub at : address_at (sort_space a.sort) a.index things ≡ Some x.address

-- an instance of the nested component at this index, with these arguments: it exports what the
-- component's definitions say
pub record IsNestedInstance (ds : List Def) (things : List Thing) (s : Store) (component : ℕ) (written : List Argument) (address : ℕ) : Type 0 where
  pub definitions : List Item
  pub given : List ℕ → TypeTree
  pub arguments : List Export
  pub exports : List Export
  pub made : IsAt ds spaces.Component component (defs.Component definitions)
  pub held : AllZip (IsArgumentHeld things) written arguments
  pub present : slice_get s.instances address ≡ Some exports
  pub imports : AreGiven s.types arguments (imports_after given empty_scope definitions)
  pub each : AreNestedExports s.types arguments (exports_after given empty_scope definitions) exports

-- What is at the address of a definition's item. What types and functions are, the inventory of the list says.
module _ (w : ComponentWorld) (shims : Option ShimsAt) (ds : List Def) (things : List Thing) (s : Store) where
  abbrev pub ItemIs : Item → ℕ → Type 0
  ItemIs (items.CoreInstantiate number arguments) a = IsModuleInstance w shims s number a
  ItemIs (items.CoreExports entries) a = IsInlineInstance things s entries a
  ItemIs (items.Alias (aliases.CoreExport kind instance name)) a = IsAliasedItem w ds things s kind instance name a
  ItemIs (items.Lift core options kind) a = IsLiftedItem things s core options kind a
  ItemIs (items.Lower function options) a = IsLoweredItem things s function options a
  ItemIs (items.Intrinsic intrinsic) a = IsIntrinsicItem things s (parts_of intrinsic) a
  ItemIs (items.Instantiate component arguments) a = IsNestedInstance ds things s component arguments a
  ItemIs _ a = Unit {0}

  abbrev pub DefIs : Def → ℕ → Type 0
  DefIs (defs.Item i) a = ItemIs i a
  DefIs (defs.Component inner) a = IsComponentHeld s inner a

  -- the item of a definition
  pub record Means (d : Def) (t : Thing) : Type 0 where
    pub space : space_of d ≡ Some t.space
    pub is : DefIs d t.address

-- whether a definition makes an item
abbrev pub makes : Def → Bool
makes d = is_some (space_of d)

-- a type of instances has the members that its entry says
abbrev pub IsEntryItem : List TypeItem → TypeEntry → TypeItem → Type 0
IsEntryItem types (Denoting tree) item = Unit {0}
IsEntryItem types (OfInstances outer members) item = IsInstanceType types outer members item

-- the type is what the entry of the inventory says
pub record IsTypeEntry (s : Store) (e : TypeEntry) (t : Thing) : Type 0 where
  pub item : TypeItem
  pub present : slice_get s.types t.address ≡ Some item
  pub denotes : item_tree item ≡ entry_tree e
  pub is : IsEntryItem s.types e item

-- the function is what the entry of the inventory says
abbrev pub entry_of : Function → FunctionEntry
entry_of (Imported origin type) = record { origin = Some origin; type = OfFunctions type }
entry_of (Lifting core options type) = record { origin = None; type = OfFunctions type }

pub record IsFunctionEntry (s : Store) (e : FunctionEntry) (t : Thing) : Type 0 where
  pub function : Function
  pub present : slice_get s.functions t.address ≡ Some function
  pub same : entry_of function ≡ e

-- the instance is what the entry of the inventory says
pub record IsInstanceThing (s : Store) (e : InstanceEntry) (t : Thing) : Type 0 where
  pub exports : List Export
  pub present : slice_get s.instances t.address ≡ Some exports
  pub is : IsInstanceEntry s.types s.functions e exports

-- main, as a user module
abbrev pub main_module : ComponentWorld → WorldModule
main_module w = record { of = Main; found = w.main }

-- the core function is this export of a user module, of the type that validation found
pub record IsFunctionExported (w : ComponentWorld) (s : Store) (address : ℕ) (export_ref : ExportRef) : Type 0 where
  pub number : ℕ
  pub of : IsModule w number export_ref.of
  pub user : ℕ
  pub instance : IsInstance s user number
  pub type : FuncType
  pub is : IsOpaqueOf s address type (ExportedBy user export_ref.name)
  pub offered : found export_ref.name of.world_module.found.offered ≡ Some (externs.Func type)

-- the item of this space, which is none of functions, is this export of a user module, of the type
-- that validation found
pub record IsItemExported (w : ComponentWorld) (s : Store) (space : Space) (address : ℕ) (export_ref : ExportRef) : Type 0 where
  pub number : ℕ
  pub of : IsModule w number export_ref.of
  pub user : ℕ
  pub instance : IsInstance s user number
  pub exported : export_named export_ref.name instance.instance.exports ≡ Some (record { space = space; name = export_ref.name; address = address })
  pub type : ExternType
  pub in_space : type_space type ≡ space
  pub is : IsItemTyped s address type
  pub offered : found export_ref.name of.world_module.found.offered ≡ Some type

-- the memory is this export of an instance of a module
pub record IsMemoryExported (s : Store) (address : ℕ) (e : CoreExport) : Type 0 where
  pub user : ℕ
  pub instance : ModuleInstance
  pub present : slice_get s.module_instances user ≡ Some instance
  pub of : instance.module_number ≡ e.of
  pub exported : export_of spaces.CoreMemory e.name instance.exports ≡ Some (record { space = spaces.CoreMemory; name = e.name; address = address })

-- a memory of this type is offered as main's: the type that main imports, or the one that
-- validation found of its export
abbrev pub IsTypeOfMemory : ComponentWorld → Option MemoryType → CoreExport → MemoryType → Type 0
IsTypeOfMemory w (Some imported) e type = type ≡ imported
IsTypeOfMemory w None e type = found e.name w.main.offered ≡ Some (externs.Memory type)

-- the memory is main's
pub record IsMemoryOfMain (w : ComponentWorld) (s : Store) (address : ℕ) : Type 0 where
  pub export : CoreExport
  pub named : main_memory w ≡ Some export
  pub is : IsMemoryExported s address export
  pub held : MemoryType
  pub present : slice_get s.code.memories address ≡ Some held
  pub offered : IsTypeOfMemory w (shared_memory w) export held

-- the core function is a shim for what the target names, among what an instance of the module of shims exports
pub record IsShimExported (w : ComponentWorld) (s : Store) (address : ℕ) (target : Target) : Type 0 where
  pub place : ℕ
  pub stands : IsShimPlace w place target
  pub user : ℕ
  pub instance : ModuleInstance
  pub present : slice_get s.module_instances user ≡ Some instance
  pub of : instance.module_number ≡ shims_number w
  pub exported : export_named (decimal place) instance.exports ≡ Some (record { space = spaces.CoreFunc; name = decimal place; address = address })

-- the core function is an export of a user module that calls have as their realloc, or a shim for it
abbrev pub IsReallocHeld : ComponentWorld → Store → ℕ → ExportRef → Type 0
IsReallocHeld w s address export_ref = IsFunctionExported w s address export_ref ⊎ IsShimExported w s address (ExportOf export_ref)

-- an option is what the target names
abbrev pub IsOptionHeld : ComponentWorld → Store → HeldOption → TargetOption → Type 0
IsOptionHeld w s (HeldEncoding e) (targets.Encoding e') = e ≡ e'
IsOptionHeld w s (HeldMemory a) targets.Memory = IsMemoryOfMain w s a
IsOptionHeld w s (HeldRealloc a) (targets.Realloc export_ref) = IsReallocHeld w s a export_ref
IsOptionHeld w s (HeldPostReturn a) (targets.PostReturn export_ref) = IsFunctionExported w s a export_ref
IsOptionHeld w s (HeldCallback a) (targets.Callback export_ref) = IsFunctionExported w s a export_ref
IsOptionHeld w s HeldAsync targets.Async = Unit {0}
IsOptionHeld w s held option = ⊥

-- the core function is a lowering of the import of this origin, which has this type, with these options
pub record IsLoweringOf (s : Store) (address : ℕ) (origin : Origin) (type : FunctionTree) (held : List HeldOption) : Type 0 where
  pub of : ℕ
  pub is : IsOpaqueOf s address (core_signature type held) (Lowering of held)
  pub imported : slice_get s.functions of ≡ Some (Imported origin type)

-- the core function is a lowering of this function of the world, with these options
pub record IsLoweredFor (w : ComponentWorld) (s : Store) (address : ℕ) (function : WorldFunction) (options : List TargetOption) : Type 0 where
  pub origin : Origin
  pub type : FunctionTree
  pub held : List HeldOption
  pub from : IsOriginOf w function origin
  pub typed : IsTypeOf w function type
  pub lowered : IsLoweringOf s address origin type held
  pub with_options : AllZip (IsOptionHeld w s) held options

-- the core function is this one of the handles of this resource
pub record IsFunctionOf (s : Store) (address : ℕ) (function : ResourceFunction) (resource : Resource) : Type 0 where
  pub is : IsOpaqueOf s address (resource_core function) (IntrinsicOf (intrinsic_of function 0) (Some (ResourceAt resource)) [])

-- the core function is this built-in one, with its core type
pub record IsBuiltInAt (w : ComponentWorld) (s : Store) (address : ℕ) (name : Intrinsic) (operand : Option Tree) (options : List TargetOption) : Type 0 where
  pub held : List HeldOption
  pub with_options : AllZip (IsOptionHeld w s) held options
  pub is : IsOpaqueOf s address (intrinsic_signature name operand) (IntrinsicOf name operand held)

-- the core function reads the cell of the base, or sets it, and the instance of the shims is made: that
-- is the first instance, and so its global is the first
pub record IsCellGetter (w : ComponentWorld) (s : Store) (address : ℕ) : Type 0 where
  pub type : ValType
  pub named : cell_type w ≡ Some type
  pub user : ℕ
  pub instance : IsInstance s user (shims_number w)
  pub is : IsGetter s.code type 0 address

pub record IsCellSetter (w : ComponentWorld) (s : Store) (address : ℕ) : Type 0 where
  pub type : ValType
  pub named : cell_type w ≡ Some type
  pub user : ℕ
  pub instance : IsInstance s user (shims_number w)
  pub is : IsSetter s.code type 0 address

-- the core function is what the target names
abbrev pub IsServedAs : ComponentWorld → Store → ℕ → Target → Type 0
IsServedAs w s address (Lowered function options) = IsLoweredFor w s address function options
IsServedAs w s address (OfResource function id) = IsFunctionOf s address function (resource_of w id)
IsServedAs w s address (BuiltIn name operand options) = IsBuiltInAt w s address name (operand_tree (resource_of w) w.resolve.types operand) options
IsServedAs w s address TlsGet = IsCellGetter w s address
IsServedAs w s address TlsSet = IsCellSetter w s address
IsServedAs w s address (ExportOf export_ref) = IsFunctionExported w s address export_ref
IsServedAs w s address target = ⊥

-- the core function is a shim that hands on to what this target names
pub record IsShimGivenAt (w : ComponentWorld) (at : ShimsAt) (address : ℕ) (target : Target) : Type 0 where
  pub place : ℕ
  pub stands : IsShimPlace w place target
  pub is : address ≡ at.address + place

abbrev pub IsShimGiven : ComponentWorld → Option ShimsAt → ℕ → Target → Type 0
IsShimGiven w None address target = ⊥
IsShimGiven w (Some at) address target = IsShimGivenAt w at address target

-- the item of this space is what the target names
abbrev pub IsServedIn : ComponentWorld → Store → Space → ℕ → Target → Type 0
IsServedIn w s spaces.CoreFunc address target = IsServedAs w s address target
IsServedIn w s spaces.CoreTable address (ExportOf export_ref) = IsItemExported w s spaces.CoreTable address export_ref
IsServedIn w s spaces.CoreMemory address (ExportOf export_ref) = IsItemExported w s spaces.CoreMemory address export_ref
IsServedIn w s spaces.CoreGlobal address (ExportOf export_ref) = IsItemExported w s spaces.CoreGlobal address export_ref
IsServedIn w s spaces.CoreMemory address MainMemory = IsMemoryOfMain w s address
IsServedIn w s space address target = ⊥

-- it is what the target names, or a function that is a shim for it
abbrev pub Serves : ComponentWorld → Option ShimsAt → Store → Space → ℕ → Target → Type 0
Serves w shims s space address target = IsServedIn w s space address target ⊎ ((space ≡ spaces.CoreFunc) × IsShimGiven w shims address target)

-- what an import of a user module is given, by the link table: no shim, where the import has none
pub record IsPlanned (w : ComponentWorld) (shims : Option ShimsAt) (s : Store) (of : WorldModule) (t : Thing) (i : ImportType) : Type 0 where
  pub target : Target
  pub said : link_at w of i.module_name i.field ≡ Some target
  pub serves : Serves w shims s t.space t.address target
  pub direct : has_shim_at w of i.module_name i.field ≡ false → IsServedIn w s t.space t.address target

-- an instance of a user module is given all that the module imports
abbrev pub IsPlannedUser : ComponentWorld → Option ShimsAt → Store → ModuleInstance → Type 0
IsPlannedUser w shims s u = (of : WorldModule) → slice_get (user_modules w) u.module_number ≡ Some of → AllZip (IsPlanned w shims s of) u.given of.found.imported

-- ---- the shims

-- the function of a slot is what the shim of its place stands for
pub record IsFilledWith (w : ComponentWorld) (s : Store) (shim : Shim) (function : ℕ) : Type 0 where
  pub purpose : Purpose
  pub stands_for : HasPurpose w shim purpose
  pub serves : IsServedAs w s function (target_of w purpose)

-- each slot of the table holds one
pub record AreFilled (w : ComponentWorld) (s : Store) (table : ℕ) : Type 0 where
  pub functions : List ℕ
  pub slots : slice_get s.code.tables table ≡ Some (map (λ f. Some f) functions)
  pub each : AllZip (IsFilledWith w s) (shims_of w) functions

-- an instance with the number of the module of shims exports those that are here; where there are
-- none, it is that of a fixup, and exports nothing
abbrev pub exports_if : ComponentWorld → Option ShimsAt → List Export
exports_if w None = []
exports_if w (Some at) = exports_of_shims w at

abbrev pub ExportsShims : ComponentWorld → Option ShimsAt → ModuleInstance → Type 0
ExportsShims w at i = i.module_number ≡ shims_number w → i.exports ≡ exports_if w at

-- the memory that is made with the shims has the type that main imports, where it imports one
abbrev pub HasSharedMemory : Store → Option MemoryType → Option ℕ → Type 0
HasSharedMemory s None None = Unit {0}
HasSharedMemory s (Some type) (Some address) = slice_get s.code.memories address ≡ Some type
HasSharedMemory s type address = ⊥

-- there is a table at this address
pub record HasTable (tables : List (List (Option ℕ))) (address : ℕ) : Type 0 where
  pub slots : List (Option ℕ)
  pub present : slice_get tables address ≡ Some slots

-- The instance of the shims is made, where these modules are instantiated. Its slots, where there
-- are shims, are empty until the fixup is made, and then hold what the shims stand for.
pub record AreShims (w : ComponentWorld) (s : Store) (numbers : List ℕ) (at : ShimsAt) : Type 0 where
  pub there : Contains numbers (shims_number w)
  pub any : has_shim_module w ≡ true
  pub room : length (shims_of w) < 2 ^ 32
  pub made : AreShimsFrom s.code at.table 0 at.address (shims_of w)
  pub of_cell : AreOfCell s.code (cell_type w) 0 (at.address + length (shims_of w))
  pub exported : AllByRecursion (ExportsShims w (Some at)) s.module_instances
  pub memory : HasSharedMemory s (shared_memory w) at.memory
  pub slotted : (shims_of w ≡ [] → ⊥) → HasTable s.code.tables at.table
  pub unfilled : (shims_of w ≡ [] → ⊥) → (Contains numbers (fixup_number w) → ⊥) → slice_get s.code.tables at.table ≡ Some (empty_table (length (shims_of w)))
  pub filled : (shims_of w ≡ [] → ⊥) → Contains numbers (fixup_number w) → AreFilled w s at.table

abbrev pub MayHaveShims : ComponentWorld → Store → List ℕ → Option ShimsAt → Type 0
MayHaveShims w s numbers None = AllByRecursion (ExportsShims w None) s.module_instances
MayHaveShims w s numbers (Some at) = AreShims w s numbers at

-- each slot holds what its shim stands for
abbrev pub AreShimsFilled : ComponentWorld → Store → Option ShimsAt → Type 0
AreShimsFilled w s None = AllByRecursion (ExportsShims w None) s.module_instances
AreShimsFilled w s (Some at) =
    AreShimsFrom s.code at.table 0 at.address (shims_of w) × ((shims_of w ≡ [] → ⊥) → AreFilled w s at.table) × (length (shims_of w) < 2 ^ 32)
    × AllByRecursion (ExportsShims w (Some at)) s.module_instances

-- the shims are filled, and the imports of the user modules are given what was planned
pub record IsReady (w : ComponentWorld) (s : Store) : Type 0 where
  pub shims : Option ShimsAt
  pub filled : AreShimsFilled w s shims
  pub planned : AllByRecursion (IsPlannedUser w shims s) s.module_instances

-- the function is lifted from this export of a user module, with these options and this type
pub record IsLiftedFrom (w : ComponentWorld) (s : Store) (address : ℕ) (entry : ExportRef) (options : List TargetOption) (type : FunctionTree) : Type 0 where
  pub core : ℕ
  pub held : List HeldOption
  pub is : slice_get s.functions address ≡ Some (Lifting core held type)
  pub of : IsFunctionExported w s core entry
  pub with_options : AllZip (IsOptionHeld w s) held options

-- an export of an instance of this user module, at the address of this index
pub record IsCoreExportAt (from : WorldModule) (things : List Thing) (s : Store) (index : ℕ) (e : CoreExport) : Type 0 where
  pub address : ℕ
  pub at : address_at (kind_space e.kind) index things ≡ Some address
  pub type : ExternType
  pub offered : found e.name from.found.offered ≡ Some type
  pub of_kind : kind_of type ≡ e.kind
  pub user : ℕ
  pub of : IsInstance s user e.of
  pub export : Export
  pub found : export_named e.name of.instance.exports ≡ Some export
  pub named : export.name ≡ e.name
  pub space : export.space ≡ type_space type
  pub is : export.address ≡ address
  pub item : IsUserItem s user export type

-- ---- what the component exports

-- what is required at a key: a function, which the user module of the key has to provide, and a type
abbrev pub function_at_key : RequiredKey → List ℕ → RequiredFunction
function_at_key r name = record { of = r.of; key = r.key; function = name }

abbrev pub type_at_key : WorldKey → List ℕ × TypeId → RequiredType
type_at_key key t = record { key = key; name = t.0; id = t.1 }

-- the function is the lift of what implements a required function, with the type of the world's function
pub record IsRequiredAt (w : ComponentWorld) (s : Store) (r : RequiredFunction) (address : ℕ) : Type 0 where
  pub name : List ℕ
  pub wit : WitFunction
  pub role : core_name w r ≡ Some name
  pub exported : function_exported w r.key r.function ≡ Some wit
  pub is : IsLiftedFrom w s address (record { of = r.of; name = name }) (lift_options w r) (type_of_function w wit)

-- the export is one; or is an instance that exports one for each function that is required at a
-- key, under its name, and what each type denotes that is
pub record IsFunctionExport (w : ComponentWorld) (s : Store) (r : RequiredFunction) (e : Export) : Type 0 where
  pub space : e.space ≡ spaces.Func
  pub is : IsRequiredAt w s r e.address

pub record IsAmong (w : ComponentWorld) (s : Store) (exports : List Export) (r : RequiredFunction) : Type 0 where
  pub address : ℕ
  pub found : export_of spaces.Func r.function exports ≡ Some (record { space = spaces.Func; name = r.function; address = address })
  pub is : IsRequiredAt w s r address

pub record IsTypeAmong (w : ComponentWorld) (s : Store) (exports : List Export) (r : RequiredType) : Type 0 where
  pub address : ℕ
  pub found : export_of spaces.Type r.name exports ≡ Some (record { space = spaces.Type; name = r.name; address = address })
  pub is : IsHeldAs s.types (type_of_world w r.id) address

pub record IsInterfaceExport (w : ComponentWorld) (s : Store) (r : RequiredKey) (e : Export) : Type 0 where
  pub space : e.space ≡ spaces.Instance
  pub exports : List Export
  pub present : slice_get s.instances e.address ≡ Some exports
  pub each : AllByRecursion (IsAmong w s exports) (functions_required w r)
  pub types : AllByRecursion (IsTypeAmong w s exports) (types_required w r)

-- the export is what a user module has to provide at a key
abbrev pub IsItemExport : ComponentWorld → Store → RequiredKey → Export → Option WorldItem → Type 0
IsItemExport w s r e (Some (world_items.Function f)) = IsFunctionExport w s (function_at_key r f.name) e
IsItemExport w s r e (Some (world_items.Interface id)) = IsInterfaceExport w s r e
IsItemExport w s r e item = ⊥

abbrev pub IsKeyExport : ComponentWorld → Store → RequiredKey → Export → Type 0
IsKeyExport w s r e = IsItemExport w s r e (exported_item w r.key)

-- each is what is required at the key of the same place
abbrev pub AreKeyExports : ComponentWorld → Store → List RequiredKey → List Export → Type 0
AreKeyExports w s rs [] = Unit {0}
AreKeyExports w s [] (e ∷ es) = ⊥
AreKeyExports w s (r ∷ rs) (e ∷ es) = IsKeyExport w s r e × AreKeyExports w s rs es

-- ---- resources that the component defines

-- the core function is a shim for the destructor that a user module exports, where there is one
abbrev pub IsDestroyedBy : ComponentWorld → Option ShimsAt → Option ℕ → Option ExportRef → Type 0
IsDestroyedBy w shims None None = Unit {0}
IsDestroyedBy w shims (Some address) (Some e) = IsShimGiven w shims address (ExportOf e)
IsDestroyedBy w shims destructor e = ⊥

-- a resource of the component's own, by its number
pub record IsOwnResource (w : ComponentWorld) (shims : Option ShimsAt) (number : ℕ) (destructor : Option ℕ) : Type 0 where
  pub provided : ProvidedType
  pub is : slice_get (provided_resources w) number ≡ Some provided
  pub destroyed : IsDestroyedBy w shims destructor (destructor_of w provided)

abbrev pub IsOwnIfDefined : ComponentWorld → Option ShimsAt → TypeItem → Type 0
IsOwnIfDefined w shims (OwnResource number destructor) = IsOwnResource w shims number destructor
IsOwnIfDefined w shims item = Unit {0}

-- one of them has this number
pub record HasNumber (types : List TypeItem) (number : ℕ) : Type 0 where
  pub address : ℕ
  pub destructor : Option ℕ
  pub is : slice_get types address ≡ Some (OwnResource number destructor)

-- this many are defined, each is one, and each number below is that of one
pub record AreResources (w : ComponentWorld) (shims : Option ShimsAt) (types : List TypeItem) (count : ℕ) : Type 0 where
  pub counted : resources_among types ≡ count
  pub each : AllByRecursion (IsOwnIfDefined w shims) types
  pub numbered : (number : ℕ) → number < count → HasNumber types number

-- ---- the run so far

-- the items of this kind have consecutive addresses from this number on
abbrev pub NumberedFrom : ℕ → List Thing → ℕ → Type 0
NumberedFrom k [] n = k ≡ n
NumberedFrom k (t ∷ ts) n = (t.address ≡ k) × NumberedFrom (suc k) ts n

-- a global has the type that validation found, among the types of all globals
abbrev pub IsGlobalTyped : List ValType → ℕ → ExternType → Type 0
IsGlobalTyped globals address (externs.Global type) = slice_get globals address ≡ Some type.val_type
IsGlobalTyped globals address type = Unit {0}

pub record HasGlobalType (globals : List ValType) (e : Export) (found : List ℕ × ExternType) : Type 0 where
  pub named : e.name ≡ found.0
  pub is : IsGlobalTyped globals e.address found.1

-- so have those of an instance of a user module
abbrev pub HasGlobals : ComponentWorld → List ValType → ModuleInstance → Type 0
HasGlobals w globals u = (of : WorldModule) → slice_get (user_modules w) u.module_number ≡ Some of → AllZip (HasGlobalType globals) u.exports of.found.offered

-- the table at this address is empty, and is not that of the shims, where there are any
pub record IsOwnTable (w : ComponentWorld) (shims : Option ShimsAt) (tables : List (List (Option ℕ))) (address : ℕ) : Type 0 where
  pub size : ℕ
  pub empty : slice_get tables address ≡ Some (empty_table size)
  pub apart : (at : ShimsAt) → shims ≡ Some at → (shims_of w ≡ [] → ⊥) → at.table ≡ address → ⊥

-- each table that an instance of a user module exports is so
abbrev pub IsOwnIfTable : ComponentWorld → Option ShimsAt → List (List (Option ℕ)) → Export → Type 0
IsOwnIfTable w shims tables e = e.space ≡ spaces.CoreTable → IsOwnTable w shims tables e.address

abbrev pub HasOwnTables : ComponentWorld → Option ShimsAt → List (List (Option ℕ)) → ModuleInstance → Type 0
HasOwnTables w shims tables u = (of : WorldModule) → slice_get (user_modules w) u.module_number ≡ Some of → AllByRecursion (IsOwnIfTable w shims tables) u.exports

-- what is seen of an instance of a module: that of a user module, and the calls of a fixup
pub data Expected : Type 0 where
  Made : (number : ℕ) → Expected
  Calls : (call : StartCall) → Expected

abbrev pub calls_if : ComponentWorld → Bool → List Expected
calls_if w false = []
calls_if w true = map (λ call. Calls call) (start_calls w)

abbrev pub expected_of : ComponentWorld → ℕ → List Expected
expected_of w number = cond (ltb number (length (user_modules w))) (Made number ∷ []) (calls_if w (nat_eq number (fixup_number w)))

-- what is seen of a definition
abbrev pub expects : ComponentWorld → Def → List Expected
expects w d = flat_map (expected_of w) (at_root item_instantiates d)

-- the event is what was expected
abbrev pub IsSeen : ComponentWorld → Store → Event → Expected → Type 0
IsSeen w s (Instantiated n) (Made number) = n ≡ number
IsSeen w s (Called address arguments) (Calls call) = IsFunctionExported w s address call.function × (arguments ≡ call.arguments)
IsSeen w s event expected = ⊥

-- the scope, the store and the types of the globals are what these definitions make
pub record Agrees (w : ComponentWorld) (earlier : List Def) (c : Scope) (s : Store) (globals : List ValType) : Type 0 where
  pub shims : Option ShimsAt
  pub events : List Event
  pub seen : AllZip (IsSeen w s) events (flat_map (expects w) earlier)
  pub means : AllZip (Means w shims earlier c.items s) (filter makes earlier) c.items
  pub types : AllZip (IsTypeEntry s) (inventory earlier).types (filter (is_of spaces.Type) c.items)
  pub functions : AllZip (IsFunctionEntry s) (inventory earlier).functions (filter (is_of spaces.Func) c.items)
  pub instances : AllZip (IsInstanceThing s) (inventory earlier).instances (filter (is_of spaces.Instance) c.items)
  pub resources : AreResources w shims s.types (inventory earlier).resources
  pub modules : NumberedFrom 0 (filter (is_of spaces.CoreModule) c.items) (length s.core_modules)
  pub instantiated : map (λ (u : ModuleInstance). u.module_number) s.module_instances ≡ flat_map (at_root item_instantiates) earlier
  pub served : AllByRecursion (IsPlannedUser w shims s) s.module_instances
  pub with_globals : AllByRecursion (HasGlobals w globals) s.module_instances
  pub with_tables : AllByRecursion (HasOwnTables w shims s.code.tables) s.module_instances
  pub with_shims : MayHaveShims w s (flat_map (at_root item_instantiates) earlier) shims
  pub exports : map (λ (e : Export). e.name) c.exports ≡ flat_map def_export earlier
  pub lifted : AreKeyExports w s (required_keys w) c.exports
  pub imports : c.imports ≡ imports_in earlier
