-- What a list of definitions is to a validated world when it is run (component model, explainer: component definitions;
-- Canonical ABI: `canon lift`, `canon lower`).
use Rattle.std.specs.Prelude.{false, ◌≡◌, ◌≢◌, ◌≤◌, ◌<◌, ◌+◌, ◌++◌, ◌&&◌, ℕ, nat_le, Bool, List, [], ◌∷◌, Option, Some, None, length, map, filter, slice_get, is_some, IsTrue, Contains}
use Rattle.std.specs.List.{AllByRecursion, AllZip, flat_map, list_all}
use Rattle.std.specs.Option.{option_and_then}
use Rattle.comp_bytes.specs.declared.space.Space.TheVariants as spaces
use Rattle.comp_bytes.specs.Spaces.{is_space, space_of}
use Rattle.comp_bytes.specs.declared.def.Item.TheVariants as items
use Rattle.comp_bytes.specs.declared.def.Def.{Def}
use Rattle.comp_bytes.specs.declared.def.Def.TheVariants as defs
use Rattle.core_types.specs.declared.types.FuncType.{FuncType}
use Rattle.core_types.specs.declared.types.ValType.{ValType}
use Rattle.core_runs.specs.declared.bracket.Bracketed.TheVariants as brackets
use Rattle.core_runs.specs.declared.bracket.TaskHook.{TaskHook}
use Rattle.core_runs.specs.declared.bracket.TaskHook.TheVariants.{InitializeStart, InitializeFinish}
use Rattle.core_runs.specs.declared.bracket.AfterHook.TheVariants.{Nothing}
use Rattle.core_runs.specs.Hooks.{around, hook_number}
use Rattle.core_runs.specs.Values.{Value, I32Value, fit, zero_of}
use Rattle.core_runs.specs.Store.{Cell, Kept, Event, Instantiated, Called, Answer, Gives, Traps, Func, Opaque, signature_of, Now, ByCode}
use Rattle.core_runs.specs.Store as core
use Rattle.core_runs.specs.Execution.{acts}
use Rattle.core_runs.specs.Instances.{empty_table}
use Rattle.core_runs.specs.Expected.{Known, Is}
use Rattle.core_runs.specs.Sections.{parts_of}
use Rattle.wit_data.specs.declared.ids.TypeId.{TypeId}
use Rattle.wit_data.specs.declared.functions.Function.{Function as WitFunction}
use Rattle.wit_data.specs.declared.worlds.WorldItem.{WorldItem}
use Rattle.wit_data.specs.declared.worlds.WorldItem.TheVariants as world_items
use Rattle.comp_roles.specs.Lookups.{first_export, is_initialize}
use Rattle.comp_roles.specs.declared.offered.ImportType.{ImportType}
use Rattle.comp_worlds.specs.WorldContents.{exported_item, function_exported}
use Rattle.comp_worlds.specs.declared.world.ComponentWorld.{ComponentWorld}
use Rattle.comp_trees.specs.Trees.{Resource}
use Rattle.comp_trees.specs.DefinedTrees.{TypeTree}
use Rattle.comp_trees.specs.WitTrees.{wit_function_tree}
use Rattle.comp_links.specs.Targets.{Main, ExportRef, Target, TlsGet, TlsSet, Lifted}
use Rattle.comp_links.specs.Naming.{Naming, name_of}
use Rattle.comp_links.specs.Modules.{WorldModule, user_modules}
use Rattle.comp_links.specs.Lists.{RequiredFunction, required_functions, RequiredType, required_types, component_types, own_resources, ProvidedType, provided_resources, resource_of, type_of_world, stated_types}
use Rattle.comp_links.specs.Links.{link_at, lift_of, destructor_of}
use Rattle.comp_runs.specs.Store.{Thing, Export, CoreItem, OwnResource, tree_held, ModuleInstance}
use Rattle.comp_runs.specs.Machine.{Machine, Outcome, Done, Trapped, Open, Stuck, export_of}
use Rattle.comp_runs.specs.Instances.{ModuleMeaning, OfUser, OfGenerated, type_scope}
use Rattle.comp_runs.specs.Running.{run, fresh_machine}
use Rattle.comp_terms.specs.Shimmed.{has_shim_at}
use Rattle.link_laws.specs.Meeting.{KeepsReferences, ActsAs, IsNumber, IsBase, ItemIsExport, CoreExportMeets, IsLift, Meets, task_hook}
use Rattle.link_laws.specs.Composition.{GeneratedModules, generated_sections, numbers_from, number_after, instance_order, at_root, item_instantiates}

-- ---- how a list runs

-- what the core modules of a list are: the user modules as validation found them, and the generated ones
abbrev pub module_meanings : ComponentWorld → GeneratedModules → List ModuleMeaning
module_meanings w g = map (λ m. OfUser m.found.imported m.found.offered) (user_modules w) ++ map (λ ss. OfGenerated ss) (generated_sections g)

-- how running the list ends, with these answers of the outside
abbrev pub outcome : ComponentWorld → GeneratedModules → List Def → List Answer → Outcome
outcome w g ds answers = run (module_meanings w g) ds (fresh_machine answers)

-- a run ends at this machine, however it ends
abbrev pub EndsAt : Machine → Outcome → Type 0
EndsAt m (Done n) = n ≡ m
EndsAt m (Trapped n) = n ≡ m
EndsAt m (Open n) = n ≡ m
EndsAt m Stuck = ⊥

-- A call of what main exports, which the component makes when it is instantiated.
pub record StartCall : Type 0 where
  pub function : ExportRef
  pub arguments : List Value

abbrev pub of_main : List ℕ → List Value → StartCall
of_main name arguments = record { function = record { of = Main; name = name }; arguments = arguments }

abbrev pub hook_call : Option (List ℕ) → TaskHook → List StartCall
hook_call None moment = []
hook_call (Some name) moment = of_main name (I32Value (hook_number moment) ∷ []) ∷ []

-- main's initialization, if it has one, with the task hook round it
abbrev pub initialization : Option (List ℕ) → Option (List ℕ) → List StartCall
initialization hook None = []
initialization hook (Some name) = hook_call hook InitializeStart ++ (of_main name [] ∷ hook_call hook InitializeFinish)

abbrev pub start_calls : ComponentWorld → List StartCall
start_calls w = initialization (task_hook w) (first_export is_initialize w.main.exports.exports)

-- the calls of the outside in a run to the end, by the types of their results: each user module is instantiated, and
-- then the start calls are made
abbrev pub questions : ComponentWorld → List (List ValType)
questions w = map (λ m. []) (user_modules w) ++ map (λ c. []) (start_calls w)

-- these answers fit those calls, and let a run continue to its end
abbrev pub LetsRun : List (List ValType) → List Answer → Type 0
LetsRun [] answers = Unit {0}
LetsRun (types ∷ rest) [] = ⊥
LetsRun (types ∷ rest) (Traps ∷ answers) = ⊥
LetsRun (types ∷ rest) (Gives results cell ∷ answers) = IsTrue (fit types results) × LetsRun rest answers

-- ---- imports

-- the core function is opaque: its calls never go through generated code
pub record IsOpaque (m : Machine) (address : ℕ) : Type 0 where
  pub what : ℕ
  pub signature : FuncType
  pub is : slice_get m.store.code.functions address ≡ Some (Opaque what signature)

-- so is what is given for each target, but for the functions of the base: these are generated, and call nothing
abbrev pub IsDirect : Machine → ℕ → Target → Type 0
IsDirect m address TlsGet = Unit {0}
IsDirect m address TlsSet = Unit {0}
IsDirect m address _ = IsOpaque m address

-- What an import was given is what the link table says of it. A function that is given to an import
-- which has no shim works from the moment that it is given.
pub record IsServed (w : ComponentWorld) (m : Machine) (origins : TypeId → Resource) (of : WorldModule) (thing : Thing) (i : ImportType) : Type 0 where
  pub target : Target
  pub said : link_at w of i.module_name i.field ≡ Some target
  pub meets : Meets w m origins thing target
  pub direct : has_shim_at w of i.module_name i.field ≡ false → thing.space ≡ spaces.CoreFunc → IsDirect m thing.address target

-- an instance of a module: each import is served
abbrev pub AreServed : ComponentWorld → Machine → (TypeId → Resource) → WorldModule → ModuleInstance → Type 0
AreServed w m origins of i = AllZip (IsServed w m origins of) i.given of.found.imported

-- each instance of a user module, where the types that the component imports, and the resources
-- that it defines, are what they are in the world
pub record UsersServed (w : ComponentWorld) (m : Machine) (origins : TypeId → Resource) : Type 0 where
  pub resources : AllByRecursion (λ id. origins id ≡ resource_of w id) (component_types w ++ own_resources w)
  pub each : (instance : ℕ) (i : ModuleInstance) (of : WorldModule) → slice_get m.store.module_instances instance ≡ Some i → slice_get (user_modules w) i.module_number ≡ Some of → AreServed w m origins of i

-- ---- exports

-- where the functions of an item of the world are: at the root of the component, or in an instance that it exports
abbrev pub exports_at : ComponentWorld → Machine → List ℕ → Option WorldItem → Option (List Export)
exports_at w m name (Some (world_items.Function f)) = Some m.scope.exports
exports_at w m name item = option_and_then (λ (e : Export). slice_get m.store.instances e.address) (export_of spaces.Instance name m.scope.exports)

-- the function at this address is a lift of this function of the world as the target says
abbrev pub LiftMeets : ComponentWorld → Machine → (TypeId → Resource) → ℕ → WitFunction → Target → Type 0
LiftMeets w m origins address wit (Lifted entry options) = IsLift w m address (wit_function_tree origins w.resolve.types wit) entry options
LiftMeets w m origins address wit _ = ⊥

-- a required function is found by its sort and name, and is what the link table says, with its type
pub record IsProvided (n : Naming) (w : ComponentWorld) (m : Machine) (origins : TypeId → Resource) (r : RequiredFunction) : Type 0 where
  pub address : ℕ
  pub target : Target
  pub wit : WitFunction
  pub provided : option_and_then (export_of spaces.Func r.function) (exports_at w m (name_of n w.resolve r.key).name (exported_item w r.key)) ≡ Some (record { space = spaces.Func; name = r.function; address = address })
  pub said : lift_of w r ≡ Some target
  pub type_of : function_exported w r.key r.function ≡ Some wit
  pub meets : LiftMeets w m origins address wit target

-- a required type is found by its sort and name, and denotes what the type of the world does
pub record IsTypeProvided (n : Naming) (w : ComponentWorld) (m : Machine) (r : RequiredType) : Type 0 where
  pub address : ℕ
  pub provided : option_and_then (export_of spaces.Type r.name) (exports_at w m (name_of n w.resolve r.key).name (exported_item w r.key)) ≡ Some (record { space = spaces.Type; name = r.name; address = address })
  pub denotes : tree_held m.store.types address ≡ type_of_world w r.id

-- ---- resources

-- a call of the destructor of a resource is one of this export of a user module, where there is one
abbrev pub DestructorMeets : ComponentWorld → Machine → Option ℕ → Option ExportRef → Type 0
DestructorMeets w m None None = Unit {0}
DestructorMeets w m (Some core) (Some e) = CoreExportMeets w m (Some brackets.Destructor) core e
DestructorMeets w m destructor e = ⊥

-- the resource that is defined with this number is that of the world, with its destructor
pub record IsDefined (w : ComponentWorld) (m : Machine) (number : ℕ) (destructor : Option ℕ) : Type 0 where
  pub provided : ProvidedType
  pub is : slice_get (provided_resources w) number ≡ Some provided
  pub destroyed : DestructorMeets w m destructor (destructor_of w provided)

-- a resource is defined with this number
pub record IsNumberDefined (m : Machine) (number : ℕ) : Type 0 where
  pub address : ℕ
  pub destructor : Option ℕ
  pub is : slice_get m.store.types address ≡ Some (OwnResource number destructor)

-- ---- tables

-- the table has nothing in its slots that generated code put there
pub record IsUntouched (m : Machine) (address : ℕ) : Type 0 where
  pub size : ℕ
  pub empty : slice_get m.store.code.tables address ≡ Some (empty_table size)

-- the tables that these exports of a user module name
abbrev pub AreTablesUntouched : Machine → List Export → Type 0
AreTablesUntouched m exports = AllByRecursion (λ (e : Export). e.space ≡ spaces.CoreTable → IsUntouched m e.address) exports

-- ---- shims

-- a shim, by its address: what the module of shims exports under a decimal number
abbrev pub is_digit : ℕ → Bool
is_digit c = nat_le 0x30 c && nat_le c 0x39

pub record IsShim (w : ComponentWorld) (m : Machine) (address : ℕ) : Type 0 where
  pub instance : ℕ
  pub made : ModuleInstance
  pub name : List ℕ
  pub present : slice_get m.store.module_instances instance ≡ Some made
  pub of : made.module_number ≡ length (user_modules w)
  pub exported : Contains made.exports (record { space = spaces.CoreFunc; name = name; address = address })
  pub numbered : IsTrue (list_all is_digit name)

-- the shim is filled: a call of it is one of an opaque function
pub record IsFilled (m : Machine) (address : ℕ) : Type 0 where
  pub target : Known
  pub what : ℕ
  pub is : Is m.store.code target what
  pub acts : ActsAs m address (around None Nothing) 0 target

-- each shim is, also one that no import uses
abbrev pub ShimsFilled : ComponentWorld → Machine → Type 0
ShimsFilled w m = (address : ℕ) → IsShim w m address → IsFilled m address

-- ---- the end of a run

-- an event is this call
abbrev pub MakesCall : ComponentWorld → Machine → Event → StartCall → Type 0
MakesCall w m (Called address arguments) call =
    (target : Known) × (what : ℕ) × (item : CoreItem) × (target.address ≡ address) × Is m.store.code target what × (slice_get m.store.known what ≡ Some item)
    × ItemIsExport w m call.function item × (arguments ≡ call.arguments)
MakesCall w m event call = ⊥

-- At the end: each module has one instance, in order; each import is served, and each required
-- function and type is provided; each resource that is defined is one of the world's, and each of
-- these is defined; each shim is filled, and no table of a user module is written; and what was
-- seen from outside is the instantiation of each user module, and then the start calls.
pub record IsLinked (n : Naming) (w : ComponentWorld) (g : GeneratedModules) (m : Machine) : Type 0 where
  pub origins : TypeId → Resource
  pub start_events : List Event
  pub instances : map (λ (i : ModuleInstance). i.module_number) m.store.module_instances ≡ instance_order (length (user_modules w)) g
  pub imports : UsersServed w m origins
  pub exports : AllByRecursion (IsProvided n w m origins) (required_functions w)
  pub types : AllByRecursion (IsTypeProvided n w m) (required_types w)
  pub resources : (address number : ℕ) (destructor : Option ℕ) → slice_get m.store.types address ≡ Some (OwnResource number destructor) → IsDefined w m number destructor
  pub defined : (number : ℕ) → number < length (own_resources w) → IsNumberDefined m number
  pub filled : ShimsFilled w m
  pub tables : (instance : ℕ) (i : ModuleInstance) (of : WorldModule) → slice_get m.store.module_instances instance ≡ Some i → slice_get (user_modules w) i.module_number ≡ Some of → AreTablesUntouched m i.exports
  pub events : m.now.events ≡ map (λ n. Instantiated n) (numbers_from 0 (length (user_modules w))) ++ start_events
  pub started : AllZip (MakesCall w m) start_events (start_calls w)

-- ---- types

-- what the type of a definition denotes, where it is an import
abbrev pub if_imported : Def → TypeTree → List TypeTree
if_imported (defs.Item (items.Import name description)) tree = tree ∷ []
if_imported d tree = []

-- what the imports denote among definitions that make types, where the types denote these trees
abbrev pub imported_among : List Def → List TypeTree → List TypeTree
imported_among (d ∷ ds) (tree ∷ trees) = if_imported d tree ++ imported_among ds trees
imported_among ds trees = []

-- each type that the list imports denotes what the world's does, in order
abbrev pub TypesServed : ComponentWorld → List Def → Machine → Type 0
TypesServed w ds m = imported_among (filter (λ d. is_space spaces.Type (space_of d)) ds) (type_scope m) ≡ stated_types w

-- ---- before the fixup

-- a call of the function traps with no event, for all arguments of its type, and whatever happened
-- since in globals that hold no reference
pub record TrapsAtOnce (m : Machine) (address : ℕ) : Type 0 where
  pub function : Func
  pub is : slice_get m.store.code.functions address ≡ Some function
  pub traps : (arguments : List Value) (now : Now) → IsTrue (fit (signature_of function).params arguments) → KeepsReferences m.now.globals now.globals → acts m.store.code address arguments now ≡ core.Trapped ByCode now

-- the definitions don't instantiate the fixup
abbrev pub BeforeFixup : ComponentWorld → GeneratedModules → List Def → Type 0
BeforeFixup w g ds = AllByRecursion (λ n. n ≢ number_after (length (user_modules w)) g.shims) (flat_map (at_root item_instantiates) ds)

-- In every run up to the instance of the fixup, each shim traps.
pub record ShimsTrapBefore (w : ComponentWorld) (g : GeneratedModules) (ds : List Def) : Type 0 where
  pub each : (before after : List Def) → ds ≡ before ++ after → BeforeFixup w g before → IsTrue (is_some g.fixup) → (answers : List Answer) (m : Machine) → outcome w g before answers ≡ Done m → (address : ℕ) → IsShim w m address → TrapsAtOnce m address

-- the events before the start function of the fixup: the instances of the user modules, and what its segments write
abbrev pub events_before_start : ComponentWorld → GeneratedModules → ℕ
events_before_start w g = length (user_modules w) + elim g.fixup [ None ↦ 0 | Some ss ↦ length (parts_of ss).segments ]

-- From the first event of the fixup's start function on, each shim is filled and each import is
-- served, also in a run that ends early.
pub record ServedThroughout (w : ComponentWorld) (g : GeneratedModules) (ds : List Def) : Type 0 where
  pub each : (answers : List Answer) (m : Machine) → EndsAt m (outcome w g ds answers) → (event : ℕ) (globals : List Cell) → events_before_start w g ≤ event → slice_get m.now.moments event ≡ Some globals →
      ShimsFilled w (record m { now = record m.now { globals = globals } }) × (origins : TypeId → Resource) × UsersServed w (record m { now = record m.now { globals = globals } }) origins

-- ---- the thread-local base

-- no other number is kept than that at this address
abbrev pub IsAlone : List Cell → ℕ → Type 0
IsAlone globals cell = (other : ℕ) (type : ValType) (value : Value) → slice_get globals other ≡ Some (Kept type value) → IsNumber type → other ≡ cell

-- In all runs one cell is the base's: whatever function reads the base or sets it has this one. It is zero when the
-- instance of the shims is made, and as long as nothing is seen from outside.
pub record HasOneBase (w : ComponentWorld) (g : GeneratedModules) (ds : List Def) : Type 0 where
  pub cell : ℕ
  pub at_end : (answers : List Answer) (m : Machine) → outcome w g ds answers ≡ Done m → IsAlone m.now.globals cell
  pub throughout : (answers : List Answer) (m : Machine) → EndsAt m (outcome w g ds answers) → (event : ℕ) (globals : List Cell) → slice_get m.now.moments event ≡ Some globals → IsAlone globals cell
  pub zero_first : (before after : List Def) → ds ≡ before ++ after → Contains (flat_map (at_root item_instantiates) before) (length (user_modules w)) → (answers : List Answer) (m : Machine) → outcome w g before answers ≡ Done m → m.now.events ≡ [] →
      (type : ValType) (value : Value) → IsBase m.now.globals cell type value → value ≡ zero_of type

-- When it is run, whatever the outside returns: it is never stuck; it is done where the answers let
-- it; where it is done it is linked, and the types that it imports are the world's; shims trap
-- before they are filled, and are filled before anything is called; and one cell is the thread-local base's.
pub record Links (n : Naming) (w : ComponentWorld) (g : GeneratedModules) (ds : List Def) : Type 0 where
  pub never_stuck : (answers : List Answer) → outcome w g ds answers ≢ Stuck
  pub ends : (answers : List Answer) → LetsRun (questions w) answers → (m : Machine) × (outcome w g ds answers ≡ Done m)
  pub linked : (answers : List Answer) (m : Machine) → outcome w g ds answers ≡ Done m → IsLinked n w g m
  pub types : (answers : List Answer) (m : Machine) → outcome w g ds answers ≡ Done m → TypesServed w ds m
  pub traps_before : ShimsTrapBefore w g ds
  pub served_throughout : ServedThroughout w g ds
  pub one_base : HasOneBase w g ds
