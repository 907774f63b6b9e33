-- What a list of definitions is to a validated world, as a list (component model, explainer: component definitions).
use Rattle.std.specs.Prelude.{◌≡◌, ◌<◌, ◌≤◌, ◌++◌, ℕ, Bool, true, false, List, [], ◌∷◌, Option, Some, None, length, zero, suc, map, slice_get, Contains}
use Rattle.std.specs.List.{AllByRecursion, AllZip, IsDistinct, flat_map}
use Rattle.std.specs.Str.{bytes_eq}
use Rattle.comp_bytes.specs.ScopeNames.{Names, member_export, item_export}
use Rattle.comp_bytes.specs.declared.space.Sort.{Sort}
use Rattle.comp_bytes.specs.declared.space.Sort.TheVariants as sorts
use Rattle.comp_bytes.specs.declared.types.Description.{Description}
use Rattle.comp_bytes.specs.declared.types.Description.TheVariants as descriptions
use Rattle.comp_bytes.specs.declared.def.CoreArgument.{CoreArgument}
use Rattle.comp_bytes.specs.declared.def.Item.{Item}
use Rattle.comp_bytes.specs.declared.def.Item.TheVariants as items
use Rattle.comp_bytes.specs.declared.def.Def.{Def}
use Rattle.comp_bytes.specs.declared.def.Def.TheVariants as defs
use Rattle.core_bytes.specs.Modules.{Encodes, id_of}
use Rattle.core_types.specs.declared.types.RefType.TheVariants.{FuncRef}
use Rattle.core_types.specs.declared.types.TableType.{TableType}
use Rattle.core_types.specs.declared.types.ValType.{ValType}
use Rattle.core_types.specs.declared.types.ValType.TheVariants.{I32, I64}
use Rattle.core_bytes.specs.declared.code.Body.{Body}
use Rattle.core_bytes.specs.declared.code.Instruction.{Instruction}
use Rattle.core_bytes.specs.declared.code.Instruction.TheVariants.{RefFunc}
use Rattle.core_bytes.specs.declared.entity.ConstExpr.{ConstExpr}
use Rattle.core_bytes.specs.declared.entity.ConstExpr.TheVariants as constants
use Rattle.core_bytes.specs.declared.entity.EntityType.{EntityType}
use Rattle.core_bytes.specs.declared.entity.EntityType.TheVariants as entities
use Rattle.core_bytes.specs.declared.entry.DefinedGlobal.{DefinedGlobal}
use Rattle.core_bytes.specs.declared.entry.ElementSegment.{ElementSegment}
use Rattle.core_bytes.specs.declared.entry.ElementSegment.TheVariants as segments
use Rattle.core_bytes.specs.declared.entry.Export.{Export}
use Rattle.core_bytes.specs.declared.entry.Import.{Import}
use Rattle.core_bytes.specs.declared.section.Section.{Section}
use Rattle.core_bytes.specs.declared.section.Section.TheVariants as sections
use Rattle.nested_terms.specs.Nested.{function_import}
use Rattle.comp_terms.specs.Instances.{ImportsInterface, IsNestedRight, InstantiatesNested, IsInstanceOfNested}
use Rattle.comp_worlds.specs.declared.world.ComponentWorld.{ComponentWorld}
use Rattle.comp_links.specs.Modules.{WorldModule, user_modules}
use Rattle.comp_terms.specs.UserBytes.{user_bytes}
use Rattle.comp_runs.specs.Instances.{section_exports}
use Rattle.comp_links.specs.Naming.{Naming}
use Rattle.comp_links.specs.Lists.{Stated, described_sort, AreNames, stated_imports, stated_exports, nested_names, instance_type_names}

-- n consecutive numbers from this one on
abbrev pub numbers_from : ℕ → ℕ → List ℕ
numbers_from k zero = []
numbers_from k (suc n) = k ∷ numbers_from (suc k) n

-- ---- what is visible of a definition in the list of all

abbrev pub item_module : Item → List (List ℕ)
item_module (items.CoreModule bytes) = bytes ∷ []
item_module _ = []

-- the modules that are instantiated, by their numbers
abbrev pub item_instantiates : Item → List ℕ
item_instantiates (items.CoreInstantiate number arguments) = number ∷ []
item_instantiates _ = []

abbrev pub item_imports : Item → List Stated
item_imports (items.Import name description) = record { name = name; sort = described_sort description } ∷ []
item_imports _ = []

abbrev pub item_exports : Item → List Stated
item_exports (items.Export name sort index description) = record { name = name; sort = sort } ∷ []
item_exports _ = []

-- the names of the custom sections
abbrev pub item_customs : Item → List (List ℕ)
item_customs (items.Custom name contents) = name ∷ []
item_customs _ = []

-- those of the definitions of a list; a nested component has its own
abbrev pub at_root : {A : Type 0} → (Item → List A) → Def → List A
at_root f (defs.Item i) = f i
at_root f (defs.Component inner) = []

-- ---- generated modules

-- the core modules that are none of the user's, by their sections: the one with the shims, and the one that fills them
-- and makes the first calls
pub record GeneratedModules : Type 0 where
  pub shims : Option (List Section)
  pub fixup : Option (List Section)

abbrev listed : {A : Type 0} → Option A → List A
listed None = []
listed (Some x) = x ∷ []

abbrev pub generated_sections : GeneratedModules → List (List Section)
generated_sections g = listed g.shims ++ listed g.fixup

-- Sections as a module has them, where those before have ids up to this one: their ids ascend, so
-- that each is there at most once, and behind them is the section of names, where debug names are
-- on (core standard, binary format: modules).
abbrev pub AreSectionsAfter : ℕ → Bool → List Section → Type 0
AreSectionsAfter id debug_names [] = debug_names ≡ false
AreSectionsAfter id debug_names (sections.Names names ∷ ss) = (debug_names ≡ true) × (ss ≡ [])
AreSectionsAfter id debug_names (s ∷ ss) = (id < id_of s) × AreSectionsAfter (id_of s) debug_names ss

-- ---- types in a generated module (core standard, validation: types, constant expressions, modules)

-- a table is of functions, and its maximum, where it has one, is not below its minimum
abbrev AreLimits : ℕ → Option ℕ → Type 0
AreLimits least None = Unit {0}
AreLimits least (Some most) = least ≤ most

abbrev pub IsTable : TableType → Type 0
IsTable t = (t.element_type ≡ FuncRef) × AreLimits t.minimum t.maximum

-- where a global holds an integer, it is at first one of its width
abbrev pub IsConstant : ValType → ConstExpr → Type 0
IsConstant I32 (constants.I32 n) = Unit {0}
IsConstant I32 init = ⊥
IsConstant I64 (constants.I64 n) = Unit {0}
IsConstant I64 init = ⊥
IsConstant type init = Unit {0}

-- All globals may be set, those that a module has and those that it imports, so that these are of
-- one mutability.
abbrev pub IsGlobal : DefinedGlobal → Type 0
IsGlobal g = (g.global_type.mutable ≡ true) × IsConstant g.global_type.val_type g.init

abbrev pub IsImported : EntityType → Type 0
IsImported (entities.Table t) = IsTable t
IsImported (entities.Global g) = g.mutable ≡ true
IsImported item = Unit {0}

abbrev pub AreEntriesTyped : Section → Type 0
AreEntriesTyped (sections.Imports entries) = AllByRecursion (λ (i : Import). IsImported i.entity) entries
AreEntriesTyped (sections.Tables tables) = AllByRecursion IsTable tables
AreEntriesTyped (sections.Globals globals) = AllByRecursion IsGlobal globals
AreEntriesTyped section = Unit {0}

-- the functions to which the bodies of a section make references
abbrev pub referred : Instruction → List ℕ
referred (RefFunc function) = function ∷ []
referred instruction = []

abbrev pub section_refers : Section → List ℕ
section_refers (sections.Code bodies) = flat_map (λ (b : Body). flat_map referred b.instructions) bodies
section_refers section = []

-- those that its segments have
abbrev pub segment_functions : ElementSegment → List ℕ
segment_functions (segments.Active table offset functions) = functions
segment_functions (segments.Declared functions) = functions

abbrev pub section_declares : Section → List ℕ
section_declares (sections.Elements parts) = flat_map segment_functions parts
section_declares section = []

-- The sections of a module, which exports nothing twice, whose entries have the types that they
-- need, and which makes references only to functions of its segments.
pub record AreSections (debug_names : Bool) (ss : List Section) : Type 0 where
  pub ordered : AreSectionsAfter 0 debug_names ss
  pub once : IsDistinct bytes_eq (map (λ (e : Export). e.name) (flat_map section_exports ss))
  pub typed : AllByRecursion AreEntriesTyped ss
  pub declared : AllByRecursion (Contains (flat_map section_declares ss)) (flat_map section_refers ss)

-- the number of a module, where there is one, and the number after it
abbrev numbered : {A : Type 0} → ℕ → Option A → List ℕ
numbered k None = []
numbered k (Some x) = k ∷ []

abbrev pub number_after : {A : Type 0} → ℕ → Option A → ℕ
number_after k None = k
number_after k (Some x) = suc k

-- the modules in the order in which they are instantiated: the shims, the user modules, and the fixup
abbrev pub instance_order : ℕ → GeneratedModules → List ℕ
instance_order users g = numbered users g.shims ++ (numbers_from 0 users ++ numbered (number_after users g.shims) g.fixup)

-- ---- definitions after the earlier ones

-- the arguments of a user module are named after the modules that it imports from, in their order
abbrev pub AreArgumentsNamed : ComponentWorld → ℕ → List CoreArgument → Type 0
AreArgumentsNamed w number arguments =
    (of : WorldModule) → slice_get (user_modules w) number ≡ Some of → map (λ (a : CoreArgument). a.name) arguments ≡ map (λ g. g.0) of.found.imports.modules

-- a function is exported, or an instance of a nested component, as it is
abbrev pub IsExportSound : List Def → Sort → ℕ → Option Description → Type 0
IsExportSound earlier sorts.Func index None = Unit {0}
IsExportSound earlier sorts.Instance index None = IsInstanceOfNested earlier index
IsExportSound earlier sort index description = ⊥

-- A nested component has types, imports and exports, each of which may stand where it does, and
-- nothing else: no core module, no instance, no custom section, and no resource. Its instances, and
-- those of user modules, are given one argument for each import. An imported instance has the types
-- that are needed of it.
abbrev pub IsSound : ComponentWorld → List Def → Def → Type 0
IsSound w earlier (defs.Component inner) = IsNestedRight inner
IsSound w earlier (defs.Item (items.CoreInstantiate number arguments)) = AreArgumentsNamed w number arguments
IsSound w earlier (defs.Item (items.Import name (descriptions.Instance index))) = ImportsInterface w earlier index
IsSound w earlier (defs.Item (items.Instantiate component arguments)) = InstantiatesNested earlier component arguments
IsSound w earlier (defs.Item (items.Export name sort index description)) = IsExportSound earlier sort index description
IsSound w earlier d = Unit {0}

abbrev pub AreSound : ComponentWorld → List Def → List Def → Type 0
AreSound w earlier [] = Unit {0}
AreSound w earlier (d ∷ ds) = IsSound w earlier d × AreSound w (earlier ++ d ∷ []) ds

-- ---- names in nested components and in types of instances

-- the names of the functions that a nested component imports, and the names that it exports
abbrev pub names_of_nested : Def → List Names
names_of_nested (defs.Item i) = []
names_of_nested (defs.Component inner) = flat_map function_import inner ∷ flat_map item_export inner ∷ []

-- the names that a type of instances exports
abbrev pub item_type_names : Item → List Names
item_type_names (items.InstanceType t) = flat_map member_export t.members ∷ []
item_type_names _ = []

-- ---- the whole list

-- at most one custom section, at the end, with the names of the items
pub record EndsWithNames (ds : List Def) : Type 0 where
  pub front : List Def
  pub names : List Def
  pub whole : ds ≡ front ++ names
  pub none_before : flat_map (at_root item_customs) front ≡ []
  pub named : AreNames names

-- As a list: the user modules are the first core modules, byte for byte but for the names that
-- adapters may get for debuggers, and all others are generated; the imports and exports are exactly
-- the stated ones; each module is instantiated once, in order; nested components pass on functions
-- and types, under the stated names, and the types of imported instances export what is needed of
-- them.
pub record IsComposed (n : Naming) (w : ComponentWorld) (g : GeneratedModules) (ds : List Def) : Type 0 where
  pub generated : List (List ℕ)
  pub modules : flat_map (at_root item_module) ds ≡ user_bytes n.debug_names w ++ generated
  pub encoded : AllZip Encodes generated (generated_sections g)
  pub sections : AllByRecursion (AreSections n.debug_names) (generated_sections g)
  pub imports : flat_map (at_root item_imports) ds ≡ stated_imports n w
  pub exports : flat_map (at_root item_exports) ds ≡ stated_exports n w
  pub instances : flat_map (at_root item_instantiates) ds ≡ instance_order (length (user_modules w)) g
  pub customs : EndsWithNames ds
  pub sound : AreSound w [] ds
  pub nested_names : flat_map names_of_nested ds ≡ nested_names w
  pub instance_types : flat_map (at_root item_type_names) ds ≡ instance_type_names w
