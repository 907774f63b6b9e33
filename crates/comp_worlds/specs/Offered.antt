-- What user modules give to each other: main its exports and its memory to all others, an adapter
-- its functions, and any module its exports to the libraries that name it in their arguments (core
-- standard: imports and exports; validation: import matching).
use Rattle.std.specs.Prelude.{◌≡◌, ℕ, List, Option, Some, true}
use Rattle.std.specs.Option.{option_map, option_or}
use Rattle.comp_lists.specs.Found.{found}
use Rattle.core_types.specs.declared.types.FuncType.{FuncType}
use Rattle.core_types.specs.declared.types.MemoryType.{MemoryType}
use Rattle.standard_kinds.specs.declared.kinds.ExportKind.{ExportKind}
use Rattle.comp_roles.specs.Lookups.{imported_memory, first_memory}
use Rattle.comp_roles.specs.Matching.{kind_of, matches, has_numbers}
use Rattle.comp_roles.specs.declared.libraries.MainOrAdapter.{MainOrAdapter}
use Rattle.comp_roles.specs.declared.offered.ExternType.{ExternType}
use Rattle.comp_roles.specs.declared.offered.ExternType.TheVariants as externs
use Rattle.comp_worlds.specs.Lookups.{found_module}
use Rattle.comp_worlds.specs.declared.world.ComponentWorld.{ComponentWorld}
use Rattle.comp_worlds.specs.declared.world.ValidatedModule.{ValidatedModule}
use Rattle.comp_worlds.specs.declared.world.WorldAdapter.{WorldAdapter}

-- a module offers an item of this kind under this name
pub record OffersItem (m : ValidatedModule) (name : List ℕ) (kind : ExportKind) : Type 0 where
  pub type : ExternType
  pub offered : found name m.offered ≡ Some type
  pub of_kind : kind_of type ≡ kind

-- what it offers under this name matches an import of this type
pub record OffersMatching (m : ValidatedModule) (name : List ℕ) (required : ExternType) : Type 0 where
  pub type : ExternType
  pub offered : found name m.offered ≡ Some type
  pub matching : matches required type ≡ true

-- the module that a library names offers an item of this kind under this name
pub record NamedOffers (w : ComponentWorld) (which : MainOrAdapter) (name : List ℕ) (kind : ExportKind) : Type 0 where
  pub of : ValidatedModule
  pub named : found_module w which ≡ Some of
  pub offers : OffersItem of name kind

-- what it offers under this name matches an import of this type
pub record NamedMatches (w : ComponentWorld) (which : MainOrAdapter) (name : List ℕ) (required : ExternType) : Type 0 where
  pub of : ValidatedModule
  pub named : found_module w which ≡ Some of
  pub matches : OffersMatching of name required

-- the adapter of this name offers a function of this type, of numbers alone
pub record AdapterOffers (w : ComponentWorld) (adapter name : List ℕ) (type : FuncType) : Type 0 where
  pub of : WorldAdapter
  pub named : found adapter w.adapters ≡ Some of
  pub offered : found name of.info.offered ≡ Some (externs.Func type)
  pub numbers : has_numbers type ≡ true

-- the type of the memory that main imports, the first, if it imports one: all modules share it
abbrev pub shared_memory : ComponentWorld → Option MemoryType
shared_memory w = imported_memory w.main.imports.modules

-- the type of main's memory: of the first that it imports, or, where it imports none, of the first that it exports
abbrev pub memory_of_main : ValidatedModule → Option MemoryType
memory_of_main m = option_or (imported_memory m.imports.modules) (option_map (λ e. e.1) (first_memory m.exports.exports))

-- main's memory, where it has one, matches an import of this type
pub record MemoryMatches (w : ComponentWorld) (required : MemoryType) : Type 0 where
  pub matching : (type : MemoryType) → memory_of_main w.main ≡ Some type → matches (externs.Memory required) (externs.Memory type) ≡ true
