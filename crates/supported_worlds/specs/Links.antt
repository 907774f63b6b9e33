-- What the modules of a world give to each other: what the role of a core import names is offered
-- by main, by an adapter or by the module that an argument of a library names, of the kind and the
-- type that the import asks for; so is what is imported from a module for which a whole instance is
-- given; and main imports no export of its own, and is no library (core standard: imports and
-- exports; validation: import matching).
use Rattle.std.specs.Prelude.{◌≡◌, Some}
use Rattle.std.specs.List.{AllByRecursion}
use Rattle.comp_lists.specs.Found.{found}
use Rattle.comp_roles.specs.CoreImports.{role_at}
use Rattle.comp_roles.specs.declared.imports.Import.{Import}
use Rattle.comp_roles.specs.declared.imports.Import.TheVariants as imports
use Rattle.comp_roles.specs.declared.imports.ImportInstance.TheVariants.{Whole}
use Rattle.comp_roles.specs.declared.libraries.MainOrAdapter.{MainOrAdapter}
use Rattle.comp_roles.specs.declared.offered.ExternType.{ExternType}
use Rattle.comp_roles.specs.declared.offered.ImportType.{ImportType}
use Rattle.comp_worlds.specs.Offered.{OffersItem, OffersMatching, NamedOffers, NamedMatches, AdapterOffers, MemoryMatches}
use Rattle.comp_worlds.specs.Uses.{imports_of}
use Rattle.comp_worlds.specs.WorldTables.{whole_of}
use Rattle.comp_worlds.specs.Worlds.{IsNotOfMain}
use Rattle.comp_worlds.specs.declared.world.ComponentWorld.{ComponentWorld}
use Rattle.comp_worlds.specs.declared.world.ValidatedModule.{ValidatedModule}
use Rattle.comp_worlds.specs.declared.world.WorldParts.{WorldParts}

-- what a role names is there: main's memory, an export of main, a function of an adapter, or an item of an argument
abbrev pub IsRoleLinked : ComponentWorld → Import → Type 0
IsRoleLinked w (imports.MainModuleMemory type) = MemoryMatches w type
IsRoleLinked w (imports.MainModuleExport name kind) = OffersItem w.main name kind
IsRoleLinked w (imports.AdapterExport adapter name type) = AdapterOffers w adapter name type
IsRoleLinked w (imports.Item item) = NamedOffers w item.which item.name item.kind
IsRoleLinked w role = Unit {0}

-- and where it is an export of main or an item, that matches an import of this type
abbrev pub IsTypeLinked : ComponentWorld → Import → ExternType → Type 0
IsTypeLinked w (imports.MainModuleExport name kind) type = OffersMatching w.main name type
IsTypeLinked w (imports.Item item) type = NamedMatches w item.which item.name type
IsTypeLinked w role type = Unit {0}

-- the imports from this module are given a whole instance
abbrev pub IsFromInstance : ValidatedModule → ImportType → MainOrAdapter → Type 0
IsFromInstance m i which = found i.module_name m.imports.modules ≡ Some (Whole which)

-- an import is given what matches it, by its role or by the instance for its module
pub record IsImportLinked (w : ComponentWorld) (m : ValidatedModule) (i : ImportType) : Type 0 where
  pub by_role : (role : Import) → role_at m.imports.modules i.module_name i.field ≡ Some role → IsTypeLinked w role i.ty
  pub by_instance : (which : MainOrAdapter) → IsFromInstance m i which → NamedMatches w which i.field i.ty

-- each import of a module is given what it asks for
pub record IsModuleLinked (w : ComponentWorld) (m : ValidatedModule) : Type 0 where
  pub roles : AllByRecursion (λ i. IsRoleLinked w i.role) (imports_of m)
  pub types : AllByRecursion (IsImportLinked w m) m.imported

-- main imports no export of its own, and neither an item nor a whole instance
pub record IsMainFirst (m : ValidatedModule) : Type 0 where
  pub roles : AllByRecursion (λ i. IsNotOfMain i.role) (imports_of m)
  pub by_roles : AllByRecursion (λ i. (which : MainOrAdapter) → IsFromInstance m i which → ⊥) m.imported

-- so it is for main and for each adapter
pub record AreLinked (p : WorldParts) : Type 0 where
  pub main_first : IsMainFirst p.main
  pub main : IsModuleLinked (whole_of p) p.main
  pub adapters : AllByRecursion (λ a. IsModuleLinked (whole_of p) a.1.info) p.adapters
