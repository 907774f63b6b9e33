-- What is known of the parts when a world is prepared (component model: the imports and exports of
-- a world; Canonical ABI: `canon lower`, `canon lift`).
use Rattle.std.specs.Prelude.{◌≡◌, ◌⊎◌, ◌<◌, ℕ, List, length, Some, Contains}
use Rattle.std.specs.List.{AllByRecursion}
use Rattle.comp_lists.specs.Found.{found}
use Rattle.core_types.specs.Core.{IsCoreModule}
use Rattle.wit_data.specs.Sound.{IsSound}
use Rattle.wit_data.specs.declared.ids.WorldId.{WorldId}
use Rattle.wit_data.specs.declared.resolve.Resolve.{Resolve}
use Rattle.wit_data.specs.declared.worlds.World.{World}
use Rattle.comp_roles.specs.CoreImports.{role_at}
use Rattle.comp_roles.specs.declared.exports.Export.{Export}
use Rattle.comp_roles.specs.declared.imports.Import.{Import}
use Rattle.comp_roles.specs.declared.imports.ImportInstance.{ImportInstance}
use Rattle.comp_roles.specs.declared.libraries.MainOrAdapter.{MainOrAdapter}
use Rattle.comp_roles.specs.declared.offered.ExternType.{ExternType}
use Rattle.comp_roles.specs.declared.offered.ImportType.{ImportType}
use Rattle.world_values.specs.Mentions.{HasRole}
use Rattle.comp_worlds.specs.Typed.{type_of_import, type_of_export}
use Rattle.comp_worlds.specs.Uses.{imports_of}
use Rattle.comp_worlds.specs.declared.world.ValidatedModule.{ValidatedModule}
use Rattle.comp_worlds.specs.declared.world.WorldParts.{WorldParts}
use Rattle.record_core_types.specs.Guarantees.{IsCalled, IsLifted, IsKept}
use Rattle.record_resolve.specs.Resolved.{AreNamed, AreListed}
use Rattle.supported_worlds.specs.LeftOut.{items_of}
use Rattle.supported_worlds.specs.Links.{IsFromInstance}
use Rattle.supported_worlds.specs.Modules.{UserModule, main_of, module_of}

-- a core import of a module has a role; where a type is known that the role requires, it is that of the import
pub record HasFoundRole (r : Resolve) (items : World) (m : ValidatedModule) (i : ImportType) : Type 0 where
  pub role : Import
  pub has_role : role_at m.imports.modules i.module_name i.field ≡ Some role
  pub fits : (ty : ExternType) → type_of_import r items role ≡ Some ty → ty ≡ i.ty

-- or it is from a module for which a whole instance is given
pub record IsGivenWhole (m : ValidatedModule) (i : ImportType) : Type 0 where
  pub which : MainOrAdapter
  pub whole : IsFromInstance m i which

abbrev pub HasFoundImport : Resolve → World → ValidatedModule → ImportType → Type 0
HasFoundImport r items m i = HasFoundRole r items m i ⊎ IsGivenWhole m i

-- a module imports something from the module of a group
pub record IsUsed (m : ValidatedModule) (group : List ℕ × ImportInstance) : Type 0 where
  pub import : ImportType
  pub there : Contains m.imported import
  pub from : import.module_name ≡ group.0

-- where a type is known that the role of a core export requires, the module offers the export with that type
pub record OffersExport (r : Resolve) (items : World) (m : ValidatedModule) (e : List ℕ × Export) : Type 0 where
  pub offered : (ty : ExternType) → type_of_export r items e.1 ≡ Some ty → found e.0 m.offered ≡ Some ty

-- A user module is a core module; the world, whose imports and exports are these, has what its
-- roles name and what it must export; its core imports and exports have the types that their roles
-- require; and it imports from each module that it names.
pub record IsSoundModule (r : Resolve) (w : WorldId) (items : World) (m : UserModule) : Type 0 where
  pub core : IsCoreModule m.info.bytes
  pub roles : AllByRecursion (λ i. HasRole r i.role) (imports_of m.info)
  pub called : AllByRecursion (λ i. IsCalled r w i.role) (imports_of m.info)
  pub lifted : AllByRecursion (λ e. IsLifted r w e.1) m.info.exports.exports
  pub imported : AllByRecursion (HasFoundImport r items m.info) m.info.imported
  pub used : AllByRecursion (IsUsed m.info) m.info.imports.modules
  pub exported : AllByRecursion (OffersExport r items m.info) m.info.exports.exports
  pub kept : AllByRecursion (IsKept r w m.info.exports.exports) m.keys

-- The resolve is sound and has the world, whose functions have the names of their keys, as have
-- those of interfaces; and main and the adapters are such modules.
pub record HasSoundParts (p : WorldParts) : Type 0 where
  pub sound : IsSound p.resolve
  pub present : p.world.index < length p.resolve.worlds
  pub named : AreNamed (items_of p)
  pub listed : AllByRecursion AreListed p.resolve.interfaces
  pub main : IsSoundModule p.resolve p.world (items_of p) (main_of p)
  pub adapters : AllByRecursion (λ a. IsSoundModule p.resolve p.world (items_of p) (module_of a)) p.adapters
