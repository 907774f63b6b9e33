-- What is known of names that were resolved, and of roles that were checked against them.
use Rattle.std.specs.Prelude.{◌≡◌, ◌<◌, length, get_or, Ok}
use Rattle.std.specs.List.{flat_map, AllByRecursion}
use Rattle.wit_data.specs.Sound.{IsSound}
use Rattle.wit_data.specs.declared.ids.WorldId.{WorldId}
use Rattle.comp_roles.specs.CoreImports.{imports_from}
use Rattle.world_values.specs.Items.{no_items}
use Rattle.world_values.specs.Mentions.{HasRole}
use Rattle.record_versions.specs.declared.versions.MergedVersions.{MergedVersions}
use Rattle.record_resolve.specs.declared.resolving.Resolved.{Resolved}
use Rattle.record_resolve.specs.Resolved.{resolved, AreNamed, AreListed, IsWhole}
use Rattle.record_resolve.specs.OtherNames.{also_named}
use Rattle.record_core_types.specs.Guarantees.{IsCalled, IsLifted, IsKept}
use Rattle.supported_worlds.specs.Guarantees.{IsSoundModule}
use Rattle.supported_worlds.specs.Modules.{UserModule}
use Rattle.gathered_worlds.specs.declared.modules.ModuleParts.{ModuleParts}
use Rattle.gathered_worlds.specs.declared.checking.CheckedRoles.{CheckedRoles}

abbrev pub world_id : WorldId
world_id = record { index = 0 }

-- there is a world, its functions and those of interfaces have the names of their keys, and all of it is sound
pub record IsUsable (r : Resolved) : Type 0 where
  pub present : 0 < length r.resolve.worlds
  pub sound : IsSound r.resolve
  pub named : AreNamed (get_or r.resolve.worlds 0 no_items)
  pub listed : AllByRecursion AreListed r.resolve.interfaces

-- this is the resolve of a world with merged versions, which is whole, with the old names of the
-- interfaces that became others
pub record IsCombined (s : MergedVersions) (r : Resolved) : Type 0 where
  pub plain : Resolved
  pub is_resolved : resolved s.wit ≡ Ok plain
  pub is_whole : IsWhole plain
  pub is : r ≡ also_named s.renames plain

-- the world has what a module's roles name, and what is required of its exports
pub record AreChecked (r : Resolved) (m : CheckedRoles) : Type 0 where
  pub roles : AllByRecursion (λ i. HasRole r.resolve i.role) (flat_map imports_from m.imports.modules)
  pub called : AllByRecursion (λ i. IsCalled r.resolve world_id i.role) (flat_map imports_from m.imports.modules)
  pub lifted : AllByRecursion (λ e. IsLifted r.resolve world_id e.1) m.exports
  pub kept : AllByRecursion (IsKept r.resolve world_id m.exports) m.required

-- a module of the world of a resolve
abbrev pub user_module : ModuleParts → UserModule
user_module m = record { info = m.info; keys = m.required }

abbrev pub IsSoundPart : Resolved → UserModule → Type 0
IsSoundPart r m = IsSoundModule r.resolve world_id (get_or r.resolve.worlds 0 no_items) m
