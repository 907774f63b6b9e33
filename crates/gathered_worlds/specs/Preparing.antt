-- The validated world of what was gathered.
--
-- Compatible versions of imported interfaces are merged, where merging is requested; the names in
-- the world of all modules are resolved; the roles of the core imports and exports of main, and
-- then of each adapter, are checked against the resolve; what the modules import from each other is
-- compared; and the world is made of these, as far as it is encoded yet. (The record is this
-- project's own.)
use Rattle.std.specs.Prelude.{ℕ, ◌&&◌, Bool, List, [], ◌∷◌, ◌++◌, Option, Some, None, Result, Ok, Err, is_some, not, ⊤, if◌then◌else◌}
use Rattle.std.specs.List.{list_any}
use Rattle.wit_data.specs.declared.worlds.WorldKey.{WorldKey}
use Rattle.comp_roles.specs.declared.exports.Export.{Export}
use Rattle.comp_roles.specs.declared.imports.ImportInstance.{ImportInstance}
use Rattle.world_values.specs.declared.gathered.Part.{Part}
use Rattle.world_values.specs.declared.gathered.Gathered.{Gathered}
use Rattle.world_values.specs.declared.gathered.GatheredAdapter.{GatheredAdapter}
use Rattle.comp_worlds.specs.declared.world.ComponentWorld.{ComponentWorld}
use Rattle.wit_data.specs.declared.resolve.Resolve.{Resolve}
use Rattle.comp_worlds.specs.declared.world.WorldAdapter.{WorldAdapter}
use Rattle.comp_worlds.specs.declared.world.WorldParts.{WorldParts}
use Rattle.core_sections.specs.declared.core_module.CoreModule.{CoreModule}
use Rattle.core_sections.specs.Entries.{module_of}
use Rattle.record_faults.specs.declared.fault.Failure.{Failure}
use Rattle.record_faults.specs.declared.fault.Failure.TheVariants as failures
use Rattle.record_faults.specs.declared.fault.Refusal.TheVariants as refusals
use Rattle.record_faults.specs.Faults.{◌>>=◌, lifted, read}
use Rattle.record_merge.specs.declared.bindgen.Bindgen.{Bindgen}
use Rattle.record_values.specs.declared.world.Wit.{Wit}
use Rattle.record_versions.specs.MergedVersions.{merged_versions}
use Rattle.record_resolve.specs.declared.resolving.Resolved.{Resolved}
use Rattle.record_resolve.specs.Resolved.{resolved}
use Rattle.record_resolve.specs.OtherNames.{also_named}
use Rattle.record_role_targets.specs.Metadata.{resolved_metadata}
use Rattle.record_core_types.specs.Offered.{imported, offered}
use Rattle.gathered_worlds.specs.Arguments.{Adapters, arguments_of}
use Rattle.gathered_worlds.specs.Reach.{reach_of, others_for}
use Rattle.gathered_worlds.specs.declared.reach.Reach.{Reach}
use Rattle.linked_modules.specs.Linking.{links_pass}
use Rattle.gathered_worlds.specs.declared.checking.CheckedRoles.{CheckedRoles}
use Rattle.gathered_worlds.specs.declared.modules.ModuleParts.{ModuleParts}
use Rattle.gathered_worlds.specs.declared.modules.Own.{Own}
use Rattle.record_imports.specs.Arguments.{Arguments}
use Rattle.record_imports.specs.Importing.{imports_of}
use Rattle.record_imports.specs.declared.others.OtherModules.{OtherModules}
use Rattle.record_exports.specs.Exporting.{exports_of}
use Rattle.record_exports.specs.Requiring.{required_of}
use Rattle.supported_worlds.specs.LeftOut.{encoded}

-- ---- adapters

-- an adapter that is not a library
abbrev pub is_plain : List ℕ × GatheredAdapter Bindgen → Bool
is_plain a = not (is_some a.1.library_info)

-- A realloc that grows the memory is only for libraries, since an adapter shares main's memory.
abbrev pub adapters_pass : Bool → Adapters → Result ⊤ Failure
adapters_pass grows all = if grows && list_any is_plain all then Err (failures.Refused refusals.MemoryGrow) else Ok tt

-- ---- the world of all modules

-- the resolve of the world of all modules, once compatible versions are merged; the old names of
-- those that became others are kept
unfoldable pub combined : Bool → Wit → Result Resolved Failure
combined merging w = do
  s ← read (merged_versions merging w)
  r ← read (resolved s.wit)
  Ok (also_named s.renames r)

-- ---- one module

-- the roles of a module's core exports, and the keys of those that are required of it
unfoldable pub checked_exports : Resolved → Part Bindgen → CoreModule → Result (List (List ℕ × Export) × List WorldKey) Failure
checked_exports r part core = do
  exported ← exports_of r part.own.roles.export_roles core
  required ← required_of r exported part.required
  Ok (exported, required)

abbrev pub with_imports : List (List ℕ × ImportInstance) → List (List ℕ × Export) × List WorldKey → CheckedRoles
with_imports imported exported = record { imports = record { modules = imported }; exports = exported.0; required = exported.1 }

-- these, and the roles of its core imports, where the module may import these exports of others,
-- and has these arguments
unfoldable pub checked_roles : Resolved → OtherModules → Arguments → Part Bindgen → CoreModule → Result CheckedRoles Failure
checked_roles r others arguments part core = do
  imported ← imports_of r others arguments part.own.roles.import_roles core
  exported ← checked_exports r part core
  Ok (with_imports imported exported)

-- what a module has besides its roles
abbrev pub own_of : Resolved → Part Bindgen → CoreModule → Own
own_of r part core = record { bytes = part.bytes; imported = imported core; offered = offered core; metadata = resolved_metadata r part.own.roles }

-- a module of a world, with its roles and what it has besides, and the keys of what is required of it
abbrev pub with_own : Own → CheckedRoles → ModuleParts
with_own own m = record {
  info = record {
    bytes = own.bytes;
    imports = m.imports;
    exports = record { exports = m.exports };
    imported = own.imported;
    offered = own.offered;
    metadata = own.metadata;
  };
  required = m.required;
}

abbrev pub parts_of : Resolved → Part Bindgen → CoreModule → CheckedRoles → ModuleParts
parts_of r part core m = with_own (own_of r part core) m

-- the module of a part
unfoldable pub core_parts : Resolved → OtherModules → Arguments → Part Bindgen → CoreModule → Result ModuleParts Failure
core_parts r others arguments part core = checked_roles r others arguments part core >>= λ m. Ok (parts_of r part core m)

unfoldable pub module_parts : Resolved → OtherModules → Arguments → Part Bindgen → Result ModuleParts Failure
module_parts r others arguments part = lifted (module_of part.bytes) >>= λ core. core_parts r others arguments part core

-- ---- all modules

-- an adapter of a world, under its name, and a library where it was gathered as one
abbrev pub adapter_of : GatheredAdapter Bindgen → ModuleParts → WorldAdapter
adapter_of a m = record { info = m.info; required_exports = m.required; library_info = a.library_info }

abbrev pub adapter_in : List ℕ × GatheredAdapter Bindgen → ModuleParts → List ℕ × WorldAdapter
adapter_in a m = (a.0, adapter_of a.1 m)

-- the module of an adapter
unfoldable pub adapter_parts : Resolved → Reach → GatheredAdapter Bindgen → Result ModuleParts Failure
adapter_parts r reach a = module_parts r (others_for reach a.library_info) (arguments_of a.library_info) a.part

-- those of all adapters, after others, in order
abbrev pub adapters_after : Resolved → Reach → List (List ℕ × WorldAdapter) → Adapters → Result (List (List ℕ × WorldAdapter)) Failure
adapters_after r reach done [] = Ok done
adapters_after r reach done (a ∷ more) = adapter_parts r reach a.1 >>= λ m. adapters_after r reach (done ++ adapter_in a m ∷ []) more

-- a world of main and of adapters
abbrev pub world_with : Resolve → ModuleParts → List (List ℕ × WorldAdapter) → Bool → WorldParts
world_with resolve main adapters slot_1 = record {
  resolve = resolve;
  world = record { index = 0 };
  main = main.info;
  main_exports = main.required;
  adapters = adapters;
  can_use_context_slot_1 = slot_1;
}

-- main first, and then the adapters, which may import these exports of other modules
unfoldable pub parts_within : Resolved → Reach → Part Bindgen → Adapters → Result WorldParts Failure
parts_within r reach main adapters = do
  m ← module_parts r reach.main [] main
  made ← adapters_after r reach [] adapters
  Ok (world_with r.resolve m made main.own.roles.context_slot_1)

-- of the modules that are there
abbrev pub world_parts : Resolved → Part Bindgen → Adapters → Result WorldParts Failure
world_parts r main adapters = parts_within r (reach_of adapters) main adapters

-- the world of these parts, where the modules are given what they import, and all of it is encoded yet
abbrev pub linked_world : WorldParts → Result ComponentWorld Failure
linked_world p = links_pass p >>= λ _. encoded p

abbrev pub preparing_modules : Resolved → Part Bindgen → Adapters → Result ComponentWorld Failure
preparing_modules r main adapters = world_parts r main adapters >>= linked_world

-- no bytes at all are not a module
abbrev pub preparing_if : Resolved → Option (Part Bindgen) → Adapters → Result ComponentWorld Failure
preparing_if r None adapters = Err (failures.Refused refusals.NotModule)
preparing_if r (Some main) adapters = preparing_modules r main adapters

-- ---- the whole

unfoldable pub preparing : Gathered Bindgen → Result ComponentWorld Failure
preparing g = do
  _ ← adapters_pass g.options.realloc_via_memory_grow g.adapters
  r ← combined g.options.merge_imports_based_on_semver g.combined.wit
  preparing_if r g.main g.adapters
