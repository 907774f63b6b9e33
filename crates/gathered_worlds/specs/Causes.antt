-- When each fault is right: what is wrong with the bytes, with the records or with what was
-- gathered. (The record is this project's own; what is required of the bytes is from the core
-- standard's binary format.)
use Rattle.std.specs.Prelude.{◌≡◌, ℕ, Bool, List, [], Some, None, Ok, Err, Contains, IsTrue}
use Rattle.comp_roles.specs.declared.exports.Export.{Export}
use Rattle.world_values.specs.declared.gathered.Gathered.{Gathered}
use Rattle.world_values.specs.declared.gathered.GatheredAdapter.{GatheredAdapter}
use Rattle.world_values.specs.declared.gathered.Part.{Part}
use Rattle.comp_worlds.specs.declared.world.WorldParts.{WorldParts}
use Rattle.core_sections.specs.declared.core_module.CoreModule.{CoreModule}
use Rattle.core_sections.specs.Entries.{module_of}
use Rattle.record_faults.specs.declared.fault.Failure.TheVariants as failures
use Rattle.record_faults.specs.declared.fault.Refusal.{Refusal}
use Rattle.record_faults.specs.declared.fault.PlainFault.{PlainFault}
use Rattle.record_faults.specs.declared.fault.PlainFault.TheVariants as faults
use Rattle.record_faults.specs.Faults.{flat_refusal, of_record_refusal, lifted}
use Rattle.record_merge.specs.declared.bindgen.Bindgen.{Bindgen}
use Rattle.record_merge.specs.Causes.{WorldConflict}
use Rattle.json_paths.specs.declared.fault.Failure.TheVariants as record_failures
use Rattle.json_paths.specs.declared.fault.Refusal.{Refusal as RecordRefusal}
use Rattle.record_values.specs.declared.record.Record.{Record}
use Rattle.record_values.specs.declared.world.Wit.{Wit}
use Rattle.record_versions.specs.declared.versions.MergedVersions.{MergedVersions}
use Rattle.record_versions.specs.MergedVersions.{merged_versions}
use Rattle.record_resolve.specs.declared.resolving.Resolved.{Resolved}
use Rattle.record_resolve.specs.Resolved.{resolved, IsWhole}
use Rattle.record_imports.specs.Arguments.{Arguments}
use Rattle.record_imports.specs.Causes.{ImportCause}
use Rattle.record_imports.specs.declared.others.OtherModules.{OtherModules}
use Rattle.record_exports.specs.Exporting.{exports_of}
use Rattle.record_exports.specs.Causes.{ExportCause, RequiredCause}
use Rattle.supported_worlds.specs.Causes.{IsLeftOut}
use Rattle.gathered_worlds.specs.Arguments.{Adapters, arguments_of}
use Rattle.gathered_worlds.specs.Reach.{reach_of, others_for}
use Rattle.gathered_worlds.specs.declared.reach.Reach.{Reach}
use Rattle.linked_modules.specs.LinkCauses.{LinkCause}
use Rattle.gathered_worlds.specs.Preparing.{combined, world_parts}

-- ---- merging

pub data MergeCause (a b : Bindgen) : PlainFault → Type 0 where
  -- the worlds say different things of this name
  conflict_of_worlds : (name : List ℕ) → WorldConflict a.wit b.wit name → MergeCause a b (faults.MergeConflict name)

-- ---- preparing: the world of all modules

-- why the world of all modules is refused
pub data CombinedCause (merging : Bool) (w : Wit) : PlainFault → Type 0 where
  -- compatible versions of imported interfaces can't be merged, and this is why
  unmerged : (r : RecordRefusal) → merged_versions merging w ≡ Err (record_failures.Refused r) → CombinedCause merging w (flat_refusal (of_record_refusal r))
  -- a name refers to nothing
  unresolved : (s : MergedVersions) (r : RecordRefusal) → merged_versions merging w ≡ Ok s → resolved s.wit ≡ Err (record_failures.Refused r) → CombinedCause merging w (flat_refusal (of_record_refusal r))
  -- the resolve is not whole
  not_whole : (s : MergedVersions) (r : Resolved) → merged_versions merging w ≡ Ok s → resolved s.wit ≡ Ok r → (IsWhole r → ⊥) → CombinedCause merging w (faults.Record [])

-- ---- preparing: the modules

-- why a module's core exports are refused with this resolve
pub data ExportsCause (r : Resolved) (part : Part Bindgen) (core : CoreModule) : Refusal → Type 0 where
  -- they don't fit their roles
  unfit : (f : Refusal) → ExportCause r part.own.roles.export_roles core f → ExportsCause r part core f
  -- one that is required of the module is missing
  missing : (exported : List (List ℕ × Export)) (f : Refusal) → exports_of r part.own.roles.export_roles core ≡ Ok exported → RequiredCause r exported part.required f → ExportsCause r part core f

-- why its roles are refused, where it may import these exports of other modules, and has these arguments
pub data RolesCause (r : Resolved) (others : OtherModules) (arguments : Arguments) (part : Part Bindgen) (core : CoreModule) : Refusal → Type 0 where
  of_imports : (f : Refusal) → ImportCause r others arguments part.own.roles.import_roles core f → RolesCause r others arguments part core f
  of_exports : (f : Refusal) → ExportsCause r part core f → RolesCause r others arguments part core f

-- why a module is refused
pub data ModuleCause (r : Resolved) (others : OtherModules) (arguments : Arguments) (part : Part Bindgen) : Refusal → Type 0 where
  -- its sections can't be read as those of a core module, and this is the fault
  unread : (f : Refusal) → lifted (module_of part.bytes) ≡ Err (failures.Refused f) → ModuleCause r others arguments part f
  -- they can be read, and its roles are refused
  as_core : (core : CoreModule) (f : Refusal) → module_of part.bytes ≡ Ok core → RolesCause r others arguments part core f → ModuleCause r others arguments part f

-- why an adapter is refused
abbrev pub AdapterCause : Resolved → Reach → GatheredAdapter Bindgen → Refusal → Type 0
AdapterCause r reach a f = ModuleCause r (others_for reach a.library_info) (arguments_of a.library_info) a.part f

-- why adapters are refused: one of them is
pub data AdaptersCause (r : Resolved) (reach : Reach) (all : Adapters) : Refusal → Type 0 where
  of_adapter : (a : List ℕ × GatheredAdapter Bindgen) (f : Refusal) → Contains all a → AdapterCause r reach a.1 f → AdaptersCause r reach all f

-- why there are no parts of a world of main and these adapters, which may import these exports of other modules
pub data PartsCause (r : Resolved) (reach : Reach) (main : Part Bindgen) (adapters : Adapters) : Refusal → Type 0 where
  of_main : (f : Refusal) → ModuleCause r reach.main [] main f → PartsCause r reach main adapters f
  of_adapters : (f : Refusal) → AdaptersCause r reach adapters f → PartsCause r reach main adapters f

-- why there is no world of these parts
pub data WholeCause (p : WorldParts) : Refusal → Type 0 where
  -- a module imports what is not given to it
  unlinked : (f : Refusal) → LinkCause p f → WholeCause p f
  -- something of the world is not encoded yet
  not_yet : (f : Refusal) → IsLeftOut p f → WholeCause p f

-- why there is no world of main and these adapters
pub data WorldCause (r : Resolved) (main : Part Bindgen) (adapters : Adapters) : Refusal → Type 0 where
  -- a module is refused
  of_parts : (f : Refusal) → PartsCause r (reach_of adapters) main adapters f → WorldCause r main adapters f
  -- or their world
  of_whole : (p : WorldParts) (f : Refusal) → world_parts r main adapters ≡ Ok p → WholeCause p f → WorldCause r main adapters f

-- ---- preparing

pub data PrepareCause (g : Gathered Bindgen) : PlainFault → Type 0 where
  -- reallocs are to grow the memory, and there is an adapter that is not a library
  grows : (a : List ℕ × GatheredAdapter Bindgen) → IsTrue g.options.realloc_via_memory_grow → Contains g.adapters a → a.1.library_info ≡ None → PrepareCause g faults.MemoryGrow
  -- the world of all modules is refused
  of_combined : (f : PlainFault) → CombinedCause g.options.merge_imports_based_on_semver g.combined.wit f → PrepareCause g f
  -- main or an adapter is refused with this resolve, or their world
  of_world : (r : Resolved) (main : Part Bindgen) (f : Refusal) → combined g.options.merge_imports_based_on_semver g.combined.wit ≡ Ok r → g.main ≡ Some main → WorldCause r main g.adapters f → PrepareCause g (flat_refusal f)
