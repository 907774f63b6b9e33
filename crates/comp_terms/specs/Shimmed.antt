-- Which imports of user modules are given a shim (this project's own; Canonical ABI: `memory`). All
-- others are given what the link table names as it is, so that it works from the moment that it is
-- given.
use Rattle.std.specs.Prelude.{◌&&◌, ◌||◌, ◌++◌, ℕ, Bool, true, false, List, codes, not, is_some}
use Rattle.std.specs.Option.{option_map_or}
use Rattle.comp_lists.specs.Found.{found}
use Rattle.comp_options.specs.Options.{needs, memory_bit}
use Rattle.comp_roles.specs.CoreImports.{CoreImport}
use Rattle.comp_roles.specs.declared.imports.Import.{Import}
use Rattle.comp_roles.specs.declared.imports.Import.TheVariants as imports
use Rattle.comp_roles.specs.declared.imports.ImportInstance.{ImportInstance}
use Rattle.comp_roles.specs.declared.imports.ImportInstance.TheVariants as instances
use Rattle.comp_roles.specs.declared.payloads.PayloadInfo.{PayloadInfo}
use Rattle.comp_roles.specs.Lookups.{imported_memory}
use Rattle.comp_worlds.specs.declared.world.ComponentWorld.{ComponentWorld}
use Rattle.comp_links.specs.Links.{lower_needs, is_always_shimmed}
use Rattle.comp_links.specs.Modules.{WorldModule}
use Rattle.comp_links.specs.Targets.{UserModule, Main}

-- a function that an adapter exports has one, and so has one that is always made behind its module,
-- and one that is called with main's memory, unless that is there before main is instantiated, since main imports it. (A
-- built-in function of another module than main may be given as it is all the same.)
abbrev pub has_shim : ComponentWorld → Import → Bool
has_shim w (imports.AdapterExport adapter name type) = true
has_shim w (imports.ErrorContextDebugMessage encoding) = true
has_shim w role = needs (lower_needs w role) memory_bit && (is_always_shimmed w role || not (is_some (imported_memory w.main.imports.modules)))

-- the same by the names of the import's module and field: what a whole instance gives has none
abbrev pub has_shim_in : ComponentWorld → List ℕ → ImportInstance → Bool
has_shim_in w field (instances.Names fields) = option_map_or (has_shim w) (found field fields) false
has_shim_in w field (instances.Whole which) = false

abbrev pub has_shim_at : ComponentWorld → WorldModule → List ℕ → List ℕ → Bool
has_shim_at w m module_name field = option_map_or (has_shim_in w field) (found module_name m.found.imports.modules) false

-- the module that the shim of an import is for: waits, and making an error context, have one shim for
-- all modules, which counts as main's
abbrev pub shim_owner : UserModule → Import → UserModule
shim_owner of imports.WaitableSetWait = Main
shim_owner of imports.WaitableSetPoll = Main
shim_owner of (imports.ErrorContextNew encoding) = Main
shim_owner of role = of

-- the name of the shim of a read or a write
abbrev pub access_text : CoreImport → PayloadInfo → List ℕ
access_text i p = i.module_name ++ codes "-" ++ p.name

-- the name of the shim of a core import, by its role, in faults
abbrev pub shim_name : CoreImport → Import → List ℕ
shim_name i imports.WaitableSetWait = codes "waitable-set.wait"
shim_name i imports.WaitableSetPoll = codes "waitable-set.poll"
shim_name i (imports.ErrorContextNew encoding) = codes "error-new"
shim_name i (imports.ErrorContextDebugMessage encoding) = codes "error-debug-message"
shim_name i (imports.ExportedTaskReturn key interface f) = codes "task-return-" ++ f.name
shim_name i (imports.StreamRead p is_async) = access_text i p
shim_name i (imports.StreamWrite p is_async) = access_text i p
shim_name i (imports.FutureRead p is_async) = access_text i p
shim_name i (imports.FutureWrite p is_async) = access_text i p
shim_name i role = codes "indirect-" ++ i.module_name ++ codes "-" ++ i.field
