-- What is looked up across the modules of a world (component model: names of imports and exports; Canonical
-- ABI: `realloc`).
use Rattle.std.specs.Prelude.{ℕ, Bool, true, false, List, Option, Some, None, is_some, option_map}
use denote.Ref.{Bor}
use Rattle.comp_lists.specs.Found.{found}
use Rattle.comp_roles.specs.Lookups.{Exports, first_export}
use Rattle.comp_roles.specs.Reallocs.{is_general_realloc}
use Rattle.comp_roles.specs.declared.libraries.MainOrAdapter.{MainOrAdapter}
use Rattle.comp_roles.specs.declared.libraries.MainOrAdapter.TheVariants as users
use Rattle.comp_worlds.specs.declared.modules.CustomModule.{CustomModule}
use Rattle.comp_worlds.specs.declared.modules.CustomModule.TheVariants as modules
use Rattle.comp_worlds.specs.declared.world.ComponentWorld.{ComponentWorld}
use Rattle.comp_worlds.specs.declared.world.ValidatedModule.{ValidatedModule}
use Rattle.comp_worlds.specs.declared.world.WorldAdapter.{WorldAdapter}

-- a module: main has no name, an adapter has one
abbrev pub module_name : CustomModule → Option (List ℕ)
module_name modules.Main = None
module_name (modules.Adapter name) = Some name.now

-- what validation found of a module of the world
abbrev pub found_module : ComponentWorld → MainOrAdapter → Option ValidatedModule
found_module w users.Main = Some w.main
found_module w (users.Adapter name) = option_map (λ (a : WorldAdapter). a.info) (found name w.adapters)

abbrev pub is_library_adapter : Option WorldAdapter → Bool
is_library_adapter None = false
is_library_adapter (Some adapter) = is_some adapter.library_info

-- the adapter of this name exists, and is a library
abbrev pub is_library : ComponentWorld → List ℕ → Bool
is_library w name = is_library_adapter (found name w.adapters)

-- main's realloc where the adapter is a library
abbrev pub main_realloc_if : Bool → Exports → Option (Option (List ℕ) × List ℕ)
main_realloc_if true entries = option_map (λ name. (None, name)) (first_export is_general_realloc entries)
main_realloc_if false entries = None

-- the module that reallocates for this one, and its export: the module itself where it has one of its
-- own, main for a library that has none
abbrev pub resolved_realloc : ComponentWorld → Option (List ℕ) → Option (List ℕ) → Option (Option (List ℕ) × List ℕ)
resolved_realloc w which (Some own) = Some (which, own)
resolved_realloc w (Some adapter) None = main_realloc_if (is_library w adapter) w.main.exports.exports
resolved_realloc w None None = None

-- a module and one of its exports, as a look-up borrows them
abbrev pub lent_export : Option (CustomModule × Bor (List ℕ)) → Option (Option (List ℕ) × List ℕ)
lent_export answer = option_map (λ p. (module_name p.0, p.1.now)) answer
