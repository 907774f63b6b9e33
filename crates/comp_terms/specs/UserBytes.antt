-- The bytes of the user modules in a component: those that were given, and, where core modules have
-- names for debuggers, with a name for each adapter (core standard, appendix: name section).
use Rattle.std.specs.Prelude.{ℕ, Bool, if◌then◌else◌, List, ◌∷◌, ◌++◌, map, codes, is_some}
use Rattle.core_bytes.specs.Renaming.{with_module_name}
use Rattle.comp_worlds.specs.declared.world.ComponentWorld.{ComponentWorld}
use Rattle.comp_worlds.specs.declared.world.WorldAdapter.{WorldAdapter}

-- the name of an adapter's module: a library has its own name
abbrev pub module_title : List ℕ × WorldAdapter → List ℕ
module_title a = if is_some a.1.library_info then a.0 else codes "wit-component:adapter:" ++ a.0

abbrev pub adapter_bytes : Bool → List ℕ × WorldAdapter → List ℕ
adapter_bytes debug_names a = if debug_names then (with_module_name a.1.info.bytes (module_title a)).bytes else a.1.info.bytes

-- those of main, then those of the adapters in order
abbrev pub user_bytes : Bool → ComponentWorld → List (List ℕ)
user_bytes debug_names w = w.main.bytes ∷ map (adapter_bytes debug_names) w.adapters
