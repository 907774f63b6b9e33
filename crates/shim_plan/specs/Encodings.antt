-- Which imports of a module lack a string encoding that they need (Canonical ABI: `string-encoding`).
use Rattle.std.specs.Prelude.{◌≡◌, ℕ, slice_get, List, [], ◌∷◌, ◌++◌, Option, Some, None, if◌then◌else◌, codes}
use Rattle.std.specs.List.{flat_map}
use Rattle.standard_kinds.specs.declared.kinds.StringEncoding.{StringEncoding}
use Rattle.comp_roles.specs.CoreImports.{CoreImport}
use Rattle.comp_roles.specs.declared.libraries.MainOrAdapter.{MainOrAdapter}
use Rattle.comp_worlds.specs.Lookups.{found_module}
use Rattle.comp_worlds.specs.Uses.{imports_of}
use Rattle.comp_worlds.specs.declared.lowerings.Lowering.{Lowering}
use Rattle.comp_worlds.specs.declared.lowerings.Lowering.TheVariants as lowerings
use Rattle.comp_worlds.specs.declared.world.ComponentWorld.{ComponentWorld}
use Rattle.comp_worlds.specs.declared.world.ValidatedModule.{ValidatedModule}
use Rattle.shim_plan.specs.declared.fault.ShimFault.{ShimFault}
use Rattle.shim_plan.specs.declared.fault.ShimFault.TheVariants as faults
use Rattle.shim_plan.specs.declared.calls.FunctionCall.{FunctionCall}
use Rattle.shim_plan.specs.Needed.{call_of, lowering_of_call, encoding_of_call, Returned, returned_of, encoding_of_return, returns_through}

-- the place of a core import: `module::field`
abbrev pub place_of : CoreImport → List ℕ
place_of i = i.module_name ++ codes "::" ++ i.field

abbrev pub unencoded_if : CoreImport → Option StringEncoding → List (List ℕ)
unencoded_if i None = place_of i ∷ []
unencoded_if i (Some encoding) = []

-- a call through a table needs an encoding
abbrev pub unencoded_lowering : ValidatedModule → CoreImport → FunctionCall → Option Lowering → List (List ℕ)
unencoded_lowering m i call (Some (lowerings.Indirect sig options)) = unencoded_if i (encoding_of_call m call)
unencoded_lowering m i call lowering = []

abbrev pub unencoded_call : ComponentWorld → ValidatedModule → CoreImport → Option FunctionCall → List (List ℕ)
unencoded_call w m i None = []
unencoded_call w m i (Some call) = unencoded_lowering m i call (lowering_of_call w call)

-- so does a return that needs a shim
abbrev pub unencoded_role : ComponentWorld → ValidatedModule → CoreImport → Option Returned → List (List ℕ)
unencoded_role w m i None = unencoded_call w m i (call_of i.role)
unencoded_role w m i (Some r) = if returns_through w r then unencoded_if i (encoding_of_return m r) else []

abbrev pub unencoded_import : ComponentWorld → ValidatedModule → CoreImport → List (List ℕ)
unencoded_import w m i = unencoded_role w m i (returned_of i.role)

abbrev pub unencoded_in : ComponentWorld → Option ValidatedModule → List (List ℕ)
unencoded_in w None = []
unencoded_in w (Some m) = flat_map (unencoded_import w m) (imports_of m)

-- the places of the imports of a module that need an encoding and have none, in order
abbrev pub unencoded : ComponentWorld → MainOrAdapter → List (List ℕ)
unencoded w which = unencoded_in w (found_module w which)

-- why a fault is right: the first of these places has no encoding
abbrev pub Explains : List (List ℕ) → ShimFault → Type 0
Explains places faults.Memory = Unit {0}
Explains places (faults.NoEncoding place) = slice_get places 0 ≡ Some place
