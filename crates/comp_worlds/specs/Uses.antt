-- What the core imports of all modules of a world use of what the world imports (component model: a component
-- imports what its core modules call).
use Rattle.std.specs.Prelude.{◌≡◌, ℕ, nat_eq, ◌==◌, Bool, List, [], ◌∷◌, ◌++◌, is_some}
use Rattle.std.specs.List.{flat_map}
use Rattle.std.specs.Map.{lookup}
use Rattle.std.specs.Ordering.{on, eq_of_both}
use Rattle.std.specs.Str.{bytes_eq}
use Rattle.wit_data.specs.Keys.{is_same_key}
use Rattle.wit_data.specs.declared.functions.AbiVariant.{AbiVariant}
use Rattle.wit_data.specs.declared.worlds.WorldKey.{WorldKey}
use Rattle.comp_worlds.specs.Lowerings.{abi_number}
use Rattle.comp_roles.specs.CoreImports.{CoreImport, imports_from}
use Rattle.comp_roles.specs.declared.imports.Import.{Import}
use Rattle.comp_roles.specs.declared.imports.Import.TheVariants as imports
use Rattle.comp_worlds.specs.declared.calls.Call.{Call}
use Rattle.comp_worlds.specs.declared.calls.Uses.{Uses}
use Rattle.comp_worlds.specs.declared.world.ValidatedModule.{ValidatedModule}
use Rattle.comp_worlds.specs.declared.world.WorldAdapter.{WorldAdapter}

-- the imports of a module
abbrev pub imports_of : ValidatedModule → List CoreImport
imports_of m = flat_map imports_from m.imports.modules

-- the imports of all modules: of main, then of the adapters in order
abbrev pub all_imports : ValidatedModule → List (List ℕ × WorldAdapter) → List CoreImport
all_imports main adapters = imports_of main ++ flat_map (λ a. imports_of a.1.info) adapters

-- ---- functions

-- calls of the same function in the same form are the same
abbrev pub is_same_call : Call → Call → Bool
is_same_call = eq_of_both (on (λ c. c.key) is_same_key) (eq_of_both (on (λ c. c.lowering.name) bytes_eq) (on (λ c. abi_number c.lowering.abi) nat_eq))

abbrev pub call_at : WorldKey → List ℕ → AbiVariant → Call
call_at key name abi = record { key = key; lowering = record { name = name; abi = abi } }

-- the call that is the role of an import, if it is one
abbrev pub calls_in : Import → List (Call × Unit {0})
calls_in (imports.WorldFunc key name abi) = (call_at key name abi, tt) ∷ []
calls_in (imports.InterfaceFunc key interface name abi) = (call_at key name abi, tt) ∷ []
calls_in role = []

-- the role of some import is this call
abbrev pub is_called : List CoreImport → Call → Bool
is_called imports c = is_some (lookup (is_same_call c) (flat_map (λ i. calls_in i.role) imports))

-- ---- resources

-- the resource that an import drops, by its number, if it drops one
abbrev pub drops_in : Import → List (ℕ × Unit {0})
drops_in (imports.ImportedResourceDrop key interface id) = (id.index, tt) ∷ []
drops_in role = []

-- some import drops the resource of this number
abbrev pub is_dropped : List CoreImport → ℕ → Bool
is_dropped imports n = is_some (lookup (λ m. n == m) (flat_map (λ i. drops_in i.role) imports))

-- ---- both

-- which calls are roles of core imports, which resources they drop, and whether main imports its memory
pub record Used : Type 0 where
  pub called : Call → Bool
  pub dropped : ℕ → Bool
  pub shares : Bool

abbrev pub used_by : List CoreImport → Bool → Used
used_by imports shares = record { called = is_called imports; dropped = is_dropped imports; shares = shares }

-- the same, read from the tables
abbrev pub used_in : Uses → Used
used_in u = record { called = λ c. is_some (lookup (is_same_call c) u.calls); dropped = λ n. is_some (lookup (λ m. n == m) u.drops); shares = u.shares_memory }

pub record IsUsed (a b : Used) : Type 0 where
  pub called : (c : Call) → a.called c ≡ b.called c
  pub dropped : (n : ℕ) → a.dropped n ≡ b.dropped n
  pub shares : a.shares ≡ b.shares
