-- What is known of functions from core exports: how each is called, and whether it has a callback
-- (Canonical ABI: `canon lift`).
use Rattle.std.specs.Prelude.{◌≡◌, ℕ, Bool, List, Option, is_some}
use Rattle.std.specs.Map.{lookup}
use Rattle.wit_data.specs.declared.functions.AbiVariant.{AbiVariant}
use Rattle.comp_roles.specs.Functions.{is_same_function}
use Rattle.comp_roles.specs.declared.exports.Export.{Export}
use Rattle.comp_roles.specs.declared.metadata.FunctionKey.{FunctionKey}
use Rattle.world_values.specs.CoreExports.{lifted_functions, callbacks}
use Rattle.record_exports.specs.declared.functions.Functions.{Functions}

-- core exports by name
abbrev pub Exports : Type 0
Exports = List (List ℕ × Export)

-- how a function is called, according to its first export
abbrev pub abi_at : Exports → FunctionKey → Option AbiVariant
abi_at all k = lookup (is_same_function k) (lifted_functions all)

-- some export is its callback
abbrev pub has_callback : Exports → FunctionKey → Bool
has_callback all k = is_some (lookup (is_same_function k) (callbacks all))

-- what is known of functions: how each is called, and whether it has a callback
pub record Known : Type 0 where
  pub abi : FunctionKey → Option AbiVariant
  pub called_back : FunctionKey → Bool

-- what is known of functions from a module's exports
abbrev pub known : Exports → Known
known all = record { abi = abi_at all; called_back = has_callback all }

-- what is known of functions from tables
abbrev pub known_by : Functions → Known
known_by f = record { abi = λ k. lookup (is_same_function k) f.abis; called_back = λ k. is_some (lookup (is_same_function k) f.callbacks) }

-- tables from which the same is known of every function as from these exports
pub record IsOf (f : Functions) (all : Exports) : Type 0 where
  pub abi : (k : FunctionKey) → lookup (is_same_function k) f.abis ≡ abi_at all k
  pub called_back : (k : FunctionKey) → is_some (lookup (is_same_function k) f.callbacks) ≡ has_callback all k
