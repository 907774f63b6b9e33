-- The forms in which core code implements exported functions (Canonical ABI: `canon lift`, with its options `async` and
-- `callback`): synchronously, asynchronously with a callback, and asynchronously without one, on a stack of its own.
use Rattle.std.specs.Prelude.{ℕ, List, Option, Some, IsSome}
use Rattle.wit_data.specs.declared.functions.AbiVariant.{AbiVariant}
use Rattle.wit_data.specs.declared.functions.AbiVariant.TheVariants as abis
use Rattle.wit_data.specs.declared.worlds.WorldKey.{WorldKey}
use Rattle.comp_roles.specs.Functions.{of_function}
use Rattle.comp_roles.specs.Lookups.{Exports}
use Rattle.world_values.specs.CoreExports.{lifted_functions, callbacks}

abbrev pub IsExportForm : AbiVariant → Type 0
IsExportForm abis.GuestExport = Unit {0}
IsExportForm abis.GuestExportAsync = Unit {0}
IsExportForm abis.GuestExportAsyncStackful = Unit {0}
IsExportForm abi = ⊥

-- the form of the function of this name at a key: that of the first export that implements it
abbrev pub form_in : Exports → WorldKey → List ℕ → Option AbiVariant
form_in all key name = of_function key name (lifted_functions all)

-- the export that is its callback
abbrev pub callback_in : Exports → WorldKey → List ℕ → Option (List ℕ)
callback_in all key name = of_function key name (callbacks all)

-- a function of this form has the callback that it asks for
abbrev pub HasItsCallback : Option AbiVariant → Option (List ℕ) → Type 0
HasItsCallback (Some abis.GuestExportAsync) callback = IsSome callback
HasItsCallback form callback = Unit {0}

abbrev pub IsFormed : Exports → WorldKey → List ℕ → Type 0
IsFormed all key name = HasItsCallback (form_in all key name) (callback_in all key name)
