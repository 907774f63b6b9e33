-- How imported functions are lowered (Canonical ABI: `canon lower`), by the function's name and the form in
-- which it is called.
use Rattle.std.specs.Prelude.{ℕ, nat_eq, Bool}
use Rattle.std.specs.Ordering.{on, eq_of_both}
use Rattle.std.specs.Str.{bytes_eq}
use Rattle.wit_data.specs.declared.functions.AbiVariant.{AbiVariant}
use Rattle.wit_data.specs.declared.functions.AbiVariant.TheVariants as abis
use Rattle.comp_worlds.specs.declared.lowerings.LoweringKey.{LoweringKey}

-- the forms in which functions are called, by number
abbrev pub abi_number : AbiVariant → ℕ
abi_number abis.GuestImport = 0
abi_number abis.GuestExport = 1
abi_number abis.GuestImportAsync = 2
abi_number abis.GuestExportAsync = 3
abi_number abis.GuestExportAsyncStackful = 4

-- the forms in which core modules call functions that the world imports
abbrev pub IsImportForm : AbiVariant → Type 0
IsImportForm abis.GuestImport = Unit {0}
IsImportForm abis.GuestImportAsync = Unit {0}
IsImportForm abi = ⊥

-- lowerings of the same name and form are the same
abbrev pub is_same_lowering : LoweringKey → LoweringKey → Bool
is_same_lowering = eq_of_both (on (λ k. k.name) bytes_eq) (on (λ k. abi_number k.abi) nat_eq)
