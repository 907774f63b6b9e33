-- The options that a canonical function needs, by the types that it passes (Canonical ABI: lifting and
-- lowering; component model, binary format: `canonopt`). A set of options is a number of four bits: 1 for
-- a memory, 2 for a realloc, 4 for a string encoding, 8 for an asynchronous call.
use Rattle.std.specs.Prelude.{ℕ, List, [], ◌∷◌, map, Bool, true, false, ◌==◌, ◌||◌, Some}
use Rattle.std.specs.Int.RustNames.{bit_and, bit_or}
use Rattle.wit_data.specs.declared.types.TypeDef.{TypeDef}
use Rattle.wit_data.specs.declared.functions.Function.{Function}
use Rattle.wit_data.specs.declared.functions.Param.{Param}
use Rattle.wit_data.specs.declared.functions.AbiVariant.{AbiVariant}
use Rattle.wit_data.specs.declared.functions.AbiVariant.TheVariants as abis
use Rattle.wit_data.specs.Contents.{contents_bits}
use Rattle.wit_data.specs.Signatures.{is_indirect, is_returned_in_memory}
use Rattle.comp_options.specs.declared.required.Direction.{Direction}
use Rattle.comp_options.specs.declared.required.Direction.TheVariants as ways

-- ---- sets

abbrev pub memory_bit : ℕ
memory_bit = 1

abbrev pub realloc_bit : ℕ
realloc_bit = 2

abbrev pub encoding_bit : ℕ
encoding_bit = 4

abbrev pub async_bit : ℕ
async_bit = 8

-- whether the set has the bit
abbrev pub needs : ℕ → ℕ → Bool
needs set bit = bit_and set bit == bit

-- the set with these bits added, if the test holds
abbrev pub with_if : Bool → ℕ → ℕ → ℕ
with_if true bits set = bit_or set bits
with_if false bits set = set

-- the bits of the contents of values: a text, or something else that is passed in memory
abbrev pub text_inside : ℕ
text_inside = 1

abbrev pub list_inside : ℕ
list_inside = 2

-- what lifting needs: a memory for a list; for a text its encoding too
abbrev pub lifted : ℕ → ℕ → ℕ
lifted contents set =
    with_if (needs contents text_inside) encoding_bit
    (with_if (needs contents text_inside) memory_bit (with_if (needs contents list_inside) memory_bit set))

-- what lowering needs: what lifting needs, and a realloc for either
abbrev pub lowered : ℕ → ℕ → ℕ
lowered contents set = with_if (needs contents list_inside || needs contents text_inside) realloc_bit (lifted contents set)

-- what passing values of these contents one way needs
abbrev pub passed : Direction → ℕ → ℕ → ℕ
passed ways.Lift contents set = lifted contents set
passed ways.Lower contents set = lowered contents set

abbrev pub pass_all : Direction → List ℕ → ℕ → ℕ
pass_all way [] set = set
pass_all way (c ∷ cs) set = pass_all way cs (passed way c set)

-- ---- of a function

abbrev pub param_contents : List TypeDef → List Param → List ℕ
param_contents types params = map (λ p. contents_bits types (Some p.ty)) params

-- parameters or the result are passed through memory
abbrev pub passes_memory : AbiVariant → List TypeDef → Function → Bool
passes_memory abi types f = is_indirect abi types f || is_returned_in_memory abi types f

abbrev pub is_async_import : AbiVariant → Bool
is_async_import abis.GuestImportAsync = true
is_async_import _ = false

abbrev pub is_async_export : AbiVariant → Bool
is_async_export abis.GuestExportAsync = true
is_async_export abis.GuestExportAsyncStackful = true
is_async_export _ = false

-- the options of a call of an imported function: it lifts its parameters and lowers its result
abbrev pub import_set : AbiVariant → List TypeDef → Function → ℕ
import_set abi types f =
    with_if (is_async_import abi) async_bit (with_if (passes_memory abi types f) memory_bit (lowered (contents_bits types f.result) (pass_all ways.Lift (param_contents types f.params) 0)))

-- a set without the realloc: 13 has all other bits
abbrev pub without_realloc : ℕ → ℕ
without_realloc set = bit_and set 13

-- `task.return` has the options of a call of the function itself, but no realloc
abbrev pub task_return_set : List TypeDef → Function → ℕ
task_return_set types f = without_realloc (import_set abis.GuestImport types f)

-- a wait puts what happened into memory; the debug message of an error context is a text, which is
-- lifted where the context is made, and lowered where it is asked for
abbrev pub wait_set : ℕ
wait_set = memory_bit

abbrev pub error_new_set : ℕ
error_new_set = lifted text_inside 0

abbrev pub error_message_set : ℕ
error_message_set = lowered text_inside 0

-- a call of an exported function lowers its parameters, into memory where they are many, and lifts its result
abbrev pub export_set : AbiVariant → List TypeDef → Function → ℕ
export_set abi types f =
    with_if (is_async_export abi) (task_return_set types f)
    (with_if (is_async_export abi) async_bit (with_if (is_indirect abi types f) realloc_bit (with_if (passes_memory abi types f) memory_bit (lifted (contents_bits types f.result) (pass_all ways.Lower (param_contents types f.params) 0)))))
