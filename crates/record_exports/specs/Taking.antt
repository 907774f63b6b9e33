-- Which functions can have a post-return or a callback (Canonical ABI: `canon lift`: a synchronous function may have a
-- `post-return`, an asynchronous one a `callback`).
use Rattle.std.specs.Prelude.{Bool, true, false, ◌&&◌, if◌then◌else◌, [], ◌∷◌, Option, Some, None, Result, Ok, Err, ⊤}
use Rattle.std.specs.Option.{option_map_or}
use Rattle.wit_data.specs.declared.functions.AbiVariant.{AbiVariant}
use Rattle.wit_data.specs.declared.functions.AbiVariant.TheVariants as abis
use Rattle.comp_roles.specs.declared.exports.Export.{Export}
use Rattle.record_faults.specs.declared.fault.Failure.{Failure}
use Rattle.world_values.specs.CoreExports.{post_return_function, callback_function}
use Rattle.record_exports.specs.Functions.{Exports, Known, known}
use Rattle.record_exports.specs.Meaning.{unfit}

-- a function that no export has may have both, since nothing is checked of it here
abbrev pub takes_post_return : Option AbiVariant → Bool
takes_post_return None = true
takes_post_return (Some abis.GuestExport) = true
takes_post_return (Some abi) = false

abbrev pub takes_callback : Option AbiVariant → Bool
takes_callback None = true
takes_callback (Some abis.GuestExportAsync) = true
takes_callback (Some abi) = false

-- an export is not the post-return or the callback of a function that can't have one
abbrev pub is_taken : Known → Export → Bool
is_taken k role =
    option_map_or (λ f. takes_post_return (k.abi f)) (post_return_function role) true
    && option_map_or (λ f. takes_callback (k.abi f)) (callback_function role) true

-- none of these is; else the first that is one is refused
abbrev pub taken : Known → Exports → Result ⊤ Failure
taken k [] = Ok tt
taken k (e ∷ es) = if is_taken k e.1 then taken k es else Err (unfit e.0)

abbrev pub all_taken : Exports → Result ⊤ Failure
all_taken all = taken (known all) all
