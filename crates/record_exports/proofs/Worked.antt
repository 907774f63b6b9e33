-- What the exports of a small module must have, worked. The world exports the functions f and g and
-- the interface i, which has a and b; none has parameters or results.
use Rattle.std.proofs.Common.{◌≡◌, ℕ, List, [], ◌∷◌, None, Ok, Err, refl}
use Rattle.std.specs.Prelude.{codes}
use Rattle.core_sections.specs.declared.core_module.CoreModule.{CoreModule}
use Rattle.core_sections.specs.declared.items.Items.{Items}
use Rattle.core_sections.specs.declared.entries.EntityType.TheVariants as entities
use Rattle.core_sections.specs.declared.entries.ExportedItem.TheVariants as exported
use Rattle.core_sections.specs.declared.entries.ValType.TheVariants.{I32}
use Rattle.wit_data.specs.Values.{values_from}
use Rattle.wit_data.specs.declared.functions.AbiVariant.{AbiVariant}
use Rattle.wit_data.specs.declared.functions.AbiVariant.TheVariants.{GuestExport, GuestExportAsync, GuestExportAsyncStackful}
use Rattle.wit_data.specs.declared.functions.Function.{Function}
use Rattle.wit_data.specs.declared.functions.FunctionKind.TheVariants.{Freestanding}
use Rattle.wit_data.specs.declared.worlds.WorldItem.TheVariants as items
use Rattle.wit_data.specs.declared.worlds.WorldKey.{WorldKey}
use Rattle.wit_data.specs.declared.worlds.WorldKey.TheVariants as keys
use Rattle.comp_roles.specs.declared.exports.Export.{Export}
use Rattle.comp_roles.specs.declared.exports.Export.TheVariants as exports
use Rattle.world_values.specs.declared.gathered.ExportKey.TheVariants as required
use Rattle.record_values.specs.declared.names.InterfaceName.TheVariants as names
use Rattle.record_values.specs.declared.names.Owner.TheVariants as owners
use Rattle.record_values.specs.declared.roles.ExportRole.TheVariants as roles
use Rattle.record_values.specs.declared.roles.PlainExport.TheVariants as plain
use Rattle.record_resolve.specs.declared.resolving.Resolved.{Resolved}
use Rattle.record_exports.specs.Meaning.{unfit, export_of}
use Rattle.record_exports.specs.Exporting.{Roles, exports_of}
use Rattle.record_exports.specs.Taking.{all_taken}
use Rattle.record_exports.specs.Requiring.{missing, required_key, required_of}

abbrev function : List ℕ → Function
function name = record { name = name; kind = Freestanding; params = []; result = None }

abbrev i : WorldKey
i = keys.Interface (record { index = 0 })

abbrev f : WorldKey
f = keys.Name (codes "f")

abbrev g : WorldKey
g = keys.Name (codes "g")

abbrev small : Resolved
small = record {
  resolve = record {
    interfaces = record { id = None; types = []; functions = (codes "a", function (codes "a")) ∷ (codes "b", function (codes "b")) ∷ [] } ∷ [];
    types = [];
    worlds = record { imports = []; exports = (f, items.Function (function (codes "f"))) ∷ (g, items.Function (function (codes "g"))) ∷ (i, items.Interface (record { index = 0 })) ∷ [] } ∷ [];
  };
  imported = [];
  exported = (names.Id (codes "n:p/i"), record { index = 0 }) ∷ [];
  imported_keys = [];
  exported_keys = (record { index = 0 }, i) ∷ [];
}

abbrev within : List ℕ → AbiVariant → Export
within name abi = exports.InterfaceFunc i (record { index = 0 }) name abi

-- ---- post-returns and callbacks

-- a synchronous function has no callback
callback_of_sync : all_taken ((codes "f", exports.WorldFunc f (codes "f") GuestExport) ∷ (codes "c", exports.WorldFuncCallback f) ∷ []) ≡ Err (unfit (codes "c"))
callback_of_sync = refl

-- an asynchronous one has no post-return, at the root or in an interface
return_of_async : all_taken ((codes "p", exports.InterfaceFuncPostReturn i (codes "a")) ∷ (codes "a", within (codes "a") GuestExportAsync) ∷ []) ≡ Err (unfit (codes "p"))
return_of_async = refl

-- one that keeps its stack has neither
callback_of_stackful : all_taken ((codes "g", exports.WorldFunc g (codes "g") GuestExportAsyncStackful) ∷ (codes "c", exports.WorldFuncCallback g) ∷ []) ≡ Err (unfit (codes "c"))
callback_of_stackful = refl

-- each has its own, and one of a function that no export has is not examined
all_well : all_taken ((codes "f", exports.WorldFunc f (codes "f") GuestExport) ∷ (codes "p", exports.WorldFuncPostReturn f) ∷ (codes "a", within (codes "a") GuestExportAsync)
    ∷ (codes "c", exports.InterfaceFuncCallback i (codes "a")) ∷ (codes "d", exports.WorldFuncCallback g) ∷ []) ≡ Ok tt
all_well = refl

-- ---- required exports

-- an asynchronous function has no callback
lacks_callback : required_of small ((codes "g", exports.WorldFunc g (codes "g") GuestExportAsync) ∷ []) (required.Name (codes "g") ∷ []) ≡ Err (missing (codes "g"))
unfolding required_key
lacks_callback = refl

-- one that keeps its stack needs none
stackful : required_of small ((codes "g", exports.WorldFunc g (codes "g") GuestExportAsyncStackful) ∷ []) (required.Name (codes "g") ∷ []) ≡ Ok (g ∷ [])
unfolding required_key
stackful = refl

-- one function of an interface is missing
lacks_b : required_of small ((codes "a", within (codes "a") GuestExport) ∷ []) (required.Interface (codes "n:p/i") ∷ []) ≡ Err (missing (codes "b"))
unfolding required_key
lacks_b = refl

-- the world exports no such interface
lacks_j : required_of small [] (required.Interface (codes "n:p/j") ∷ []) ≡ Err (missing (codes "n:p/j"))
unfolding required_key
lacks_j = refl

both_there : required_of small ((codes "a", within (codes "a") GuestExport) ∷ (codes "b", within (codes "b") GuestExportAsync) ∷ (codes "c", exports.InterfaceFuncCallback i (codes "b")) ∷ (codes "f", exports.WorldFunc f (codes "f") GuestExport) ∷ [])
    (required.Interface (codes "n:p/i") ∷ required.Name (codes "f") ∷ []) ≡ Ok (i ∷ f ∷ [])
unfolding required_key
both_there = refl

-- ---- reading exports

-- a module that exports a function x without parameters and results, and y, which takes and returns a number
abbrev core : Items → CoreModule
core own = record {
  types = record { params = []; results = [] } ∷ record { params = I32 ∷ []; results = I32 ∷ [] } ∷ [];
  imports = [];
  items = own;
  exports = (codes "x", exported.Entity (entities.Function 0)) ∷ (codes "y", exported.Entity (entities.Function 1)) ∷ [];
}

abbrev is_f : AbiVariant → Roles
is_f abi = (codes "x", roles.Function owners.World (codes "f") abi) ∷ []

-- y has no role
reads_f : (own : Items) → exports_of small (is_f GuestExport) (core own) ≡ Ok ((codes "x", exports.WorldFunc f (codes "f") GuestExport) ∷ [])
unfolding exports_of export_of values_from
reads_f own = refl

-- an asynchronous function returns its status
not_async : (own : Items) → exports_of small (is_f GuestExportAsync) (core own) ≡ Err (unfit (codes "x"))
unfolding exports_of export_of values_from
not_async own = refl

-- the world exports no function h
no_h : (own : Items) → exports_of small ((codes "y", roles.Function owners.World (codes "h") GuestExport) ∷ []) (core own) ≡ Err (unfit (codes "y"))
unfolding exports_of export_of values_from
no_h own = refl

-- a function is no memory
no_memory : (own : Items) → exports_of small ((codes "y", roles.Plain plain.Memory) ∷ []) (core own) ≡ Err (unfit (codes "y"))
unfolding exports_of export_of values_from
no_memory own = refl
