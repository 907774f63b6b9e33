-- Worked examples: worlds whose main module imports functions of an interface, and exports a
-- destructor and a realloc; and one whose main module imports what an adapter exports.
use Rattle.std.proofs.Common.{◌≡◌, Bool, true, false, List, [], ◌∷◌, map, Some, None, ℕ, refl}
use Rattle.std.specs.Prelude.{codes}
use Rattle.std.specs.Fmt.{digits}
use Rattle.standard_kinds.specs.declared.kinds.StringEncoding.TheVariants as encodings
use Rattle.wit_data.specs.declared.functions.AbiVariant.TheVariants.{GuestImport}
use Rattle.wit_data.specs.declared.signatures.WasmSignature.{WasmSignature}
use Rattle.wit_data.specs.declared.signatures.WasmType.TheVariants.{I32, I64, F64}
use Rattle.wit_data.specs.declared.types.TypeDef.{TypeDef}
use Rattle.wit_data.specs.declared.types.TypeDefKind.TheVariants as shapes
use Rattle.wit_data.specs.declared.types.TypeOwner.TheVariants as owners
use Rattle.wit_data.specs.declared.worlds.WorldKey.{WorldKey}
use Rattle.wit_data.specs.declared.worlds.WorldKey.TheVariants as keys
use Rattle.core_types.specs.declared.types.FuncType.{FuncType}
use Rattle.core_types.specs.declared.types.RefType.{RefType}
use Rattle.core_types.specs.declared.types.ValType.TheVariants as core
use Rattle.comp_roles.specs.declared.exports.Export.{Export}
use Rattle.comp_roles.specs.declared.exports.Export.TheVariants as exports
use Rattle.comp_roles.specs.declared.imports.Import.{Import}
use Rattle.comp_roles.specs.declared.imports.Import.TheVariants as imports
use Rattle.comp_roles.specs.declared.imports.ImportInstance.TheVariants as instances
use Rattle.comp_roles.specs.declared.libraries.MainOrAdapter.{MainOrAdapter}
use Rattle.comp_roles.specs.declared.libraries.MainOrAdapter.TheVariants as users
use Rattle.comp_roles.specs.declared.metadata.FunctionKey.{FunctionKey}
use Rattle.comp_roles.specs.declared.payloads.PayloadFuncKind.{PayloadFuncKind}
use Rattle.comp_roles.specs.declared.payloads.PayloadFuncKind.TheVariants as ends
use Rattle.comp_roles.specs.declared.payloads.PayloadInfo.{PayloadInfo}
use Rattle.comp_roles.specs.declared.payloads.PayloadType.TheVariants as payloads
use Rattle.standard_kinds.specs.declared.kinds.StringEncoding.{StringEncoding}
use Rattle.comp_options.specs.declared.required.RequiredOptions.{RequiredOptions}
use Rattle.comp_worlds.specs.declared.lowerings.Lowering.{Lowering}
use Rattle.comp_worlds.specs.declared.lowerings.Lowering.TheVariants as lowerings
use Rattle.comp_worlds.specs.declared.lowerings.LoweringKey.{LoweringKey}
use Rattle.comp_worlds.specs.declared.world.ComponentWorld.{ComponentWorld}
use Rattle.comp_worlds.specs.declared.world.ValidatedModule.{ValidatedModule}
use Rattle.comp_worlds.specs.declared.world.WorldAdapter.{WorldAdapter}
use Rattle.shim_plan.specs.declared.kinds.ShimKind.TheVariants as kinds
use Rattle.shim_plan.specs.declared.needs.NeededShim.{NeededShim}
use Rattle.shim_plan.specs.declared.shims.Shim.{Shim}
use Rattle.shim_plan.specs.Encodings.{unencoded}
use Rattle.shim_plan.specs.Needed.{needed}
use Rattle.shim_plan.specs.Plans.{numbered, with_needed}

-- ---- the world

-- the one resource
abbrev resource : TypeDef
resource = record { name = Some (codes "res"); kind = shapes.Resource; owner = owners.None }

abbrev interface : WorldKey
interface = keys.Interface (record { index = 0 })

abbrev pair : WasmSignature
pair = record { params = I32 ∷ I32 ∷ []; results = []; indirect_params = false; retptr = false }

-- all options of a call that isn't asynchronous
abbrev all : RequiredOptions
all = record { 0 = 7 }

abbrev function : List ℕ → LoweringKey
function name = record { name = name; abi = GuestImport }

-- `f` is lowered through a table, and `g` directly
abbrev lowered : List (LoweringKey × Lowering)
lowered = (function (codes "f"), lowerings.Indirect pair all) ∷ (function (codes "g"), lowerings.Direct all) ∷ []

-- an import of the function of a name of the interface
abbrev import_of : List ℕ → Import
import_of name = imports.InterfaceFunc interface (record { index = 0 }) name GuestImport

abbrev encoded : List ℕ → FunctionKey × StringEncoding
encoded name = (record { key = interface; function = name }, encodings.UTF8)

-- a module that imports functions from one module, with these string encodings, and has these exports
abbrev module_with : List (List ℕ × Import) → List (FunctionKey × StringEncoding) → List (List ℕ × Export) → ValidatedModule
module_with fields known exported = record {
  bytes = [];
  imports = record { modules = (codes "a:b/i", instances.Names fields) ∷ [] };
  exports = record { exports = exported };
  imported = [];
  offered = [];
  metadata = record { import_encodings = known; export_encodings = [] };
}

abbrev world_with : ValidatedModule → List (List ℕ × WorldAdapter) → ComponentWorld
world_with main adapters = record {
  resolve = record { interfaces = []; types = resource ∷ []; worlds = [] };
  world = record { index = 0 };
  main = main;
  main_exports = [];
  adapters = adapters;
  import_map = (None, record { lowerings = (function (codes "f"), lowerings.Indirect pair all) ∷ []; interface = None }) ∷ (Some interface, record { lowerings = lowered; interface = Some (record { index = 0 }) }) ∷ [];
  live_type_imports = [];
  exports_used = [];
  can_use_context_slot_1 = false;
}

-- a destructor, a realloc, and a task hook
abbrev dtor : List ℕ × Export
dtor = (codes "d", exports.ResourceDtor (record { index = 0 }))

abbrev realloc : List ℕ × Export
realloc = (codes "r", exports.GeneralPurposeRealloc)

abbrev hook : List ℕ × Export
hook = (codes "h", exports.WasmTaskHook)

-- a world of main alone, which imports these functions
abbrev main_with : List (List ℕ) → List (List ℕ × Export) → ComponentWorld
main_with names exported = world_with (module_with (map (λ n. (n, import_of n)) names) (map encoded names) exported) []

-- ---- what is needed of it

abbrev names_of : Shim → List ℕ × List ℕ
names_of s = (s.name, s.debug_name)

abbrev lowering_of_f : List ℕ → MainOrAdapter → NeededShim
lowering_of_f debug_name which = record {
  options = all;
  debug_name = debug_name;
  kind = kinds.IndirectLowering (Some interface) (function (codes "f")) which encodings.UTF8;
  sig = pair;
}

abbrev realloc_of : List ℕ → MainOrAdapter → NeededShim
realloc_of debug_name which = record {
  options = record { 0 = 0 };
  debug_name = debug_name;
  kind = kinds.Realloc which (codes "r");
  sig = record { params = I32 ∷ I32 ∷ I32 ∷ I32 ∷ []; results = I32 ∷ []; indirect_params = false; retptr = false };
}

abbrev dtor_of_main : NeededShim
dtor_of_main = record {
  options = record { 0 = 0 };
  debug_name = codes "dtor-res";
  kind = kinds.ResourceDtor users.Main (codes "d");
  sig = record { params = I32 ∷ []; results = []; indirect_params = false; retptr = false };
}

-- with a task hook: the lowering, its realloc, and then the destructor, though that is exported first
in_order : needed (main_with (codes "f" ∷ []) (dtor ∷ realloc ∷ hook ∷ [])) users.Main
    ≡ lowering_of_f (codes "indirect-a:b/i-f") users.Main ∷ realloc_of (codes "realloc-main-r") users.Main ∷ dtor_of_main ∷ []
in_order = refl

-- without one, the realloc of the lowering is taken as it is exported
without_hook : needed (main_with (codes "f" ∷ []) (dtor ∷ realloc ∷ [])) users.Main ≡ lowering_of_f (codes "indirect-a:b/i-f") users.Main ∷ dtor_of_main ∷ []
without_hook = refl

-- a direct lowering needs its realloc's shim alone, with a task hook or without
direct : needed (main_with (codes "g" ∷ []) (realloc ∷ [])) users.Main ≡ realloc_of (codes "realloc-main-r") users.Main ∷ []
direct = refl

-- so do both: the realloc is needed twice, and is a shim once, in the place after the first lowering
both : map names_of (with_needed [] (needed (main_with (codes "f" ∷ codes "g" ∷ []) (realloc ∷ hook ∷ [])) users.Main))
    ≡ (codes "0", codes "indirect-a:b/i-f") ∷ (codes "1", codes "realloc-main-r") ∷ []
unfolding digits
both = refl

-- a function of the same name at the root is another
at_root : needed (world_with (module_with ((codes "f", imports.WorldFunc (keys.Name (codes "f")) (codes "f") GuestImport) ∷ []) ((record { key = keys.Name (codes "f"); function = codes "f" }, encodings.UTF16) ∷ []) []) []) users.Main
    ≡ record { options = all; debug_name = codes "indirect-a:b/i-f"; kind = kinds.IndirectLowering None (function (codes "f")) users.Main encodings.UTF16; sig = pair } ∷ []
at_root = refl

-- ---- two imports of one function

abbrev twice : ComponentWorld
twice = world_with (module_with ((codes "f", import_of (codes "f")) ∷ (codes "f2", import_of (codes "f")) ∷ []) (encoded (codes "f") ∷ []) []) []

-- both are needed ..
needed_twice : needed twice users.Main ≡ lowering_of_f (codes "indirect-a:b/i-f") users.Main ∷ lowering_of_f (codes "indirect-a:b/i-f2") users.Main ∷ []
needed_twice = refl

-- .. and they are one shim, which is called as the first
one_shim : map names_of (with_needed [] (needed twice users.Main)) ≡ (codes "0", codes "indirect-a:b/i-f") ∷ []
unfolding digits
one_shim = refl

-- ---- adapters

abbrev adapter : List (List ℕ × Export) → List ℕ × WorldAdapter
adapter exported = (
  codes "ad",
  record {
    info = module_with ((codes "g", import_of (codes "g")) ∷ []) (encoded (codes "g") ∷ []) exported;
    required_exports = [];
    library_info = Some (record { arguments = [] });
  },
)

-- a library has a realloc of its own, or main's
own_realloc : needed (world_with (module_with [] [] (realloc ∷ [])) (adapter (realloc ∷ []) ∷ [])) (users.Adapter (codes "ad")) ≡ realloc_of (codes "realloc-ad-r") (users.Adapter (codes "ad")) ∷ []
own_realloc = refl

realloc_of_main : needed (world_with (module_with [] [] (realloc ∷ [])) (adapter [] ∷ [])) (users.Adapter (codes "ad")) ≡ realloc_of (codes "realloc-main-r") users.Main ∷ []
realloc_of_main = refl

-- ---- functions that an adapter exports

-- main imports this one, of its type
abbrev adapted : FuncType → ComponentWorld
adapted type = world_with (module_with ((codes "put", imports.AdapterExport (codes "ad") (codes "write") type) ∷ []) [] []) []

-- one of numbers needs a shim
of_numbers : needed (adapted (record { params = core.I32 ∷ core.F64 ∷ []; results = core.I64 ∷ [] })) users.Main
    ≡ record {
      options = record { 0 = 1 };
      debug_name = codes "adapt-a:b/i-put";
      kind = kinds.Adapter (codes "ad") (codes "write");
      sig = record { params = I32 ∷ F64 ∷ []; results = I64 ∷ []; indirect_params = false; retptr = false };
    } ∷ []
of_numbers = refl

-- and no encoding
needs_no_encoding : unencoded (adapted (record { params = []; results = [] })) users.Main ≡ []
needs_no_encoding = refl

-- one that takes a reference needs none
of_reference : (ref : RefType) → needed (adapted (record { params = core.I32 ∷ core.Ref ref ∷ []; results = [] })) users.Main ≡ []
of_reference ref = refl

-- ---- streams and futures

abbrev a_stream : PayloadInfo
a_stream = record { name = codes "s"; ty = payloads.UnitStream; key = None; interface = None; imported = true }

abbrev accessing : Import → ComponentWorld
accessing role = world_with (module_with ((codes "x", role) ∷ []) [] []) []

abbrev shim_of_stream : PayloadFuncKind → Bool → ℕ → NeededShim
shim_of_stream kind is_async set = record {
  options = record { 0 = set };
  debug_name = codes "a:b/i-s";
  kind = kinds.PayloadFunc users.Main a_stream kind is_async;
  sig = record { params = I32 ∷ I32 ∷ I32 ∷ []; results = I32 ∷ []; indirect_params = false; retptr = false };
}

-- a read of a stream needs a memory
read_is_planned : needed (accessing (imports.StreamRead a_stream false)) users.Main ≡ shim_of_stream ends.StreamRead false 1 ∷ []
read_is_planned = refl

-- whether it is asynchronous is part of its options and of its kind
asynchronous_write_is_planned : needed (accessing (imports.StreamWrite a_stream true)) users.Main ≡ shim_of_stream ends.StreamWrite true 9 ∷ []
asynchronous_write_is_planned = refl

-- what has no options has no shim
new_stream_is_not_planned : needed (accessing (imports.StreamNew a_stream)) users.Main ≡ []
new_stream_is_not_planned = refl

-- ---- encodings

-- only the import that is called through a table needs one
no_encoding : unencoded (world_with (module_with ((codes "g", import_of (codes "g")) ∷ (codes "x", import_of (codes "f")) ∷ []) [] []) []) users.Main ≡ codes "a:b/i::x" ∷ []
no_encoding = refl

-- ---- places

-- a place is written in decimal digits, without zeros before them
ten : map (λ s. s.name) (numbered 9 (dtor_of_main ∷ dtor_of_main ∷ [])) ≡ codes "9" ∷ codes "10" ∷ []
unfolding digits
ten = refl
