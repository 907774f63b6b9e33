-- What is needed of an import of a function that an adapter exports: its shim, with the function's core type.
use Rattle.std.proofs.Common.{◌≡◌, ℕ, Bool, true, false, true≢false, ◌&&◌, List, [], ◌∷◌, map, refl, sym, ap, ap₂, if◌then◌else◌, Some, None}
use Rattle.std.specs.List.{list_all}
use Rattle.core_types.specs.declared.types.FuncType.{FuncType}
use Rattle.core_types.specs.declared.types.ValType.{ValType}
use Rattle.core_types.specs.declared.types.ValType.TheVariants as core
use Rattle.wit_data.specs.declared.signatures.WasmSignature.{WasmSignature}
use Rattle.comp_roles.specs.CoreImports.{CoreImport}
use Rattle.comp_roles.specs.CoreTypes.{value_type, core_type}
use Rattle.comp_roles.specs.Matching.{is_number, has_numbers}
use Rattle.shim_plan.specs.Adapted.{number_type, adapted_shim, adapted_needs, adapted_with}
use Rattle.shim_plan.specs.declared.needs.NeededShim.{NeededShim}

-- the signature of a function of numbers
abbrev number_sig : FuncType → WasmSignature
number_sig type = record { params = map number_type type.params; results = map number_type type.results; indirect_params = false; retptr = false }

abbrev pub adapter_shim : CoreImport → List ℕ → List ℕ → FuncType → NeededShim
adapter_shim i adapter function type = adapted_shim i (record { adapter = adapter; func = function; type = type }) (number_sig type)

pub adapter_needed : (i : CoreImport) (adapter function : List ℕ) (type : FuncType) → has_numbers type ≡ true → adapted_needs i (record { adapter = adapter; func = function; type = type }) ≡ adapter_shim i adapter function type ∷ []
adapter_needed i adapter function type numbers =
    ap (λ b. adapted_with i (record { adapter = adapter; func = function; type = type }) (if b then Some (number_sig type) else None)) numbers

both : (a b : Bool) → (a && b) ≡ true → (a ≡ true) × (b ≡ true)
both true b e = (refl, e)
both false b e = absurd (true≢false (sym e))

number_back : (t : ValType) → is_number t ≡ true → value_type (number_type t) ≡ t
number_back core.I32 e = refl
number_back core.I64 e = refl
number_back core.F32 e = refl
number_back core.F64 e = refl
number_back (core.Ref ref) e = absurd (true≢false (sym e))

each_back : (ts : List ValType) → list_all is_number ts ≡ true → map value_type (map number_type ts) ≡ ts
each_back [] e = refl
each_back (t ∷ ts) e =
    let b = both (is_number t) (list_all is_number ts) e in
    ap₂ (λ x xs. x ∷ xs) (number_back t b.0) (each_back ts b.1)

-- the core type of that signature is the function's
pub numbers_back : (type : FuncType) → has_numbers type ≡ true → core_type (number_sig type) ≡ type
numbers_back type numbers =
    let build : List ValType → List ValType → FuncType = λ ps rs. record { params = ps; results = rs } in
    let b = both (list_all is_number type.params) (list_all is_number type.results) numbers in
    ap₂ build (each_back type.params b.0) (each_back type.results b.1)
