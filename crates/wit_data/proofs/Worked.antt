-- Worked examples of core values and core signatures.
use Rattle.std.proofs.Common.{◌≡◌, true, false, List, [], ◌∷◌, refl, Some, None}
use Rattle.std.specs.Prelude.{codes, replicate}
use Rattle.standard_kinds.specs.declared.kinds.Primitive.{Primitive as Prim}
use Rattle.standard_kinds.specs.declared.kinds.Primitive.TheVariants as prims
use Rattle.wit_data.specs.declared.types.Type.{«Type» as Ty}
use Rattle.wit_data.specs.declared.types.Type.TheVariants.{Primitive, Id}
use Rattle.wit_data.specs.declared.types.TypeDefKind.{TypeDefKind}
use Rattle.wit_data.specs.declared.types.TypeDefKind.TheVariants as kinds
use Rattle.wit_data.specs.declared.types.TypeOwner.TheVariants as owners
use Rattle.wit_data.specs.declared.types.TypeDef.{TypeDef}
use Rattle.wit_data.specs.declared.functions.Function.{Function}
use Rattle.wit_data.specs.declared.functions.FunctionKind.TheVariants as function_kinds
use Rattle.wit_data.specs.declared.functions.AbiVariant.TheVariants as abis
use Rattle.wit_data.specs.declared.signatures.WasmType.TheVariants.{I32, I64}
use Rattle.wit_data.specs.Values.{values_from}
use Rattle.wit_data.specs.Flat.{flat}
use Rattle.wit_data.specs.Signatures.{signature}

abbrev unnamed : TypeDefKind → TypeDef
unnamed kind = record { name = None; kind = kind; owner = owners.«None» }

abbrev first : Ty
first = Id (record { index = 0 })

-- the cases a with one type, b with another, and c with none
abbrev three_cases : Prim → Prim → List TypeDef
three_cases a b =
    unnamed (kinds.Variant (record { name = codes "a"; ty = Some (Primitive a) } ∷ record { name = codes "b"; ty = Some (Primitive b) } ∷ record { name = codes "c"; ty = None } ∷ [])) ∷ []

-- a(f32), b(u64), c
f32_or_u64 : flat (three_cases prims.F32 prims.U64) (Some first) ≡ I32 ∷ I64 ∷ []
unfolding values_from
f32_or_u64 = refl

-- a(f32), b(u32), c
f32_or_u32 : flat (three_cases prims.F32 prims.U32) (Some first) ≡ I32 ∷ I32 ∷ []
unfolding values_from
f32_or_u32 = refl

-- a list in an option, and that option by another name
nested : flat (unnamed (kinds.«List» (Primitive prims.U8)) ∷ unnamed (kinds.«Option» first) ∷ unnamed (kinds.Alias (Id (record { index = 1 }))) ∷ []) (Some (Id (record { index = 2 }))) ≡ I32 ∷ I32 ∷ I32 ∷ []
unfolding values_from
nested = refl

-- a tuple of two u32
abbrev pair : List TypeDef
pair = unnamed (kinds.Tuple (Primitive prims.U32 ∷ Primitive prims.U32 ∷ [])) ∷ []

-- 17 parameters, more than are passed as core parameters, and that tuple as the result
abbrev taking_17 : Function
taking_17 = record {
  name = codes "f";
  kind = function_kinds.Freestanding;
  params = replicate 17 (record { name = codes "p"; ty = Primitive prims.U32 });
  result = Some first;
}

imported : signature abis.GuestImport pair taking_17 ≡ record { params = I32 ∷ I32 ∷ []; results = []; indirect_params = true; retptr = true }
unfolding values_from
imported = refl

exported : signature abis.GuestExport pair taking_17 ≡ record { params = I32 ∷ []; results = I32 ∷ []; indirect_params = true; retptr = true }
unfolding values_from
exported = refl

imported_async : signature abis.GuestImportAsync pair taking_17 ≡ record { params = I32 ∷ I32 ∷ []; results = I32 ∷ []; indirect_params = true; retptr = true }
unfolding values_from
imported_async = refl

exported_async : signature abis.GuestExportAsync pair taking_17 ≡ record { params = I32 ∷ []; results = I32 ∷ []; indirect_params = true; retptr = false }
unfolding values_from
exported_async = refl

exported_stackful : signature abis.GuestExportAsyncStackful pair taking_17 ≡ record { params = I32 ∷ []; results = []; indirect_params = true; retptr = false }
unfolding values_from
exported_stackful = refl
