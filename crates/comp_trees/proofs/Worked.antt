-- Worked examples: trees of WIT types, their core values, and core signatures.
use Rattle.std.proofs.Common.{◌≡◌, ◌≢◌, ℕ, true, false, List, [], ◌∷◌, refl, Some, None}
use Rattle.std.specs.Prelude.{codes, replicate}
use Rattle.standard_kinds.specs.declared.kinds.Primitive.{Primitive as Prim}
use Rattle.standard_kinds.specs.declared.kinds.Primitive.TheVariants as prims
use Rattle.wit_data.specs.declared.types.Type.{«Type» as Ty}
use Rattle.wit_data.specs.declared.types.Type.TheVariants.{Primitive, Id}
use Rattle.wit_data.specs.declared.types.TypeDefKind.{TypeDefKind}
use Rattle.wit_data.specs.declared.types.TypeDefKind.TheVariants as kinds
use Rattle.wit_data.specs.declared.types.TypeOwner.TheVariants as owners
use Rattle.wit_data.specs.declared.types.TypeDef.{TypeDef}
use Rattle.wit_data.specs.declared.functions.Function.{Function}
use Rattle.wit_data.specs.declared.functions.FunctionKind.TheVariants as functions
use Rattle.wit_data.specs.declared.functions.AbiVariant.TheVariants as abis
use Rattle.wit_data.specs.declared.signatures.WasmType.TheVariants.{I32, I64}
use Rattle.wit_data.specs.Values.{values_from}
use Rattle.comp_trees.specs.Trees.{Tree, Absent, PrimitiveOf, RecordOf, TupleOf, VariantOf, OptionOf, OwnOf, Resource, DefinedAt, ResourceAt, Nil, Cons, FunctionTree}
use Rattle.comp_trees.specs.WitTrees.{wit_tree, wit_function_tree}
use Rattle.comp_trees.specs.Flattening.{flat_tree, tree_signature}

-- the cases a with one type, b with another, and c with none
abbrev three_cases : Prim → Prim → Tree
three_cases a b = VariantOf (codes "a" ∷ codes "b" ∷ codes "c" ∷ []) (Cons (PrimitiveOf a) (Cons (PrimitiveOf b) (Cons Absent Nil)))

f32_or_u64 : flat_tree (three_cases prims.F32 prims.U64) ≡ I32 ∷ I64 ∷ []
f32_or_u64 = refl

f32_or_u32 : flat_tree (three_cases prims.F32 prims.U32) ≡ I32 ∷ I32 ∷ []
f32_or_u32 = refl

-- 17 parameters, more than are passed as core parameters, and two numbers as the result
abbrev taking_17 : FunctionTree
taking_17 = record {
  is_async = false;
  params = replicate 17 (record { name = codes "p"; tree = PrimitiveOf prims.U32 });
  result = Some (TupleOf (Cons (PrimitiveOf prims.U32) (Cons (PrimitiveOf prims.U32) Nil)));
}

imported : tree_signature abis.GuestImport taking_17 ≡ record { params = I32 ∷ I32 ∷ []; results = []; indirect_params = true; retptr = true }
imported = refl

exported : tree_signature abis.GuestExport taking_17 ≡ record { params = I32 ∷ []; results = I32 ∷ []; indirect_params = true; retptr = true }
exported = refl

imported_async : tree_signature abis.GuestImportAsync taking_17 ≡ record { params = I32 ∷ I32 ∷ []; results = I32 ∷ []; indirect_params = true; retptr = true }
imported_async = refl

exported_async : tree_signature abis.GuestExportAsync taking_17 ≡ record { params = I32 ∷ []; results = I32 ∷ []; indirect_params = true; retptr = false }
exported_async = refl

exported_stackful : tree_signature abis.GuestExportAsyncStackful taking_17 ≡ record { params = I32 ∷ []; results = []; indirect_params = true; retptr = false }
exported_stackful = refl

abbrev unnamed : TypeDefKind → TypeDef
unnamed kind = record { name = None; kind = kind; owner = owners.«None» }

abbrev pub numbered : ℕ → Ty
numbered n = Id (record { index = n })

-- a resource, its owned handle, an option of that, a record, and another name for the record
abbrev pub some_types : List TypeDef
some_types =
    unnamed kinds.Resource
    ∷ unnamed (kinds.Own (record { index = 0 }))
    ∷ unnamed (kinds.«Option» (numbered 1))
    ∷ unnamed (kinds.Record (record { name = codes "n"; ty = Primitive prims.U8 } ∷ record { name = codes "h"; ty = numbered 2 } ∷ []))
    ∷ unnamed (kinds.Alias (numbered 3))
    ∷ []

-- that record, where the resource is this one
abbrev some_record : Resource → Tree
some_record resource = RecordOf (codes "n" ∷ codes "h" ∷ []) (Cons (PrimitiveOf prims.U8) (Cons (OptionOf (OwnOf (ResourceAt resource))) Nil))

by_another_name : wit_tree (λ id. DefinedAt 7) some_types (Some (numbered 4)) ≡ some_record (DefinedAt 7)
unfolding values_from
by_another_name = refl

-- two resources make two types
two_resources : some_record (DefinedAt 7) ≢ some_record (DefinedAt 8)
two_resources e = cc

-- a function of them
abbrev pub method : Function
method = record {
  name = codes "m";
  kind = functions.AsyncMethod (record { index = 0 });
  params = record { name = codes "r"; ty = numbered 4 } ∷ [];
  result = None;
}

method_tree : wit_function_tree (λ id. DefinedAt 7) some_types method ≡ record { is_async = true; params = record { name = codes "r"; tree = some_record (DefinedAt 7) } ∷ []; result = None }
unfolding values_from
method_tree = refl

method_signature : tree_signature abis.GuestImportAsync (wit_function_tree (λ id. DefinedAt 7) some_types method) ≡ record { params = I32 ∷ I32 ∷ I32 ∷ []; results = I32 ∷ []; indirect_params = false; retptr = false }
unfolding values_from
method_signature = refl
