-- The core values of a type, and the core signature of a function, by its tree (Canonical ABI: `flatten_type`,
-- `flatten_functype`).
use Rattle.std.specs.Prelude.{nat_lt, Bool, false, List, [], ◌∷◌, ◌++◌, length, Option, Some, None, is_some, if◌then◌else◌}
use Rattle.wit_data.specs.declared.functions.AbiVariant.{AbiVariant}
use Rattle.wit_data.specs.declared.functions.AbiVariant.TheVariants as abis
use Rattle.wit_data.specs.declared.signatures.WasmType.{WasmType}
use Rattle.wit_data.specs.declared.signatures.WasmType.TheVariants.{I32}
use Rattle.wit_data.specs.declared.signatures.WasmSignature.{WasmSignature}
use Rattle.wit_data.specs.Flat.{flat_primitive, join_lists}
use Rattle.wit_data.specs.Signatures.{most_params, result_pointer, core_results}
use Rattle.comp_trees.specs.Trees.{Tree, Trees, Absent, PrimitiveOf, RecordOf, TupleOf, VariantOf, EnumOf, FlagsOf, ListOf, OptionOf, ResultOf, OwnOf, BorrowOf, StreamOf, FutureOf, ResourceAt, Unknown, Nil, Cons, ParamTree, FunctionTree}

-- Members come one after the other. A variant, an option and a result have a number for the case,
-- and then values that hold those of any case. Handles, streams and futures are numbers, whatever
-- they refer to; a resource, which is no type of values, is given the number of its handles.
abbrev mutual
  pub flat_tree : Tree → List WasmType
  flat_tree Absent = []
  flat_tree (PrimitiveOf p) = flat_primitive p
  flat_tree (RecordOf names ts) = flat_members ts
  flat_tree (TupleOf ts) = flat_members ts
  flat_tree (VariantOf names ts) = I32 ∷ flat_cases ts
  flat_tree (EnumOf names) = I32 ∷ []
  flat_tree (FlagsOf names) = I32 ∷ []
  flat_tree (ListOf t) = I32 ∷ I32 ∷ []
  flat_tree (OptionOf t) = I32 ∷ flat_tree t
  flat_tree (ResultOf ok err) = I32 ∷ join_lists (flat_tree ok) (flat_tree err)
  flat_tree (OwnOf t) = I32 ∷ []
  flat_tree (BorrowOf t) = I32 ∷ []
  flat_tree (StreamOf t) = I32 ∷ []
  flat_tree (FutureOf t) = I32 ∷ []
  flat_tree (ResourceAt resource) = I32 ∷ []
  flat_tree Unknown = []

  -- one after the other
  pub flat_members : Trees → List WasmType
  flat_members Nil = []
  flat_members (Cons t ts) = flat_tree t ++ flat_members ts

  -- joined index by index
  pub flat_cases : Trees → List WasmType
  flat_cases Nil = []
  flat_cases (Cons t ts) = join_lists (flat_tree t) (flat_cases ts)

abbrev pub flat_params : List ParamTree → List WasmType
flat_params [] = []
flat_params (p ∷ ps) = flat_tree p.tree ++ flat_params ps

abbrev pub flat_result : Option Tree → List WasmType
flat_result None = []
flat_result (Some t) = flat_tree t

-- whether the parameters are passed in memory, by one pointer
abbrev pub is_indirect : AbiVariant → FunctionTree → Bool
is_indirect abi f = nat_lt (most_params abi) (length (flat_params f.params))

-- whether the result is passed in memory: of a synchronous call, more than one core value; of an asynchronous
-- import, any result; an asynchronous export passes it to `task.return`
abbrev pub is_returned_in_memory : AbiVariant → FunctionTree → Bool
is_returned_in_memory abis.GuestImport f = nat_lt 1 (length (flat_result f.result))
is_returned_in_memory abis.GuestExport f = nat_lt 1 (length (flat_result f.result))
is_returned_in_memory abis.GuestImportAsync f = is_some f.result
is_returned_in_memory abis.GuestExportAsync f = false
is_returned_in_memory abis.GuestExportAsyncStackful f = false

abbrev pub tree_signature : AbiVariant → FunctionTree → WasmSignature
tree_signature abi f =
    record {
      params = (if is_indirect abi f then I32 ∷ [] else flat_params f.params) ++ result_pointer abi (is_returned_in_memory abi f);
      results = core_results abi (is_returned_in_memory abi f) (flat_result f.result);
      indirect_params = is_indirect abi f;
      retptr = is_returned_in_memory abi f;
    }
