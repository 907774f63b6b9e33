-- The core signature of a function is that of its tree.
use Rattle.std.proofs.Common.{◌≡◌, nat_lt, Bool, false, List, [], ◌∷◌, ◌++◌, length, map, refl, ap, ◌∙◌, Option, Some, None, is_some, option_map, if◌then◌else◌}
use Rattle.std.specs.List.{flat_map}
use Rattle.wit_data.specs.declared.ids.TypeId.{TypeId}
use Rattle.wit_data.specs.declared.types.Type.{«Type» as Ty}
use Rattle.wit_data.specs.declared.types.TypeDef.{TypeDef}
use Rattle.wit_data.specs.declared.functions.AbiVariant.{AbiVariant}
use Rattle.wit_data.specs.declared.functions.AbiVariant.TheVariants as abis
use Rattle.wit_data.specs.declared.functions.Param.{Param}
use Rattle.wit_data.specs.declared.functions.Function.{Function}
use Rattle.wit_data.specs.declared.signatures.WasmType.{WasmType}
use Rattle.wit_data.specs.declared.signatures.WasmType.TheVariants.{I32}
use Rattle.wit_data.specs.declared.signatures.WasmSignature.{WasmSignature}
use Rattle.wit_data.specs.Flat.{flat}
use Rattle.wit_data.specs.Signatures as wit
use Rattle.comp_trees.specs.Trees.{Resource, FunctionTree}
use Rattle.comp_trees.specs.WitTrees.{wit_tree, wit_function_tree}
use Rattle.comp_trees.specs.Flattening as trees
use Rattle.comp_trees.specs.Laws.{SignaturesOfTrees}
use Rattle.comp_trees.proofs.Flats.{flat_of_trees}

-- whether the result is in memory, by its core values and whether there is one
abbrev in_memory : AbiVariant → List WasmType → Bool → Bool
in_memory abis.GuestImport values has_result = nat_lt 1 (length values)
in_memory abis.GuestExport values has_result = nat_lt 1 (length values)
in_memory abis.GuestImportAsync values has_result = has_result
in_memory abis.GuestExportAsync values has_result = false
in_memory abis.GuestExportAsyncStackful values has_result = false

abbrev made_of : AbiVariant → List WasmType → List WasmType → Bool → WasmSignature
made_of abi params result has_result =
    record {
      params = (if nat_lt (wit.most_params abi) (length params) then I32 ∷ [] else params) ++ wit.result_pointer abi (in_memory abi result has_result);
      results = wit.core_results abi (in_memory abi result has_result) result;
      indirect_params = nat_lt (wit.most_params abi) (length params);
      retptr = in_memory abi result has_result;
    }

of_tree : (abi : AbiVariant) (f : FunctionTree) → trees.tree_signature abi f ≡ made_of abi (trees.flat_params f.params) (trees.flat_result f.result) (is_some f.result)
of_tree abis.GuestImport f = refl
of_tree abis.GuestExport f = refl
of_tree abis.GuestImportAsync f = refl
of_tree abis.GuestExportAsync f = refl
of_tree abis.GuestExportAsyncStackful f = refl

of_wit : (abi : AbiVariant) (types : List TypeDef) (f : Function) → made_of abi (wit.flat_params types f) (wit.flat_result types f) (is_some f.result) ≡ wit.signature abi types f
of_wit abis.GuestImport types f = refl
of_wit abis.GuestExport types f = refl
of_wit abis.GuestImportAsync types f = refl
of_wit abis.GuestExportAsync types f = refl
of_wit abis.GuestExportAsyncStackful types f = refl

same_params : (origin : TypeId → Resource) (types : List TypeDef) (ps : List Param) → trees.flat_params (map (λ p. record { name = p.name; tree = wit_tree origin types (Some p.ty) }) ps) ≡ flat_map (λ p. flat types (Some p.ty)) ps
same_params origin types [] = refl
same_params origin types (p ∷ ps) =
    ap (λ vs. vs ++ trees.flat_params (map (λ q. record { name = q.name; tree = wit_tree origin types (Some q.ty) }) ps)) (flat_of_trees origin types (Some p.ty))
    ∙ ap (λ vs. flat types (Some p.ty) ++ vs) (same_params origin types ps)

same_result : (origin : TypeId → Resource) (types : List TypeDef) (result : Option Ty) → trees.flat_result (option_map (λ t. wit_tree origin types (Some t)) result) ≡ flat types result
same_result origin types None = refl
same_result origin types (Some t) = flat_of_trees origin types (Some t)

same_presence : {X Y : Type 0} (g : X → Y) (x : Option X) → is_some (option_map g x) ≡ is_some x
same_presence g None = refl
same_presence g (Some x) = refl

pub signatures_of_trees : SignaturesOfTrees
signatures_of_trees origin types abi f =
    let tree = wit_function_tree origin types f in
    of_tree abi tree
    ∙ (ap (λ ps. made_of abi ps (trees.flat_result tree.result) (is_some tree.result)) (same_params origin types f.params)
    ∙ (ap (λ r. made_of abi (wit.flat_params types f) r (is_some tree.result)) (same_result origin types f.result)
    ∙ (ap (λ b. made_of abi (wit.flat_params types f) (wit.flat_result types f) b) (same_presence (λ t. wit_tree origin types (Some t)) f.result)
    ∙ of_wit abi types f)))
