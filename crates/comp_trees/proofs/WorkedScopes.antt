-- Worked examples: types of a component, and those of WIT that they are made for.
use Rattle.std.proofs.Common.{◌≡◌, ℕ, ◌+◌, true, List, [], ◌∷◌, get_or, refl, Some, None}
use Rattle.std.specs.Prelude.{codes}
use Rattle.standard_kinds.specs.declared.kinds.Primitive.TheVariants as prims
use Rattle.wit_data.specs.Values.{values_from}
use Rattle.comp_bytes.specs.declared.types.ComponentValType.TheVariants as values
use Rattle.comp_bytes.specs.declared.types.DefinedType.TheVariants as defined
use Rattle.comp_bytes.specs.declared.types.TypeDef.{TypeDef}
use Rattle.comp_bytes.specs.declared.types.TypeDef.TheVariants as types
use Rattle.comp_trees.specs.Trees.{Resource, DefinedAt, OptionOf, Unknown}
use Rattle.comp_trees.specs.WitTrees.{wit_tree, wit_function_tree}
use Rattle.comp_trees.specs.DefinedTrees.{OfFunctions, OfOthers, tree_at, defined_tree}
use Rattle.comp_trees.specs.DefinedScopes.{type_trees}
use Rattle.comp_trees.proofs.Worked.{some_types, numbered, method}

-- a type of other functions, a resource, its owned handle, an option of that, a record, and a function of it
abbrev definitions : List TypeDef
definitions =
    types.Func (record { async_ = true; params = []; result = None })
    ∷ types.Resource None
    ∷ types.Defined (defined.Own 1)
    ∷ types.Defined (defined.Option (values.Defined 2))
    ∷ types.Defined (defined.Record (record { name = codes "n"; ty = values.Primitive prims.U8 } ∷ record { name = codes "h"; ty = values.Defined 3 } ∷ []))
    ∷ types.Func (record { async_ = true; params = record { name = codes "r"; ty = values.Defined 4 } ∷ []; result = None })
    ∷ []

-- the resource with index 1 is WIT's resource
abbrev resource_of : ℕ → Resource
resource_of index = DefinedAt (index + 6)

same_record : tree_at (type_trees resource_of [] definitions) 4 ≡ wit_tree (λ id. DefinedAt 7) some_types (Some (numbered 4))
unfolding values_from
same_record = refl

same_function : get_or (type_trees resource_of [] definitions) 5 OfOthers ≡ OfFunctions (wit_function_tree (λ id. DefinedAt 7) some_types method)
unfolding values_from
same_function = refl

-- an option of a type of functions is none of values
no_option : defined_tree (type_trees resource_of [] definitions) (defined.Option (values.Defined 0)) ≡ OptionOf Unknown
no_option = refl
