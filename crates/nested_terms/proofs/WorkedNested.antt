-- Worked examples: the nested component of an interface with two functions of one type, one of an
-- interface that uses a resource, and one of an interface with a type of its own.
use Rattle.std.proofs.Common.{◌≡◌, ℕ, false, List, [], ◌∷◌, refl, Some, None, arith}
use Rattle.std.specs.Prelude.{codes}
use Rattle.comp_bytes.specs.declared.space.Sort.TheVariants as sorts
use Rattle.comp_bytes.specs.declared.types.ExternName.{ExternName}
use Rattle.standard_kinds.specs.declared.kinds.Primitive.TheVariants as prims
use Rattle.comp_bytes.specs.declared.types.ComponentValType.TheVariants as values
use Rattle.comp_bytes.specs.declared.types.DefinedType.TheVariants as defined
use Rattle.comp_bytes.specs.declared.types.Description.TheVariants as descriptions
use Rattle.comp_bytes.specs.declared.types.TypeDef.TheVariants as types
use Rattle.comp_bytes.specs.declared.def.Item.{Item}
use Rattle.comp_bytes.specs.declared.def.Item.TheVariants as items
use Rattle.comp_trees.specs.Trees.{Tree, ImportedAt, PrimitiveOf, ResourceAt, OwnOf, OptionOf, FunctionTree}
use Rattle.comp_trees.specs.DefinedTrees.{TypeTree, OfValues, OfFunctions, OfOthers}
use Rattle.comp_trees.specs.Members.{IsOfFunctions}
use Rattle.nested_terms.specs.Nested.{ImportedFunction, ImportedType, ExportedFunction, ExportedType, empty_scope, functions_imported, types_imported, imports_after, exports_after, AreItemsRight}

abbrev named : List ℕ → ExternName
named text = record { name = text; version_suffix = None }

-- ---- two functions of equal type: the type is written once for the imports and once for the exports

abbrev nothing : FunctionTree
nothing = record { is_async = false; params = []; result = None }

abbrev func : Item
func = items.Type (types.Func (record { async_ = false; params = []; result = None }))

abbrev two : List Item
two =
    func
    ∷ items.Import (named (codes "import-func-f")) (descriptions.Func 0)
    ∷ items.Import (named (codes "import-func-g")) (descriptions.Func 0)
    ∷ func
    ∷ items.Export (named (codes "f")) sorts.Func 0 (Some (descriptions.Func 1))
    ∷ items.Export (named (codes "g")) sorts.Func 1 (Some (descriptions.Func 1))
    ∷ []

abbrev no_types : List ℕ → TypeTree
no_types name = OfOthers

is_function : IsOfFunctions (OfFunctions nothing ∷ []) 0
is_function = record { type = nothing; tree = refl }

two_right : AreItemsRight no_types empty_scope two
two_right = (refl, (is_function, (is_function, (refl, ((omega arith, omega arith, refl), ((omega arith, omega arith, refl), tt))))))

two_imports : imports_after no_types empty_scope two ≡ ImportedFunction (codes "import-func-f") (OfFunctions nothing) ∷ ImportedFunction (codes "import-func-g") (OfFunctions nothing) ∷ []
two_imports = refl

two_exports :
    exports_after no_types empty_scope two
    ≡ ExportedFunction (codes "f") (record { argument = codes "import-func-f"; type = OfFunctions nothing })
    ∷ ExportedFunction (codes "g") (record { argument = codes "import-func-g"; type = OfFunctions nothing })
    ∷ []
two_exports = refl

-- ---- a resource that is given, and a type that is made of it

abbrev resource : Tree
resource = ResourceAt (ImportedAt (record { number = 0; inner = Some (codes "r") }))

abbrev given : List ℕ → TypeTree
given name = OfValues resource

abbrev with_resource : List Item
with_resource =
    items.Import (named (codes "import-type-r")) descriptions.SubResource
    ∷ items.Type (types.Defined (defined.Own 0))
    ∷ items.Export (named (codes "t")) sorts.Type 1 None
    ∷ []

resource_right : AreItemsRight given empty_scope with_resource
resource_right = (record { resource = ImportedAt (record { number = 0; inner = Some (codes "r") }); same = refl }, (refl, (omega arith, tt)))

resource_imports : imports_after given empty_scope with_resource ≡ ImportedType (codes "import-type-r") (OfValues resource) ∷ []
resource_imports = refl

resource_exports : exports_after given empty_scope with_resource ≡ ExportedType (codes "t") (OfValues (OwnOf resource)) ∷ []
resource_exports = refl

-- ---- a type of the interface: it is defined and imported as equal for the function that takes it, and then defined again and exported

abbrev with_type : List Item
with_type =
    items.Type (types.Defined (defined.«Option» (values.Primitive prims.U8)))
    ∷ items.Import (named (codes "import-type-t")) (descriptions.TypeEqual 0)
    ∷ items.Type (types.Func (record { async_ = false; params = record { name = codes "x"; ty = values.Defined 1 } ∷ []; result = None }))
    ∷ items.Import (named (codes "import-func-f")) (descriptions.Func 2)
    ∷ items.Type (types.Defined (defined.«Option» (values.Primitive prims.U8)))
    ∷ items.Export (named (codes "t")) sorts.Type 3 None
    ∷ items.Type (types.Func (record { async_ = false; params = record { name = codes "x"; ty = values.Defined 4 } ∷ []; result = None }))
    ∷ items.Export (named (codes "f")) sorts.Func 0 (Some (descriptions.Func 5))
    ∷ []

abbrev option : Tree
option = OptionOf (PrimitiveOf prims.U8)

abbrev takes_option : FunctionTree
takes_option = record { is_async = false; params = record { name = codes "x"; tree = option } ∷ []; result = None }

with_type_right : AreItemsRight no_types empty_scope with_type
with_type_right = (refl, (omega arith, (refl, (record { type = takes_option; tree = refl }, (refl, (omega arith, (refl, ((omega arith, omega arith, refl), tt))))))))

with_type_functions : functions_imported (imports_after no_types empty_scope with_type) ≡ record { argument = codes "import-func-f"; type = OfFunctions takes_option } ∷ []
with_type_functions = refl

with_type_types : types_imported (imports_after no_types empty_scope with_type) ≡ (codes "import-type-t", OfValues option) ∷ []
with_type_types = refl

with_type_exports : exports_after no_types empty_scope with_type ≡ ExportedType (codes "t") (OfValues option) ∷ ExportedFunction (codes "f") (record { argument = codes "import-func-f"; type = OfFunctions takes_option }) ∷ []
with_type_exports = refl
