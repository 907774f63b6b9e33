-- A worked example: two functions of one type are passed on under their own names.
use Rattle.std.proofs.Common.{◌≡◌, ℕ, false, List, [], ◌∷◌, refl, None}
use Rattle.std.specs.Prelude.{codes}
use Rattle.wit_data.specs.declared.functions.Function.{Function}
use Rattle.wit_data.specs.declared.functions.FunctionKind.TheVariants as kinds
use Rattle.wit_data.specs.declared.ids.TypeId.{TypeId}
use Rattle.comp_trees.specs.Trees.{Resource, FunctionTree}
use Rattle.comp_trees.specs.DefinedTrees.{OfFunctions}
use Rattle.nested_terms.specs.Nested.{ExportedFunction}
use Rattle.nested_components.specs.Functions.{functions_of, nested_functions, exported}

abbrev free : List ℕ → Function
free name = record { name = name; kind = kinds.Freestanding; params = []; result = None }

abbrev fs : List Function
fs = functions_of ((codes "f", free (codes "f")) ∷ (codes "g", free (codes "g")) ∷ [])

abbrev names : List (List ℕ)
names = codes "import-func-f" ∷ codes "import-func-g" ∷ []

abbrev nothing : FunctionTree
nothing = record { is_async = false; params = []; result = None }

two_functions : (origin : TypeId → Resource) →
    nested_functions origin [] fs names
    ≡ record { argument = codes "import-func-f"; type = OfFunctions nothing }
    ∷ record { argument = codes "import-func-g"; type = OfFunctions nothing }
    ∷ []
two_functions origin = refl

two_exports : (origin : TypeId → Resource) →
    exported fs (nested_functions origin [] fs names)
    ≡ ExportedFunction (codes "f") (record { argument = codes "import-func-f"; type = OfFunctions nothing })
    ∷ ExportedFunction (codes "g") (record { argument = codes "import-func-g"; type = OfFunctions nothing })
    ∷ []
two_exports origin = refl
